-- The Consumers of a Router behind what an event makes of it: each that stays has set its flags, and nothing else.
use Rattle.std.proofs.Common.{◌≡◌, ℕ, List, [], ◌∷◌, ◌++◌, ◌&&◌, ◌||◌, ◌==◌, Bool, true, false, cond, not, map, filter, Option, Some, None, option_map, refl, sym, ap, subst, ◌∙◌, bytes_eq}
use Rattle.std.specs.List.{find, AllByRecursion, IsDistinct, list_any, zip}
use Rattle.std.specs.Cmp.Lexicographic.{nat_list_eq_equiv}
use Rattle.std.proofs.lemmas.List.{map-append}
use Rattle.std.proofs.lemmas.Map.Keys.{IsDistinct-head, IsDistinct-tail, IsDistinct-cons, IsDistinct-push}
use Rattle.ms_base.specs.declared.id.Id.{Id}
use Rattle.rtp_extension.specs.declared.mapped.Flags.{Flags}
use Rattle.rtp_extension.specs.Activity.{is_active}
use Rattle.rtp_params.specs.declared.encoding.Encoding.{Encoding}
use Rattle.rtp_params.specs.declared.params.Params.{Params}
use Rattle.simple_consumer.specs.Sending.{Offer, Sending, takes, behind_packet, behind_flags}
use Rattle.pipe_consumer.specs.Streams.{stream_of, streams_of, behind_offer, behind_setting}
use Rattle.worker_router.specs.State.{Sink, same_id}
use Rattle.worker_router.specs.Calls.{change, set_flags}
use Rattle.worker_engine.specs.Packets.{offered_to}
use Rattle.worker_engine.proofs.Ids.{same-is, same-sym, find-map, found-passes, found-holds, found-by-id, Differ}

-- ---- lists

module _ {A : Type 0} where
  some-is : (x y : A) → Some x ≡ Some y → x ≡ y
  some-is x y e = cc

  module _ (p : A → Bool) where
    filter-at : (keep : A → Bool) (x : A) (xs : List A) (b : Bool) → find p (filter keep xs) ≡ find (λ y. keep y && p y) xs
        → find p (cond b (x ∷ filter keep xs) (filter keep xs)) ≡ cond (b && p x) (Some x) (find (λ y. keep y && p y) xs)
    filter-at keep x xs true more = ap (λ o. cond (p x) (Some x) o) more
    filter-at keep x xs false more = more

    -- what is found among those that are kept
    pub find-filter : (keep : A → Bool) (xs : List A) → find p (filter keep xs) ≡ find (λ y. keep y && p y) xs
    find-filter keep [] = refl
    find-filter keep (x ∷ xs) = filter-at keep x xs (keep x) (find-filter keep xs)

    first-by : (b : Bool) (x y : A) (o q : Option A) → (o ≡ Some y → q ≡ Some y) → cond b (Some x) o ≡ Some y → cond b (Some x) q ≡ Some y
    first-by true x y o q more e = e
    first-by false x y o q more e = more e

    -- what is found stays so with more behind it
    pub found-first : (xs ys : List A) (y : A) → find p xs ≡ Some y → find p (xs ++ ys) ≡ Some y
    found-first [] ys y e = cc
    found-first (x ∷ xs) ys y e = first-by (p x) x y (find p xs) (find p (xs ++ ys)) (found-first xs ys y) e

    past-by : (b : Bool) (x : A) (o q r : Option A) → (o ≡ None → q ≡ r) → cond b (Some x) o ≡ None → cond b (Some x) q ≡ r
    past-by true x o q r more e = cc
    past-by false x o q r more e = more e

    -- where none is found, what is behind is looked at
    pub none-past : (xs ys : List A) → find p xs ≡ None → find p (xs ++ ys) ≡ find p ys
    none-past [] ys e = refl
    none-past (x ∷ xs) ys e = past-by (p x) x (find p xs) (find p (xs ++ ys)) (find p ys) (none-past xs ys) e

  all-at : (P : A → Type 0) (x : A) (ys : List A) (b : Bool) → P x → AllByRecursion P ys → AllByRecursion P (cond b (x ∷ ys) ys)
  all-at P x ys true px more = (px, more)
  all-at P x ys false px more = more

  all-filter : (P : A → Type 0) (keep : A → Bool) (xs : List A) → AllByRecursion P xs → AllByRecursion P (filter keep xs)
  all-filter P keep [] all = tt
  all-filter P keep (x ∷ xs) all = all-at P x (filter keep xs) (keep x) all.0 (all-filter P keep xs all.1)

  all-push : (P : A → Type 0) (xs : List A) (x : A) → AllByRecursion P xs → P x → AllByRecursion P (xs ++ x ∷ [])
  all-push P [] x all px = (px, tt)
  all-push P (y ∷ ys) x all px = (all.0, all-push P ys x all.1 px)

  changed-at : (P : A → Type 0) (f : A → A) (x : A) (b : Bool) → P x → P (f x) → P (cond b (f x) x)
  changed-at P f x true px pf = pf
  changed-at P f x false px pf = px

  all-change : (P : A → Type 0) (test : A → Bool) (f : A → A) → ((x : A) → P x → P (f x)) → (xs : List A) → AllByRecursion P xs → AllByRecursion P (change test f xs)
  all-change P test f keeps [] all = tt
  all-change P test f keeps (x ∷ xs) all = (changed-at P f x (test x) all.0 (keeps x all.0), all-change P test f keeps xs all.1)

-- ---- ids

abbrev own : Sink → Id
own c = c.id

abbrev keys : List Sink → List (List ℕ)
keys cs = map (λ c. c.id.0) cs

key-at : (f : Sink → Sink) (c : Sink) (b : Bool) → (f c).id ≡ c.id → (cond b (f c) c).id ≡ c.id
key-at f c true e = e
key-at f c false e = refl

module _ (test : Sink → Bool) (f : Sink → Sink) (keeps : (c : Sink) → (f c).id ≡ c.id) where
  keys-change : (cs : List Sink) → keys (change test f cs) ≡ keys cs
  keys-change [] = refl
  keys-change (c ∷ cs) =
      let here : (cond (test c) (f c) c).id ≡ c.id = key-at f c (test c) (keeps c) in
      let left : keys (change test f cs) ≡ keys cs = keys-change cs in
      (λ j. (here j).0 ∷ left j)

  differ-change : (cs : List Sink) → Differ own cs → Differ own (change test f cs)
  differ-change cs d = subst (IsDistinct bytes_eq) (sym (keys-change cs)) d

  -- the Consumer of an id behind a change
  pub find-change : (id : Id) (cs : List Sink) → find (λ (c : Sink). same_id c.id id) (change test f cs) ≡ option_map (λ c. cond (test c) (f c) c) (find (λ (c : Sink). same_id c.id id) cs)
  find-change id cs =
      find-map (λ (c : Sink). same_id c.id id) (λ c. cond (test c) (f c) c) (λ c. ap (λ (k : Id). same_id k id) (key-at f c (test c) (keeps c))) cs

apart-at : (k : List ℕ) (c : Sink) (ys : List Sink) (b : Bool) → bytes_eq k c.id.0 ≡ false → AllByRecursion (λ y. bytes_eq k y ≡ false) (keys ys)
    → AllByRecursion (λ y. bytes_eq k y ≡ false) (keys (cond b (c ∷ ys) ys))
apart-at k c ys true e more = (e, more)
apart-at k c ys false e more = more

apart-filter : (k : List ℕ) (keep : Sink → Bool) (cs : List Sink) → AllByRecursion (λ y. bytes_eq k y ≡ false) (keys cs) → AllByRecursion (λ y. bytes_eq k y ≡ false) (keys (filter keep cs))
apart-filter k keep [] all = tt
apart-filter k keep (c ∷ cs) all = apart-at k c (filter keep cs) (keep c) all.0 (apart-filter k keep cs all.1)

differ-at : (c : Sink) (ys : List Sink) (b : Bool) → AllByRecursion (λ y. bytes_eq c.id.0 y ≡ false) (keys ys) → Differ own ys → Differ own (cond b (c ∷ ys) ys)
differ-at c ys true apart d = IsDistinct-cons bytes_eq c.id.0 (keys ys) apart d
differ-at c ys false apart d = d

differ-filter : (keep : Sink → Bool) (cs : List Sink) → Differ own cs → Differ own (filter keep cs)
differ-filter keep [] d = d
differ-filter keep (c ∷ cs) d =
    differ-at c (filter keep cs) (keep c) (apart-filter c.id.0 keep cs (IsDistinct-head bytes_eq c.id.0 (keys cs) d)) (differ-filter keep cs (IsDistinct-tail bytes_eq c.id.0 (keys cs) d))

none-any-by : (b : Bool) (c : Sink) (o : Option Sink) (a : Bool) → (o ≡ None → a ≡ false) → cond b (Some c) o ≡ None → b || a ≡ false
none-any-by true c o a more e = cc
none-any-by false c o a more e = more e

none-any : (id : Id) (cs : List Sink) → find (λ (c : Sink). same_id c.id id) cs ≡ None → list_any (bytes_eq id.0) (keys cs) ≡ false
none-any id [] e = refl
none-any id (c ∷ cs) e =
    ap (λ b. b || list_any (bytes_eq id.0) (keys cs)) (same-sym id c.id)
    ∙ none-any-by (same_id c.id id) c (find (λ (x : Sink). same_id x.id id) cs) (list_any (bytes_eq id.0) (keys cs)) (none-any id cs) e

differ-push : (cs : List Sink) (c : Sink) → Differ own cs → find (λ (x : Sink). same_id x.id c.id) cs ≡ None → Differ own (cs ++ c ∷ [])
differ-push cs c d free =
    subst (IsDistinct bytes_eq) (sym (map-append (λ (x : Sink). x.id.0) cs (c ∷ []))) (IsDistinct-push nat_list_eq_equiv (keys cs) c.id.0 d (none-any c.id cs free))

-- ---- flags

-- a stream has these flags
abbrev pub HasFlags : Flags → Sending → Type 0
HasFlags f s = s.flags ≡ f

-- a Consumer's streams have its flags
abbrev pub IsTuned : Sink → Type 0
IsTuned c = AllByRecursion (HasFlags c.flags) c.streams

neither : {A : Type 0} (b : Bool) (x y : A) → cond (b && not b) x y ≡ y
neither true x y = refl
neither false x y = refl

own-flags : (s : Sending) → behind_flags s s.flags ≡ s
own-flags s = neither (is_active s.flags) _ _

-- the same flags change nothing
pub same-setting : (f : Flags) (ss : List Sending) → AllByRecursion (HasFlags f) ss → behind_setting f ss ≡ ss
same-setting f [] all = refl
same-setting f (s ∷ ss) all =
    let here : behind_flags s f ≡ s = subst (λ (g : Flags). behind_flags s g ≡ s) all.0 (own-flags s) in
    let left : behind_setting f ss ≡ ss = same-setting f ss all.1 in
    (λ j. here j ∷ left j)

flags-set-by : (b : Bool) (s t : Sending) (f : Flags) → s.flags ≡ f → t.flags ≡ f → (cond b s t).flags ≡ f
flags-set-by true s t f p q = p
flags-set-by false s t f p q = q

flags-set : (s : Sending) (f : Flags) → (behind_flags s f).flags ≡ f
flags-set s f = flags-set-by (is_active f && not (is_active s.flags)) _ _ f refl refl

all-set : (f : Flags) (ss : List Sending) → AllByRecursion (HasFlags f) (behind_setting f ss)
all-set f [] = tt
all-set f (s ∷ ss) = (flags-set s f, all-set f ss)

flags-stay : (s : Sending) (o : Offer) → (behind_packet s o).flags ≡ s.flags
flags-stay s o = flags-set-by (takes s o.mapped) _ s s.flags refl refl

offer-at : (f : Flags) (o : Offer) (s : Sending) (ss : List Sending) (b : Bool) → HasFlags f s → AllByRecursion (HasFlags f) ss → AllByRecursion (HasFlags f) (behind_offer ss o)
    → AllByRecursion (HasFlags f) (cond b (behind_packet s o ∷ ss) (s ∷ behind_offer ss o))
offer-at f o s ss true e all more = (flags-stay s o ∙ e, all)
offer-at f o s ss false e all more = (e, more)

all-offered : (f : Flags) (o : Offer) (ss : List Sending) → AllByRecursion (HasFlags f) ss → AllByRecursion (HasFlags f) (behind_offer ss o)
all-offered f o [] all = tt
all-offered f o (s ∷ ss) all = offer-at f o s ss (o.mapped.ssrc == s.mapped) all.0 all.1 (all-offered f o ss all.1)

all-new : (params : Params) (f : Flags) (ends : List (ℕ × Encoding)) → AllByRecursion (HasFlags f) (map (stream_of params f) ends)
all-new params f [] = tt
all-new params f (e ∷ es) = (refl, all-new params f es)

pub new-tuned : (params : Params) (ssrcs : List ℕ) (f : Flags) → AllByRecursion (HasFlags f) (streams_of params ssrcs f)
new-tuned params ssrcs f = all-new params f (zip ssrcs params.encodings)

-- ---- the Consumers of a Router

pub record AreSound (cs : List Sink) : Type 0 where
  pub differ : Differ own cs
  pub tuned : AllByRecursion IsTuned cs

pub none-sound : AreSound []
unfolding IsDistinct
none-sound = record { differ = tt; tuned = tt }

abbrev pub sink_in : List Sink → Id → Option Sink
sink_in cs id = find (λ (c : Sink). same_id c.id id) cs

-- the flags of the later one were set on the earlier one's streams
abbrev pub IsSet : Sink → Sink → Type 0
IsSet c d = d.streams ≡ behind_setting d.flags c.streams

-- what becomes of the Consumers, where `New` holds of each that wasn't there before
pub record Follows (New : Id → Sink → Type 0) (cs ds : List Sink) : Type 0 where
  pub sound : AreSound ds
  pub begins : (id : Id) (d : Sink) → sink_in cs id ≡ None → sink_in ds id ≡ Some d → New id d
  pub goes : (id : Id) (c d : Sink) → sink_in cs id ≡ Some c → sink_in ds id ≡ Some d → IsSet c d

module _ (New : Id → Sink → Type 0) (cs : List Sink) (s : AreSound cs) where
  same-set : (c d : Sink) → IsTuned c → c ≡ d → IsSet c d
  same-set c d t e = subst (IsSet c) e (sym (same-setting c.flags c.streams t))

  found-tuned : (id : Id) (c : Sink) → sink_in cs id ≡ Some c → IsTuned c
  found-tuned id c e = found-holds (λ (x : Sink). same_id x.id id) IsTuned cs c s.tuned e

  pub follows-same : Follows New cs cs
  follows-same = record {
    sound = s;
    begins = λ id d e g. (let no : None ≡ Some d = sym e ∙ g in cc);
    goes = λ id c d e g. same-set c d (found-tuned id c e) (some-is c d (sym e ∙ g));
  }

  set-by : (f : Sink → Flags) (b : Bool) (c : Sink) → IsTuned c → IsSet c (cond b (set_flags c (f c)) c)
  set-by f true c t = refl
  set-by f false c t = sym (same-setting c.flags c.streams t)

  pub follows-set : (test : Sink → Bool) (f : Sink → Flags) → Follows New cs (change test (λ c. set_flags c (f c)) cs)
  follows-set test f = record {
    sound = record {
      differ = differ-change test (λ c. set_flags c (f c)) (λ c. refl) cs s.differ;
      tuned = all-change IsTuned test (λ c. set_flags c (f c)) (λ c t. all-set (f c) c.streams) cs s.tuned;
    };
    begins = λ id d e g.
        (let no : None ≡ Some d =
        sym (find-change test (λ x. set_flags x (f x)) (λ x. refl) id cs ∙ ap (option_map (λ x. cond (test x) (set_flags x (f x)) x)) e) ∙ g in cc);
    goes = λ id c d e g.
        subst (IsSet c)
        (some-is (cond (test c) (set_flags c (f c)) c) d
        (sym (find-change test (λ x. set_flags x (f x)) (λ x. refl) id cs ∙ ap (option_map (λ x. cond (test x) (set_flags x (f x)) x)) e) ∙ g))
        (set-by f (test c) c (found-tuned id c e));
  }

  -- the one of an id among those that are kept is the one that it was
  kept-found : (keep : Sink → Bool) (id : Id) (d : Sink) → sink_in (filter keep cs) id ≡ Some d → sink_in cs id ≡ Some d
  kept-found keep id d g =
      let same : d.id ≡ id = same-is d.id id (found-passes (λ (x : Sink). same_id x.id id) (filter keep cs) d g) in
      subst (λ (k : Id). sink_in cs k ≡ Some d) same
      (found-by-id own (λ (x : Sink). keep x && same_id x.id id) cs d s.differ (sym (find-filter (λ (x : Sink). same_id x.id id) keep cs) ∙ g))

  pub follows-kept : (keep : Sink → Bool) → Follows New cs (filter keep cs)
  follows-kept keep = record {
    sound = record { differ = differ-filter keep cs s.differ; tuned = all-filter IsTuned keep cs s.tuned };
    begins = λ id d e g. (let no : None ≡ Some d = sym e ∙ kept-found keep id d g in cc);
    goes = λ id c d e g. same-set c d (found-tuned id c e) (some-is c d (sym e ∙ kept-found keep id d g));
  }

  new-is : (n : Sink) → New n.id n → (id : Id) (b : Bool) → same_id n.id id ≡ b → (d : Sink) → cond b (Some n) None ≡ Some d → New id d
  new-is n new id true t d e = subst (New id) (some-is n d e) (subst (λ (i : Id). New i n) (same-is n.id id t) new)
  new-is n new id false t d e = cc

  pub follows-new : (n : Sink) → IsTuned n → New n.id n → sink_in cs n.id ≡ None → Follows New cs (cs ++ n ∷ [])
  follows-new n t new free = record {
    sound = record { differ = differ-push cs n s.differ free; tuned = all-push IsTuned cs n s.tuned t };
    begins = λ id d e g. new-is n new id (same_id n.id id) refl d (sym (none-past (λ (x : Sink). same_id x.id id) cs (n ∷ []) e) ∙ g);
    goes = λ id c d e g. same-set c d (found-tuned id c e) (some-is c d (sym (found-first (λ (x : Sink). same_id x.id id) cs (n ∷ []) c e) ∙ g));
  }

pub sound-offered : (cs : List Sink) → AreSound cs → (test : Sink → Bool) (o : Offer) → AreSound (change test (offered_to o) cs)
sound-offered cs s test o = record {
  differ = differ-change test (offered_to o) (λ c. refl) cs s.differ;
  tuned = all-change IsTuned test (offered_to o) (λ c t. all-offered c.flags o c.streams t) cs s.tuned;
}
