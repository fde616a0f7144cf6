-- What is looked up in a Router.
use Rattle.std.proofs.Common.{◌≡◌, ℕ, zero, suc, List, [], ◌∷◌, ◌&&◌, ◌||◌, Bool, true, false, cond, not, map, filter, find, slice_get, Option, Some, None, Result, is_some, bytes_eq, refl, sym, ap, subst, ◌∙◌, true≢false}
use Rattle.std.specs.List.{AllByRecursion, IsDistinct, list_any}
use Rattle.std.specs.Option.{option_map, option_and_then}
use Rattle.std.proofs.lemmas.Option.{slice_get-map}
use Rattle.ms_base.specs.declared.id.Id.{Id}
use Rattle.producer.specs.Received.{media_of, mapped_ssrc, mapped_as, mapped_to, is_media_ssrc}
use Rattle.rtp_packet.specs.Packet.{Fields}
use Rattle.rtp_params.specs.declared.codec.Codec.{Codec}
use Rattle.rtp_params.specs.declared.encoding.Encoding.{Encoding}
use Rattle.rtp_params.specs.Encodings.{is_own}
use Rattle.worker_router.specs.State.{RouterState, Sink, Source, TransportAt, consumer_of, is_of, is_on, producer_of, same_id, transport_of}
use Rattle.rtp_extension.specs.declared.mapped.Flags.{Flags}
use Rattle.rtp_extension.specs.declared.mapped.Mapped.{Mapped}
use Rattle.simple_consumer.specs.Sending.{offer}
use Rattle.pipe_consumer.specs.Streams.{passed_by}
use Rattle.worker_router.specs.Calls.{after_offer, behind_pass, change, clashes, comes_by, consumer_at, first_flags, offered, passed_for, receiver, receives}
use Rattle.worker_router.specs.declared.fault.RouterFault.{RouterFault}
use Rattle.worker_router.specs.declared.fault.RouterFault.TheVariants as fault
use Rattle.worker_router.specs.Tables.{AreDifferent, AreTables, FeedView, Outlet, Outline, checked, checked_with, id_of, ids_in, is_listed, outlet_of, outline_of, owner_in, owns, places_of, present, router_of}
use Rattle.worker_router.proofs.ByIdLemmas.{same-bytes}
use Rattle.worker_router.proofs.ListLemmas.{all-kept, founds, change-by, differ-filter, kept-present, map-map, map-filter, find-map, is-some-map, present-map, all-over, all-under, all-map, any-find, find-test, guard, guarded, find-by, is}
use Rattle.worker_router.proofs.TableLemmas.{and-join, and-split, cid, is_fed, no-map, none-fed, owner-is, pid, place}

abbrev pub fid : FeedView → Id
fid f = f.source.id

abbrev pub source : FeedView → Source
source f = f.source

-- ---- where an item of a list is one of a list of tests

any-congr : {X : Type 0} (f g : X → Bool) → ((x : X) → f x ≡ g x) → (xs : List X) → list_any f xs ≡ list_any g xs
any-congr f g same [] = refl
any-congr f g same (x ∷ xs) =
    let here = same x in
    let left = any-congr f g same xs in
    (λ j. here j || left j)

swap-or : (a b c d : Bool) → (a || b) || (c || d) ≡ (a || c) || (b || d)
swap-or true b c d = refl
swap-or false true true d = refl
swap-or false true false d = refl
swap-or false false c d = refl

any-or : {X : Type 0} (f g : X → Bool) (xs : List X) → list_any f xs || list_any g xs ≡ list_any (λ x. f x || g x) xs
any-or f g [] = refl
any-or f g (x ∷ xs) = swap-or (f x) (list_any f xs) (g x) (list_any g xs) ∙ ap (λ b. (f x || g x) || b) (any-or f g xs)

and-or : (a b c : Bool) → (a && b) || (a && c) ≡ a && (b || c)
and-or true b c = refl
and-or false b c = refl

and-false : (a : Bool) → a && false ≡ false
and-false true = refl
and-false false = refl

none-of-any : {X : Type 0} (a : X → Bool) (xs : List X) → false ≡ list_any (λ x. a x && false) xs
none-of-any a [] = refl
none-of-any a (x ∷ xs) = none-of-any a xs ∙ ap (λ b. b || list_any (λ y. a y && false) xs) (sym (and-false (a x)))

any-swap : {X Y : Type 0} (a : X → Bool) (b : X → Y → Bool) (xs : List X) (ys : List Y)
    → list_any (λ y. list_any (λ x. a x && b x y) xs) ys ≡ list_any (λ x. a x && list_any (b x) ys) xs
any-swap a b xs [] = none-of-any a xs
any-swap a b xs (y ∷ ys) =
    ap (λ c. list_any (λ x. a x && b x y) xs || c) (any-swap a b xs ys)
    ∙ (any-or (λ x. a x && b x y) (λ x. a x && list_any (b x) ys) xs
    ∙ any-congr (λ x. (a x && b x y) || (a x && list_any (b x) ys)) (λ x. a x && (b x y || list_any (b x) ys)) (λ x. and-or (a x) (b x y) (list_any (b x) ys)) xs)

-- ---- lists

all-found-at : {X : Type 0} (P : X → Type 0) (t : X → Bool) (y x : X) (b : Bool) (o : Option X) → cond b (Some y) o ≡ Some x → P y → (o ≡ Some x → P x) → P x
all-found-at P t y x true o e p more = let this : y ≡ x = cc in subst P this p
all-found-at P t y x false o e p more = more e

-- what holds of each holds of the one that is found
pub all-found : {X : Type 0} (P : X → Type 0) (t : X → Bool) (xs : List X) (x : X) → AllByRecursion P xs → find t xs ≡ Some x → P x
all-found P t [] x h e = absurd (true≢false (sym (ap is_some e)))
all-found P t (y ∷ xs) x h e = all-found-at P t y x (t y) (find t xs) e h.0 (all-found P t xs x h.1)

-- the pairs of a Producer's Consumers
pub places-are : (cs : List Sink) (id : Id) → places_of (map outlet_of cs) id ≡ map (λ (c : Sink). (c.id, c.transport)) (filter (is_of id) cs)
places-are cs id = ap (map place) (sym (map-filter outlet_of (is_fed id) cs)) ∙ map-map outlet_of place (filter (λ c. is_fed id (outlet_of c)) cs)

pub feeds-differ : (fs : List FeedView) → AreDifferent pid (map outline_of fs) → AreDifferent fid fs
feeds-differ fs d = subst (IsDistinct bytes_eq) (map-map outline_of (λ (p : Outline). p.id.0) fs) d

pub id-same : (a b : Id) → same_id a b ≡ true → a ≡ b
id-same a b h = ap id_of (same-bytes a.0 b.0 h)

-- a change of those that pass a test looks at these alone
change-same : {X : Type 0} (t : X → Bool) (f g : X → X) (xs : List X) → AllByRecursion (λ x. t x ≡ true → f x ≡ g x) xs → change t f xs ≡ change t g xs
change-same t f g [] same = refl
change-same t f g (x ∷ xs) same = let here = one (t x) refl in let rest = change-same t f g xs same.1 in (λ j. here j ∷ rest j)
  where
    one : (b : Bool) → t x ≡ b → cond (t x) (f x) x ≡ cond (t x) (g x) x
    one true e = ap (λ y. cond (t x) y x) (same.0 e)
    one false e = ap (λ b. cond b (f x) x) e ∙ sym (ap (λ b. cond b (g x) x) e)

-- what holds of each holds of the one at a place
all-at : {X : Type 0} (P : X → Type 0) (xs : List X) (n : ℕ) (x : X) → AllByRecursion P xs → slice_get xs n ≡ Some x → P x
all-at P [] zero x h e = absurd (true≢false (sym (ap is_some e)))
all-at P [] (suc n) x h e = absurd (true≢false (sym (ap is_some e)))
all-at P (y ∷ xs) zero x h e = let this : y ≡ x = cc in subst P this h.0
all-at P (y ∷ xs) (suc n) x h e = all-at P xs n x h.1 e

-- ---- the Producer of a packet

own-by : (p : Source) (f : Fields) (b : Bool) (kind : Codec × ℕ) → is_some (option_map (mapped_as f.payload kind) (cond b (mapped_to p.stream.mapping.encodings f.ssrc) None)) ≡ true → b ≡ true
own-by p f true kind h = refl
own-by p f false kind h = absurd (true≢false (sym h))

own-at : (p : Source) (f : Fields) (o : Option (Codec × ℕ))
    → is_some (option_and_then (λ kind. option_map (mapped_as f.payload kind) (mapped_ssrc p.stream.params p.stream.mapping f.ssrc)) o) ≡ true → is_own p.stream.params.encodings f.ssrc ≡ true
own-at p f None h = absurd (true≢false (sym h))
own-at p f (Some kind) h = own-by p f (is_media_ssrc p.stream.params.encodings f.ssrc) kind h

-- a packet that a Producer receives has an own SSRC of it
own-of : (p : Source) (f : Fields) → is_some (receives f p) ≡ true → is_own p.stream.params.encodings f.ssrc ≡ true
own-of p f h = own-at p f (media_of p.stream.params p.stream.mapping f.payload_type) h

fewer : {X : Type 0} (t u : X → Bool) → ((x : X) → u x ≡ true → t x ≡ true) → (xs : List X) → find t xs ≡ None → find u xs ≡ None
fewer t u more [] none = refl
fewer t u more (x ∷ xs) none = by (t x) (u x) refl refl none (fewer t u more xs)
  where
    by : (a b : Bool) → t x ≡ a → u x ≡ b → cond a (Some x) (find t xs) ≡ None → (find t xs ≡ None → find u xs ≡ None) → cond b (Some x) (find u xs) ≡ None
    by true b p q none rest = absurd (true≢false (ap is_some none))
    by false true p q none rest = absurd (true≢false (sym (more x q) ∙ p))
    by false false p q none rest = rest none

pub some-back : (o : Option (List ℕ)) (i : Id) → Some i ≡ option_map id_of o → o ≡ Some i.0
some-back None i e = absurd (true≢false (ap is_some e))
some-back (Some b) i e = let same : i ≡ id_of b = cc in ap (λ (j : Id). Some j.0) (sym same)

-- the test for the Producer of a packet
abbrev is_received : Id → Fields → Source → Bool
is_received tr f p = is_on tr p && is_some (receives f p)

received-owns : (tr : Id) (f : Fields) (p : Source) → is_received tr f p ≡ true → (is_on tr p && is_own p.stream.params.encodings f.ssrc) ≡ true
received-owns tr f p h = let parts = and-split (is_on tr p) (is_some (receives f p)) h in and-join (is_on tr p) (is_own p.stream.params.encodings f.ssrc) parts.0 (own-of p f parts.1)

received-by : (tr : Id) (f : Fields) (p : Source) (i : Id) (k : Bool) (m : Option Mapped) → is_on tr p ≡ k → k ≡ true → p.id ≡ i
    → option_map (λ (q : Source). q.id) (cond (k && is_some m) (Some p) None) ≡ option_map (λ (n : Mapped). i) m
received-by tr f p i false m e h same = absurd (true≢false (sym h))
received-by tr f p i true None e h same = refl
received-by tr f p i true (Some m) e h same = ap Some same

-- ---- faults, by what was found

abbrev pub producer-fault : Bool → Bool → Bool → Result Unit RouterFault
producer-fault there taken clash = checked (cond (not there) (Some fault.Missing) (cond taken (Some fault.Exists) (cond clash (Some fault.Ssrc) None)))

abbrev pub consumer-flags : Bool → Option TransportAt → Option Source → Bool → Result Flags RouterFault
consumer-flags paused over of taken =
    checked_with (cond (not (is_some over && is_some of)) (Some fault.Missing) (cond taken (Some fault.Exists) None))
    (option_and_then (λ (at : TransportAt). option_map (λ (p : Source). first_flags at p paused) of) over)

pub const-some : {X Y : Type 0} (o : Option X) (y : Y) → is_some o ≡ true → option_map (λ (x : X). y) o ≡ Some y
const-some None y h = absurd (true≢false (sym h))
const-some (Some x) y h = refl

-- a change of what stands in a list of Producers
source-change-at : (g : Source → Source) (f : FeedView) (b : Bool) → source (cond b (record f { source = g f.source }) f) ≡ cond b (g f.source) f.source
source-change-at g f true = refl
source-change-at g f false = refl

pub source-change : (t : Source → Bool) (g : Source → Source) (fs : List FeedView) → map source (change (λ f. t f.source) (λ f. record f { source = g f.source }) fs) ≡ change t g (map source fs)
source-change t g [] = refl
source-change t g (f ∷ fs) = let here = source-change-at g f (t f.source) in let rest = source-change t g fs in (λ j. here j ∷ rest j)

-- and of what doesn't
attach-at : (g : FeedView → FeedView) → ((f : FeedView) → source (g f) ≡ source f) → (f : FeedView) (b : Bool) → source (cond b (g f) f) ≡ source f
attach-at g same f true = same f
attach-at g same f false = refl

pub source-attach : (t : FeedView → Bool) (g : FeedView → FeedView) → ((f : FeedView) → source (g f) ≡ source f) → (fs : List FeedView) → map source (change t g fs) ≡ map source fs
source-attach t g same [] = refl
source-attach t g same (f ∷ fs) = let here = attach-at g same f (t f) in let rest = source-attach t g same fs in (λ j. here j ∷ rest j)

-- ---- one Router

module _ (r : RouterState) (ts : List TransportAt) (fs : List FeedView) (cs : List Sink) (whole : router_of ts fs cs ≡ r) where
  pub transport-at : (id : Id) → find (λ t. same_id t.id id) ts ≡ transport_of r id
  transport-at id = ap (λ (q : RouterState). transport_of q id) whole

  pub sink-at : (id : Id) → find (λ c. same_id c.id id) cs ≡ consumer_of r id
  sink-at id = ap (λ (q : RouterState). consumer_of q id) whole

  pub source-at : (id : Id) → option_map source (find (λ f. same_id f.source.id id) fs) ≡ producer_of r id
  source-at id = sym (find-map source (λ p. same_id p.id id) fs) ∙ ap (λ (q : RouterState). producer_of q id) whole

  pub source-there : (id : Id) → is_some (find (λ f. same_id f.source.id id) fs) ≡ is_some (producer_of r id)
  source-there id = sym (is-some-map source (find (λ f. same_id f.source.id id) fs)) ∙ ap is_some (source-at id)

  module _ (own : List ((List ℕ × ℕ) × List ℕ)) (t : AreTables (map outline_of fs) (map outlet_of cs) own) where
    -- the list of a Producer that is found
    pub feed-list : (id : Id) (f : FeedView) → find (λ g. same_id g.source.id id) fs ≡ Some f → f.consumers ≡ places_of (map outlet_of cs) id
    feed-list id f e =
        all-found (λ g. g.consumers ≡ places_of (map outlet_of cs) g.source.id) (λ g. same_id g.source.id id) fs f (all-over outline_of (λ p. p.consumers ≡ places_of (map outlet_of cs) p.id) fs t.lists) e
        ∙ ap (places_of (map outlet_of cs)) (id-same f.source.id id (find-test (λ g. same_id g.source.id id) fs f e))

    -- these are its Consumers, and they are different
    pub listed-own : (id : Id) (f : FeedView) → find (λ g. same_id g.source.id id) fs ≡ Some f → (change-one : Sink → Sink) → change (is_listed f.consumers) change-one cs ≡ change (is_of id) change-one cs
    listed-own id f e change-one =
        ap (λ l. change (is_listed l) change-one cs) (feed-list id f e)
        ∙ change-by (is_listed (places_of (map outlet_of cs) id)) (is_of id) change-one cs
        (all-over outlet_of (λ o. present (λ at. at.0) (places_of (map outlet_of cs) id) o.id ≡ is_fed id o) cs
        (all-map (λ o. present cid (filter (is_fed id) (map outlet_of cs)) o.id ≡ is_fed id o) (λ o. present (λ at. at.0) (places_of (map outlet_of cs) id) o.id ≡ is_fed id o)
        (λ o there. present-map place (λ at. at.0) (filter (is_fed id) (map outlet_of cs)) o.id ∙ there) (map outlet_of cs) (kept-present cid (is_fed id) (map outlet_of cs) t.consumers_differ)))

    pub own-differ : (id : Id) (f : FeedView) → find (λ g. same_id g.source.id id) fs ≡ Some f → IsDistinct bytes_eq (ids_in f.consumers)
    own-differ id f e =
        subst (λ l. IsDistinct bytes_eq (ids_in l)) (sym (feed-list id f e))
        (subst (IsDistinct bytes_eq) (sym (map-map place (λ at. at.0.0) (filter (is_fed id) (map outlet_of cs)))) (differ-filter cid (is_fed id) (map outlet_of cs) t.consumers_differ))

    list-at-all : (id : Id) (at : ℕ) (o : Option FeedView) → find (λ g. same_id g.source.id id) fs ≡ o
        → option_and_then (λ (f : FeedView). slice_get f.consumers at) o ≡ slice_get (places_of (map outlet_of cs) id) at
    list-at-all id at None e =
        sym (ap (λ (os : List Outlet). slice_get (map place os) at) (none-fed id (map outline_of fs) (map outlet_of cs) t.sources (present-map outline_of pid fs id ∙ ap is_some e)))
    list-at-all id at (Some f) e = ap (λ l. slice_get l at) (feed-list id f e)

    pub consumers-at : (id : Id) (at : ℕ) → option_and_then (λ (f : FeedView). slice_get f.consumers at) (find (λ g. same_id g.source.id id) fs) ≡ consumer_at r id at
    consumers-at id at =
        list-at-all id at (find (λ g. same_id g.source.id id) fs) refl
        ∙ (ap (λ l. slice_get l at) (places-are cs id)
        ∙ (slice_get-map (λ (c : Sink). (c.id, c.transport)) (filter (is_of id) cs) at ∙ ap (λ (q : RouterState). consumer_at q id at) whole))

    sinks-differ : AreDifferent (λ (c : Sink). c.id) cs
    sinks-differ = subst (IsDistinct bytes_eq) (map-map outlet_of (λ (o : Outlet). o.id.0) cs) t.consumers_differ

    -- what stands at a place of a Producer's list is one of its Consumers
    abbrev pub IsTo : Id → Id → Type 0
    IsTo id to = (c : Sink) × (find (λ s. same_id s.id to) cs ≡ Some c) × (c.producer ≡ id)

    module _ (id : Id) (f : FeedView) (found : find (λ g. same_id g.source.id id) fs ≡ Some f) (at : ℕ) (to : Id × Id) (there : slice_get f.consumers at ≡ Some to) where
      to-by : (o : Option Sink) → slice_get (filter (is_of id) cs) at ≡ o → option_map (λ (c : Sink). (c.id, c.transport)) o ≡ Some to → IsTo id to.0
      to-by None e same = absurd (true≢false (sym (ap is_some same)))
      to-by (Some c) e same =
          let here : (c.id, c.transport) ≡ to = cc in
          let kept : (find (λ s. same_id s.id c.id) cs ≡ Some c) × (is_of id c ≡ true) =
          all-at (λ x. (find (λ s. same_id s.id x.id) cs ≡ Some x) × (is_of id x ≡ true)) (filter (is_of id) cs) at c
          (all-kept (λ x. (find (λ s. same_id s.id x.id) cs ≡ Some x) × (is_of id x ≡ true)) (is_of id) cs
          (all-map (λ x. find (λ s. same_id s.id x.id) cs ≡ Some x) (λ x. is_of id x ≡ true → (find (λ s. same_id s.id x.id) cs ≡ Some x) × (is_of id x ≡ true))
          (λ x by-id mine. (by-id, mine)) cs (founds (λ (c : Sink). c.id) cs sinks-differ))) e in
          (c, ap (λ (p : Id × Id). find (λ (s : Sink). same_id s.id p.0) cs) (sym here) ∙ kept.0, id-same c.producer id kept.1)

      pub to-is : IsTo id to.0
      to-is = to-by (slice_get (filter (is_of id) cs) at) refl
          (sym (slice_get-map (λ (c : Sink). (c.id, c.transport)) (filter (is_of id) cs) at) ∙ (ap (λ l. slice_get l at) (sym (feed-list id f found ∙ places-are cs id)) ∙ there))

    -- the Producer of a Consumer is there
    pub fed-there : (id : Id) (c : Sink) → find (λ s. same_id s.id id) cs ≡ Some c → find (λ g. same_id g.source.id c.producer) fs ≡ None → ⊥
    fed-there id c e none =
        let fed = all-found (λ (x : Sink). present pid (map outline_of fs) x.producer ≡ true) (λ s. same_id s.id id) cs c (all-over outlet_of (λ o. present pid (map outline_of fs) o.producer ≡ true) cs t.sources) e in
        true≢false (sym (sym (ap is_some none) ∙ sym (present-map outline_of pid fs c.producer) ∙ fed))

    module _ (id : Id) (f : FeedView) (found : find (λ g. same_id g.source.id id) fs ≡ Some f) (to : Id) (c : IsTo id to) (m : Mapped) (packet : List ℕ) where
      -- it is offered the packet with the ids of this Producer
      offered-to : (c : Sink) → c.producer ≡ id → offered (router_of ts fs cs) c m packet ≡ Some (offer m f.source.stream.ids packet)
      offered-to c same =
          ap (λ i. option_map (λ (p : Source). offer m p.stream.ids packet) (find (λ p. same_id p.id i) (map source fs))) same
          ∙ ap (option_map (λ (p : Source). offer m p.stream.ids packet)) (find-map source (λ p. same_id p.id id) fs ∙ ap (option_map source) found)

      pub passed-to : option_and_then (λ (s : Sink). passed_by s.streams (offer m f.source.stream.ids packet)) (find (λ s. same_id s.id to) cs) ≡ passed_for r to m packet
      passed-to =
          ap (option_and_then (λ (s : Sink). passed_by s.streams (offer m f.source.stream.ids packet))) c.1
          ∙ (ap (option_and_then (passed_by c.0.streams)) (sym (offered-to c.0 c.2))
          ∙ (ap (option_and_then (λ (s : Sink). option_and_then (passed_by s.streams) (offered (router_of ts fs cs) s m packet))) (sym c.1)
          ∙ ap (λ (q : RouterState). passed_for q to m packet) whole))

      only-to : AllByRecursion (λ s. same_id s.id to ≡ true → after_offer (Some (offer m f.source.stream.ids packet)) s ≡ after_offer (offered (router_of ts fs cs) s m packet) s) cs
      only-to =
          all-map (λ s. find (λ x. same_id x.id s.id) cs ≡ Some s)
          (λ s. same_id s.id to ≡ true → after_offer (Some (offer m f.source.stream.ids packet)) s ≡ after_offer (offered (router_of ts fs cs) s m packet) s)
          (λ s by-id mine.
          let this : Some s ≡ Some c.0 = sym by-id ∙ (ap (λ i. find (λ (x : Sink). same_id x.id i) cs) (id-same s.id to mine) ∙ c.1) in
          let same : s ≡ c.0 = cc in
          sym (ap (λ o. after_offer o s) (offered-to s (ap (λ (x : Sink). x.producer) same ∙ c.2)))) cs (founds (λ (x : Sink). x.id) cs sinks-differ)

      pub behind-to : (new : List Sink) → new ≡ change (λ s. same_id s.id to) (after_offer (Some (offer m f.source.stream.ids packet))) cs → router_of ts fs new ≡ behind_pass r to m packet
      behind-to new put =
          ap (router_of ts fs) (put ∙ change-same (λ s. same_id s.id to) (after_offer (Some (offer m f.source.stream.ids packet))) (λ s. after_offer (offered (router_of ts fs cs) s m packet) s) cs only-to)
          ∙ ap (λ (q : RouterState). behind_pass q to m packet) whole

    -- the ids of its Consumers
    pub ids-of : (id : Id) (f : FeedView) → find (λ g. same_id g.source.id id) fs ≡ Some f → map (λ at. at.0) f.consumers ≡ map (λ (c : Sink). c.id) (filter (is_of id) r.consumers)
    ids-of id f e =
        ap (map (λ at. at.0)) (feed-list id f e ∙ places-are cs id)
        ∙ (map-map (λ (c : Sink). (c.id, c.transport)) (λ at. at.0) (filter (is_of id) cs) ∙ ap (λ (q : RouterState). map (λ (c : Sink). c.id) (filter (is_of id) q.consumers)) whole)

    -- whether a Producer comes in over a transport
    comes-at : (tr : Id) (c : Sink) (o : Option FeedView) → find (λ f. same_id f.source.id c.producer) fs ≡ o
        → comes_by r tr c ≡ is_some (guard (λ (f : FeedView). is_on tr f.source && same_id f.source.id c.producer) o)
    comes-at tr c o e =
        let test : FeedView → Bool = λ f. is_on tr f.source && same_id f.source.id c.producer in
        sym (ap (λ (q : RouterState). comes_by q tr c) whole)
        ∙ (any-find (λ p. is_on tr p && same_id p.id c.producer) (map source fs)
        ∙ (ap is_some (find-map source (λ p. is_on tr p && same_id p.id c.producer) fs)
        ∙ (is-some-map source (find test fs)
        ∙ ap is_some (find-by fid c.producer test fs (feeds-differ fs t.producers_differ) (both fs) ∙ ap (guard test) e))))
      where
        both : (gs : List FeedView) → AllByRecursion (λ f. (is_on tr f.source && same_id f.source.id c.producer) ≡ true → is fid c.producer f ≡ true) gs
        both [] = tt
        both (g ∷ gs) = ((λ h. (and-split (is_on tr g.source) (same_id g.source.id c.producer) h).1), both gs)

    pub comes-none : (tr : Id) (c : Sink) → find (λ f. same_id f.source.id c.producer) fs ≡ None → false ≡ comes_by r tr c
    comes-none tr c e = sym (comes-at tr c None e)

    pub comes-some : (tr : Id) (c : Sink) (f : FeedView) → find (λ f. same_id f.source.id c.producer) fs ≡ Some f → is_on tr f.source ≡ comes_by r tr c
    comes-some tr c f e =
        sym (comes-at tr c (Some f) e
        ∙ by (is_on tr f.source) (same_id f.source.id c.producer) (find-test (λ g. same_id g.source.id c.producer) fs f e))
      where
        by : (a b : Bool) → b ≡ true → is_some (cond (a && b) (Some f) None) ≡ a
        by true b h = ap (λ k. is_some (cond k (Some f) None)) h
        by false b h = refl

    -- own SSRCs that clash
    pub clash-is : (tr : Id) (es : List Encoding) → list_any (λ e. is_some (owner_in own tr e.ssrc)) es ≡ clashes r tr es
    clash-is tr es =
        any-congr (λ (e : Encoding). is_some (owner_in own tr e.ssrc)) (λ e. list_any (λ p. is_on tr p && is_own p.stream.params.encodings e.ssrc) (map source fs))
        (λ e.
        ap is_some (t.owners tr e.ssrc)
        ∙ (is-some-map (λ (p : Outline). p.id.0) (find (owns tr e.ssrc) (map outline_of fs))
        ∙ (ap is_some (find-map outline_of (owns tr e.ssrc) fs)
        ∙ (is-some-map outline_of (find (λ f. owns tr e.ssrc (outline_of f)) fs)
        ∙ (sym (is-some-map source (find (λ f. owns tr e.ssrc (outline_of f)) fs))
        ∙ (sym (ap is_some (find-map source (λ p. is_on tr p && is_own p.stream.params.encodings e.ssrc) fs))
        ∙ sym (any-find (λ p. is_on tr p && is_own p.stream.params.encodings e.ssrc) (map source fs)))))))) es
        ∙ (any-swap (is_on tr) (λ p (e : Encoding). is_own p.stream.params.encodings e.ssrc) (map source fs) es ∙ ap (λ (q : RouterState). clashes q tr es) whole)

    sources-differ : AreDifferent (λ (p : Source). p.id) (map source fs)
    sources-differ = subst (IsDistinct bytes_eq) (sym (map-map source (λ (p : Source). p.id.0) fs)) (feeds-differ fs t.producers_differ)

    no-owner : (tr : Id) (s : ℕ) → owner_in own tr s ≡ None → find (λ p. is_on tr p && is_own p.stream.params.encodings s) (map source fs) ≡ None
    no-owner tr s e =
        let none : find (owns tr s) (map outline_of fs) ≡ None = no-map (λ (p : Outline). p.id.0) (find (owns tr s) (map outline_of fs)) (sym (t.owners tr s) ∙ e) in
        let none-of : find (λ f. owns tr s (outline_of f)) fs ≡ None = no-map outline_of (find (λ f. owns tr s (outline_of f)) fs) (sym (find-map outline_of (owns tr s) fs) ∙ none) in
        find-map source (λ p. is_on tr p && is_own p.stream.params.encodings s) fs ∙ ap (option_map source) none-of

    -- which Producer receives a packet
    abbrev by-owner : Fields → Option (List ℕ) → Option Id
    by-owner f o = option_and_then (λ b. option_map (λ (m : Mapped). id_of b) (option_and_then (receives f) (producer_of r (id_of b)))) o

    of-feed : (tr : Id) (f : Fields) (q : Outline) (o : Option FeedView) → find (is fid q.id) fs ≡ o → option_map outline_of o ≡ Some q → same_id q.transport tr ≡ true
        → option_map (λ (p : Source). p.id) (guard (is_received tr f) (option_map source o)) ≡ option_map (λ (m : Mapped). q.id) (option_and_then (receives f) (option_map source o))
    of-feed tr f q None e there on = refl
    of-feed tr f q (Some g) e there on =
        let here : outline_of g ≡ q = cc in
        received-by tr f (source g) q.id (is_on tr (source g)) (receives f (source g)) refl (ap (λ (p : Outline). same_id p.transport tr) here ∙ on) (ap (λ (p : Outline). p.id) here)

    of-owner : (tr : Id) (f : Fields) (q : Outline) → find (owns tr f.ssrc) (map outline_of fs) ≡ Some q
        → option_map (λ (p : Source). p.id) (receiver (router_of ts fs cs) tr f) ≡ option_map (λ (m : Mapped). q.id) (option_and_then (receives f) (producer_of (router_of ts fs cs) q.id))
    of-owner tr f q e =
        let only = owner-is (map outline_of fs) (map outlet_of cs) own t tr f.ssrc q e in
        let there : find (is pid q.id) (map outline_of fs) ≡ Some q =
        guarded (owns tr f.ssrc) (find (is pid q.id) (map outline_of fs)) q (sym (find-by pid q.id (owns tr f.ssrc) (map outline_of fs) t.producers_differ only) ∙ e)
        in
        let found : option_map outline_of (find (is fid q.id) fs) ≡ Some q = sym (find-map outline_of (is pid q.id) fs) ∙ there in
        let on : same_id q.transport tr ≡ true = (and-split (same_id q.transport tr) (is_own q.encodings f.ssrc) (find-test (owns tr f.ssrc) (map outline_of fs) q e)).0 in
        let by-id : find (is_received tr f) (map source fs) ≡ guard (is_received tr f) (find (is (λ (p : Source). p.id) q.id) (map source fs)) =
        find-by (λ (p : Source). p.id) q.id (is_received tr f) (map source fs) sources-differ
        (all-under source (λ p. is_received tr f p ≡ true → is (λ (x : Source). x.id) q.id p ≡ true) fs
        (all-map (λ g. owns tr f.ssrc (outline_of g) ≡ true → is pid q.id (outline_of g) ≡ true) (λ g. is_received tr f (source g) ≡ true → is (λ (x : Source). x.id) q.id (source g) ≡ true)
        (λ g h k. h (received-owns tr f (source g) k)) fs
        (all-over outline_of (λ p. owns tr f.ssrc p ≡ true → is pid q.id p ≡ true) fs only)))
        in
        ap (option_map (λ (p : Source). p.id)) (by-id ∙ ap (guard (is_received tr f)) (find-map source (is (λ (p : Source). p.id) q.id) fs))
        ∙ (of-feed tr f q (find (is fid q.id) fs) refl found on
        ∙ ap (λ o. option_map (λ (m : Mapped). q.id) (option_and_then (receives f) o)) (sym (find-map source (is (λ (p : Source). p.id) q.id) fs)))

    owner-found : (tr : Id) (f : Fields) (b : List ℕ) (o : Option Outline) → find (owns tr f.ssrc) (map outline_of fs) ≡ o → option_map (λ (p : Outline). p.id.0) o ≡ Some b
        → option_map (λ (p : Source). p.id) (receiver r tr f) ≡ by-owner f (Some b)
    owner-found tr f b None e id-is = absurd (true≢false (sym (ap is_some id-is)))
    owner-found tr f b (Some q) e id-is =
        let bytes : q.id.0 ≡ b = cc in
        sym (ap (λ (x : RouterState). option_map (λ (p : Source). p.id) (receiver x tr f)) whole)
        ∙ (of-owner tr f q e
        ∙ (ap (λ (x : RouterState). option_map (λ (m : Mapped). q.id) (option_and_then (receives f) (producer_of x q.id))) whole
        ∙ ap (λ c. option_map (λ (m : Mapped). id_of c) (option_and_then (receives f) (producer_of r (id_of c)))) bytes))

    pub receiver-none : (tr : Id) (f : Fields) → owner_in own tr f.ssrc ≡ None → None ≡ option_map (λ (p : Source). p.id) (receiver r tr f)
    receiver-none tr f e =
        sym (ap (λ (x : RouterState). option_map (λ (p : Source). p.id) (receiver x tr f)) (sym whole)
        ∙ ap (option_map (λ (p : Source). p.id))
        (fewer (λ p. is_on tr p && is_own p.stream.params.encodings f.ssrc) (is_received tr f) (received-owns tr f) (map source fs) (no-owner tr f.ssrc e)))

    pub receiver-some : (tr : Id) (f : Fields) (i : Id) → owner_in own tr f.ssrc ≡ Some i.0
        → option_map (λ (p : Source). p.id) (receiver r tr f) ≡ option_map (λ (m : Mapped). i) (option_and_then (receives f) (producer_of r i))
    receiver-some tr f i e = owner-found tr f i.0 (find (owns tr f.ssrc) (map outline_of fs)) refl (sym (t.owners tr f.ssrc) ∙ e)
