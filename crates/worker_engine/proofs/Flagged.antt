-- The flags of the Consumers of a Router are those of their transports and their Producers, through each change.
use Rattle.std.proofs.Common.{◌≡◌, List, [], ◌∷◌, ◌++◌, ◌&&◌, ◌||◌, Bool, true, false, cond, not, map, filter, Option, Some, None, is_some, option_map, option_and_then, refl, sym, ap, ◌∙◌}
use Rattle.std.specs.List.{find, AllByRecursion, list_any}
use Rattle.ms_base.specs.declared.id.Id.{Id}
use Rattle.ms_base.specs.declared.tuple.Tuple.{Tuple}
use Rattle.plain_transport.specs.Connection.{Connection, connect_fault_of, accept_by, remote_by}
use Rattle.rtp_extension.specs.declared.mapped.Flags.{Flags}
use Rattle.simple_consumer.specs.Sending.{Offer}
use Rattle.worker_router.specs.State.{RouterState, TransportAt, Source, Sink, same_id, is_on, is_of, goes_over, is_connected, transport_of}
use Rattle.worker_router.specs.Calls.{accept_at, change, comes_by, connect_one, first_flags, heard_from, is_learnt, is_to_be_told, pause_one, pause_source_of, set_paused, told}
use Rattle.worker_router.specs.Calls as calls
use Rattle.worker_router.specs.declared.transport.Transport.{Transport}
use Rattle.worker_router.specs.declared.transport.Transport.TheVariants as transport
use Rattle.worker_engine.specs.Packets.{offered_to}
use Rattle.worker_engine.specs.Emits.{FlagsAreTheirs}
use Rattle.worker_engine.proofs.Ids.{same-is, find-map, found-passes, found-holds}
use Rattle.worker_engine.proofs.Sinks.{find-filter, found-first}

-- ---- lists

module _ {A : Type 0} where
  all-map : (P Q : A → Type 0) (f : A → A) → ((x : A) → P x → Q (f x)) → (xs : List A) → AllByRecursion P xs → AllByRecursion Q (map f xs)
  all-map P Q f so [] all = tt
  all-map P Q f so (x ∷ xs) all = (so x all.0, all-map P Q f so xs all.1)

  kept-at : (Q : A → Type 0) (keep : A → Bool) (x : A) (ys : List A) (b : Bool) → keep x ≡ b → (keep x ≡ true → Q x) → AllByRecursion Q ys → AllByRecursion Q (cond b (x ∷ ys) ys)
  kept-at Q keep x ys true e q more = (q e, more)
  kept-at Q keep x ys false e q more = more

  all-kept : (P Q : A → Type 0) (keep : A → Bool) → ((x : A) → keep x ≡ true → P x → Q x) → (xs : List A) → AllByRecursion P xs → AllByRecursion Q (filter keep xs)
  all-kept P Q keep so [] all = tt
  all-kept P Q keep so (x ∷ xs) all = kept-at Q keep x (filter keep xs) (keep x) refl (λ t. so x t all.0) (all-kept P Q keep so xs all.1)

  pub all-same : (P Q : A → Type 0) → ((x : A) → P x → Q x) → (xs : List A) → AllByRecursion P xs → AllByRecursion Q xs
  all-same P Q so [] all = tt
  all-same P Q so (x ∷ xs) all = (so x all.0, all-same P Q so xs all.1)

  all-push : (P : A → Type 0) (xs : List A) (x : A) → AllByRecursion P xs → P x → AllByRecursion P (xs ++ x ∷ [])
  all-push P [] x all p = (p, tt)
  all-push P (y ∷ ys) x all p = (all.0, all-push P ys x all.1 p)

  none-of : (q : A → Bool) (xs : List A) → list_any q xs ≡ false → AllByRecursion (λ x. q x ≡ false) xs
  none-of q [] e = tt
  none-of q (x ∷ xs) e = let both = neither (q x) (list_any q xs) e in (both.0, none-of q xs both.1)
    where
      neither : (a b : Bool) → a || b ≡ false → (a ≡ false) × (b ≡ false)
      neither true b e = cc
      neither false b e = (refl, e)

  module _ (p : A → Bool) (g : A → Bool) where
    -- what was said of what is found is still said
    still-by : (b : Bool) (o q : Option A) → ((y : A) → o ≡ Some y → q ≡ Some y) → option_map g o ≡ Some b → option_map g q ≡ Some b
    still-by b None q so e = cc
    still-by b (Some y) q so e = ap (option_map g) (so y refl) ∙ e

    still-first : (b : Bool) (xs ys : List A) → option_map g (find p xs) ≡ Some b → option_map g (find p (xs ++ ys)) ≡ Some b
    still-first b xs ys e = still-by b (find p xs) (find p (xs ++ ys)) (λ y f. found-first p xs ys y f) e

    first-by : (q : A → Bool) (a : Bool) (x y : A) (o r : Option A) → p x ≡ a → q y ≡ true → (o ≡ Some y → r ≡ Some y) → cond a (Some x) o ≡ Some y → cond (q x && a) (Some x) r ≡ Some y
    first-by q true x y o r e t more f = (let same : x ≡ y = cc in ap (λ b. cond (b && true) (Some x) r) (ap q same ∙ t) ∙ f)
    first-by q false x y o r e t more f = off (q x)
      where
        off : (b : Bool) → cond (b && false) (Some x) r ≡ Some y
        off true = more f
        off false = more f

    first-kept : (q : A → Bool) (xs : List A) (y : A) → find p xs ≡ Some y → q y ≡ true → find (λ x. q x && p x) xs ≡ Some y
    first-kept q [] y f t = cc
    first-kept q (x ∷ xs) y f t = first-by q (p x) x y (find p xs) (find (λ z. q z && p z) xs) refl t (λ e. first-kept q xs y e t) f

    still-kept : (b : Bool) (q : A → Bool) (xs : List A) → ((y : A) → find p xs ≡ Some y → q y ≡ true) → option_map g (find p xs) ≡ Some b → option_map g (find p (filter q xs)) ≡ Some b
    still-kept b q xs keeps e = still-by b (find p xs) (find p (filter q xs)) (λ y f. find-filter p q xs ∙ first-kept q xs y f (keeps y f)) e

    still-map : (b : Bool) (f : A → A) → ((x : A) → p (f x) ≡ p x) → (xs : List A) → ((y : A) → find p xs ≡ Some y → g (f y) ≡ b) → (a : Bool) → option_map g (find p xs) ≡ Some a
        → option_map g (find p (map f xs)) ≡ Some b
    still-map b f keeps xs says a e = ap (option_map g) (find-map p f keeps xs) ∙ by (find p xs) refl e
      where
        by : (o : Option A) → find p xs ≡ o → option_map g o ≡ Some a → option_map g (option_map f o) ≡ Some b
        by None f e = cc
        by (Some y) f e = ap Some (says y f)

  said : (g : A → Bool) (o : Option A) (y : A) (b : Bool) → o ≡ Some y → option_map g o ≡ Some b → g y ≡ b
  said g o y b e f = (let is : Some (g y) ≡ Some b = sym (ap (option_map g) e) ∙ f in cc)

not-true : (b : Bool) → not b ≡ true → b ≡ false
not-true true e = cc
not-true false e = refl

nor : (a b : Bool) → not (a || b) ≡ true → (a ≡ false) × (b ≡ false)
nor true b e = cc
nor false b e = (refl, not-true b e)

and-false : (a b : Bool) → a && b ≡ false → b ≡ true → a ≡ false
and-false true b e t = (let no : true ≡ false = sym t ∙ e in cc)
and-false false b e t = refl

-- ---- the Consumers of a Router

abbrev pub AreFlagged : List TransportAt → List Source → List Sink → Type 0
AreFlagged ts ps cs = AllByRecursion (FlagsAreTheirs ts ps) cs

abbrev conn : TransportAt → Bool
conn t = is_connected t.transport

abbrev rests : Source → Bool
rests p = p.stream.paused

module _ (ts : List TransportAt) (ps : List Source) (cs : List Sink) (all : AreFlagged ts ps cs) where
  pub flagged-transport : (x : TransportAt) → AreFlagged (ts ++ x ∷ []) ps cs
  flagged-transport x =
      all-same (FlagsAreTheirs ts ps) (FlagsAreTheirs (ts ++ x ∷ []) ps)
      (λ c f. record { connected = still-first (λ t. same_id t.id c.transport) conn c.flags.connected ts (x ∷ []) f.connected; producer_paused = f.producer_paused }) cs all

  pub flagged-producer : (x : Source) → AreFlagged ts (ps ++ x ∷ []) cs
  flagged-producer x =
      all-same (FlagsAreTheirs ts ps) (FlagsAreTheirs ts (ps ++ x ∷ []))
      (λ c f. record { connected = f.connected; producer_paused = still-first (λ p. same_id p.id c.producer) rests c.flags.producer_paused ps (x ∷ []) f.producer_paused }) cs all

  -- ---- a transport that is connected

  module _ (id : Id) (f : Transport → Transport) (connects : (t : TransportAt) → find (λ (x : TransportAt). same_id x.id id) ts ≡ Some t → is_connected (f t.transport) ≡ true) where
    abbrev turned : TransportAt → TransportAt
    turned t = cond (same_id t.id id) (record t { transport = f t.transport }) t

    turned-id : (t : TransportAt) (b : Bool) → (cond b (record t { transport = f t.transport }) t).id ≡ t.id
    turned-id t true = refl
    turned-id t false = refl

    over-by : (c : Sink) → FlagsAreTheirs ts ps c → (b : Bool) → same_id c.transport id ≡ b → (t : TransportAt) → find (λ (x : TransportAt). same_id x.id c.transport) ts ≡ Some t
        → is_connected (cond b (record t { transport = f t.transport }) t).transport ≡ (cond b (connect_one c) c).flags.connected
    over-by c h true e t found = connects t (ap (λ (i : Id). find (λ (x : TransportAt). same_id x.id i) ts) (sym (same-is c.transport id e)) ∙ found)
    over-by c h false e t found = said conn (find (λ (x : TransportAt). same_id x.id c.transport) ts) t c.flags.connected found h.connected

    same-rest : (c : Sink) (b : Bool) → FlagsAreTheirs ts ps c
        → option_map (λ t. is_connected t.transport) (find (λ t. same_id t.id c.transport) (map turned ts)) ≡ Some (cond b (connect_one c) c).flags.connected
        → FlagsAreTheirs (map turned ts) ps (cond b (connect_one c) c)
    same-rest c true h e = record { connected = e; producer_paused = h.producer_paused }
    same-rest c false h e = record { connected = e; producer_paused = h.producer_paused }

    pub flagged-connected : AreFlagged (change (λ t. same_id t.id id) (λ t. record t { transport = f t.transport }) ts) ps (change (goes_over id) connect_one cs)
    flagged-connected =
        all-map (FlagsAreTheirs ts ps) (FlagsAreTheirs (map turned ts) ps) (λ c. cond (goes_over id c) (connect_one c) c)
        (λ c h.
        same-rest c (goes_over id c) h
        (still-map (λ (t : TransportAt). same_id t.id c.transport) conn (cond (goes_over id c) (connect_one c) c).flags.connected turned
        (λ t. ap (λ (i : Id). same_id i c.transport) (turned-id t (same_id t.id id))) ts
        (λ t found.
        ap (λ (i : Id). is_connected (cond (same_id i id) (record t { transport = f t.transport }) t).transport)
        (same-is t.id c.transport (found-passes (λ (x : TransportAt). same_id x.id c.transport) ts t found))
        ∙ over-by c h (same_id c.transport id) refl t found)
        c.flags.connected h.connected)) cs all

  -- ---- pauses

  module _ (id : Id) (paused : Bool) where
    abbrev rested : Source → Source
    rested p = cond (same_id p.id id) (set_paused paused p) p

    rested-id : (p : Source) (b : Bool) → (cond b (set_paused paused p) p).id ≡ p.id
    rested-id p true = refl
    rested-id p false = refl

    of-by : (c : Sink) → FlagsAreTheirs ts ps c → (b : Bool) (p : Source) → find (λ (x : Source). same_id x.id c.producer) ps ≡ Some p
        → (cond b (set_paused paused p) p).stream.paused ≡ (cond b (pause_source_of paused c) c).flags.producer_paused
    of-by c h true p found = refl
    of-by c h false p found = said rests (find (λ (x : Source). same_id x.id c.producer) ps) p c.flags.producer_paused found h.producer_paused

    same-first : (c : Sink) (b : Bool) → FlagsAreTheirs ts ps c
        → option_map (λ p. p.stream.paused) (find (λ p. same_id p.id c.producer) (map rested ps)) ≡ Some (cond b (pause_source_of paused c) c).flags.producer_paused
        → FlagsAreTheirs ts (map rested ps) (cond b (pause_source_of paused c) c)
    same-first c true h e = record { connected = h.connected; producer_paused = e }
    same-first c false h e = record { connected = h.connected; producer_paused = e }

    pub flagged-producer-paused : AreFlagged ts (change (λ p. same_id p.id id) (set_paused paused) ps) (change (is_of id) (pause_source_of paused) cs)
    flagged-producer-paused =
        all-map (FlagsAreTheirs ts ps) (FlagsAreTheirs ts (map rested ps)) (λ c. cond (is_of id c) (pause_source_of paused c) c)
        (λ c h.
        same-first c (is_of id c) h
        (still-map (λ (p : Source). same_id p.id c.producer) rests (cond (is_of id c) (pause_source_of paused c) c).flags.producer_paused rested
        (λ p. ap (λ (i : Id). same_id i c.producer) (rested-id p (same_id p.id id))) ps
        (λ p found.
        ap (λ (i : Id). (cond (same_id i id) (set_paused paused p) p).stream.paused) (same-is p.id c.producer (found-passes (λ (x : Source). same_id x.id c.producer) ps p found))
        ∙ of-by c h (same_id c.producer id) p found)
        c.flags.producer_paused h.producer_paused)) cs all

    paused-by : (c : Sink) (b : Bool) → FlagsAreTheirs ts ps c → FlagsAreTheirs ts ps (cond b (pause_one paused c) c)
    paused-by c true h = record { connected = h.connected; producer_paused = h.producer_paused }
    paused-by c false h = h

    pub flagged-consumer-paused : AreFlagged ts ps (change (λ c. same_id c.id id) (pause_one paused) cs)
    flagged-consumer-paused =
        all-map (FlagsAreTheirs ts ps) (FlagsAreTheirs ts ps) (λ c. cond (same_id c.id id) (pause_one paused c) c) (λ c h. paused-by c (same_id c.id id) h) cs all

  -- ---- a packet

  offered-by : (o : Offer) (c : Sink) (b : Bool) → FlagsAreTheirs ts ps c → FlagsAreTheirs ts ps (cond b (offered_to o c) c)
  offered-by o c true h = record { connected = h.connected; producer_paused = h.producer_paused }
  offered-by o c false h = h

  pub flagged-offered : (test : Sink → Bool) (o : Offer) → AreFlagged ts ps (change test (offered_to o) cs)
  flagged-offered test o = all-map (FlagsAreTheirs ts ps) (FlagsAreTheirs ts ps) (λ c. cond (test c) (offered_to o c) c) (λ c h. offered-by o c (test c) h) cs all

  -- ---- closes

  pub flagged-without-consumer : (keep : Sink → Bool) → AreFlagged ts ps (filter keep cs)
  flagged-without-consumer keep = all-kept (FlagsAreTheirs ts ps) (FlagsAreTheirs ts ps) keep (λ c t h. h) cs all

  pub flagged-without-producer : (id : Id) → AreFlagged ts (filter (λ p. not (same_id p.id id)) ps) (filter (λ c. not (is_of id c)) cs)
  flagged-without-producer id =
      all-kept (FlagsAreTheirs ts ps) (FlagsAreTheirs ts (filter (λ p. not (same_id p.id id)) ps)) (λ c. not (is_of id c))
      (λ c t h.
      record {
        connected = h.connected;
        producer_paused =
            still-kept (λ p. same_id p.id c.producer) rests c.flags.producer_paused (λ p. not (same_id p.id id)) ps
            (λ p found. ap (λ (i : Id). not (same_id i id)) (same-is p.id c.producer (found-passes (λ (x : Source). same_id x.id c.producer) ps p found)) ∙ t) h.producer_paused;
      }) cs all

  module _ (id : Id) where
    abbrev arrives : Sink → Bool
    arrives c = list_any (λ (p : Source). is_on id p && same_id p.id c.producer) ps

    pub flagged-without-transport : AreFlagged (filter (λ t. not (same_id t.id id)) ts) (filter (λ p. not (is_on id p)) ps) (filter (λ c. not (goes_over id c || arrives c)) cs)
    flagged-without-transport =
        all-kept (FlagsAreTheirs ts ps) (FlagsAreTheirs (filter (λ t. not (same_id t.id id)) ts) (filter (λ p. not (is_on id p)) ps)) (λ c. not (goes_over id c || arrives c))
        (λ c t h.
        let both = nor (goes_over id c) (arrives c) t in
        record {
          connected =
              still-kept (λ x. same_id x.id c.transport) conn c.flags.connected (λ x. not (same_id x.id id)) ts
              (λ x found. ap (λ (i : Id). not (same_id i id)) (same-is x.id c.transport (found-passes (λ (y : TransportAt). same_id y.id c.transport) ts x found)) ∙ ap not both.0) h.connected;
          producer_paused =
              still-kept (λ p. same_id p.id c.producer) rests c.flags.producer_paused (λ p. not (is_on id p)) ps
              (λ p found.
              ap not (and-false (is_on id p) (same_id p.id c.producer)
              (found-holds (λ (x : Source). same_id x.id c.producer) (λ x. is_on id x && same_id x.id c.producer ≡ false) ps p
              (none-of (λ (x : Source). is_on id x && same_id x.id c.producer) ps both.1) found)
              (found-passes (λ (x : Source). same_id x.id c.producer) ps p found))) h.producer_paused;
        }) cs all

  -- ---- a new one

  pub flagged-new : (n : Sink) → FlagsAreTheirs ts ps n → AreFlagged ts ps (cs ++ n ∷ [])
  flagged-new n h = all-push (FlagsAreTheirs ts ps) cs n all h

-- ---- transports that are connected

told-by : (c : Connection) (to : Tuple) (b : Bool) → not b ≡ true → is_some (cond b c (record c { remote = Some to })).remote ≡ true
told-by c to true e = cc
told-by c to false e = refl

piped-by : (remote : Option Tuple) (to : Tuple) → not (is_some remote) ≡ true → is_connected (told to (transport.Pipe remote)) ≡ true
piped-by None to e = refl
piped-by (Some x) to e = cc

pub told-connects : (t : Transport) (to : Tuple) → is_to_be_told t ≡ true → is_connected (told to t) ≡ true
told-connects (transport.Plain c) to e = told-by c to (is_some (connect_fault_of c)) e
told-connects (transport.Pipe remote) to e = piped-by remote to e
told-connects (transport.Direct d) to e = refl

learnt-by : (comedia : Bool) (remote : Option Tuple) (from : Tuple) → is_learnt (Some (accept_by comedia remote from)) ≡ true → is_some (remote_by comedia remote from) ≡ true
learnt-by comedia (Some x) from e = refl
learnt-by true None from e = refl
learnt-by false None from e = cc

pipe-learns : (remote : Option Tuple) (from : Tuple) → is_learnt (Some (accept_by false remote from)) ≡ true → is_some remote ≡ true
pipe-learns (Some x) from e = refl
pipe-learns None from e = cc

learnt-connects : (t : Transport) (from : Tuple) → is_learnt (Some (calls.accept_by t from)) ≡ true → is_connected (heard_from from t) ≡ true
learnt-connects (transport.Plain c) from e = learnt-by c.comedia c.remote from e
learnt-connects (transport.Pipe remote) from e = pipe-learns remote from e
learnt-connects (transport.Direct d) from e = refl

pub heard-connects : (r : RouterState) (id : Id) (from : Tuple) → is_learnt (accept_at r id from) ≡ true → (t : TransportAt) → transport_of r id ≡ Some t
    → is_connected (heard_from from t.transport) ≡ true
heard-connects r id from e t found =
    learnt-connects t.transport from (sym (ap (λ (o : Option TransportAt). is_learnt (option_map (λ x. calls.accept_by x.transport from) o)) found) ∙ e)

-- ---- the flags that a new one begins with

begin-by : (paused : Bool) (t : TransportAt) (p : Option Source) (flags : Flags) → option_map (λ x. first_flags t x paused) p ≡ Some flags
    → (Some (is_connected t.transport) ≡ Some flags.connected) × (option_map (λ x. x.stream.paused) p ≡ Some flags.producer_paused)
begin-by paused t None flags e = cc
begin-by paused t (Some p) flags e =
    let same : first_flags t p paused ≡ flags = cc in (ap (λ (f : Flags). Some f.connected) same, ap (λ (f : Flags). Some f.producer_paused) same)

pub begin-flags : (paused : Bool) (t : Option TransportAt) (p : Option Source) (flags : Flags) → option_and_then (λ at. option_map (λ x. first_flags at x paused) p) t ≡ Some flags
    → (option_map (λ x. is_connected x.transport) t ≡ Some flags.connected) × (option_map (λ x. x.stream.paused) p ≡ Some flags.producer_paused)
begin-flags paused None p flags e = cc
begin-flags paused (Some t) p flags e = begin-by paused t p flags e
