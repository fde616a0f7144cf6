-- Objects that come, that are changed and that fall: what is open still stands on what is open, and each that falls is noted once.
use Rattle.std.proofs.Common.{◌≡◌, ◌<◌, ℕ, ◌+◌, List, [], ◌∷◌, ◌++◌, map, nat_lt, Bool, true, false, not, ◌&&◌, ◌||◌, ◌==◌, cond, Some, refl, sym, ap, ◌∙◌, arith, count_by}
use Rattle.std.specs.List.{AllByRecursion, Contains, filter, list_any}
use Rattle.std.specs.Option.{is_some, option_map}
use Rattle.std.proofs.lemmas.Bool.{and_parts, eqb-true, ne_eqb, not-true, true≢false}
use Rattle.std.proofs.lemmas.List.Elements.{All-contains_itself, recursion_from_All}
use Rattle.ms_base.specs.declared.keys.Reason.{Reason}
use Rattle.ms_base.specs.declared.keys.Serial.{Serial}
use Rattle.transcript.specs.declared.note.Note.{Note}
use Rattle.transcript.specs.declared.note.Note.TheVariants as note
use Rattle.object_tree.specs.declared.object.Object.{Object}
use Rattle.object_tree.specs.Falls.{closed_by, falls, reason_of, with_closed}
use Rattle.object_tree.specs.Falls as object_falls
use Rattle.object_tree.specs.Objects.{AreInOrder, has_serial, is_open, numbered, same_serial, with_object}
use Rattle.host_requests.specs.declared.request.Request.{Request}
use Rattle.host_requests.specs.Requests.{is_under}
use Rattle.host_model.specs.declared.due.Due.{Due}
use Rattle.host_model.specs.State.{Issued, settled_where, waiting}
use Rattle.host_model.specs.Falls.{closed_note, closed_notes}
use Rattle.host_model.specs.Fit.{one_if}
use Rattle.host_model.specs.Laws.{AreOnOpen, IsDueOnOpen, IsOnOpen, closes, is_open_at, times_closed}
use Rattle.host_model.proofs.Changes.{done}
use Rattle.host_model.proofs.Counts.{all-each, all-mapped, count-append, count-cons, same-itself}
use Rattle.host_model.proofs.Objects.{IsAlike, all-with_object, chosen-alike}
use Rattle.host_model.proofs.Waiting.{all-fallen}

-- ---- some object passes a test

pub or-later : (a b : Bool) → b ≡ true → (a || b) ≡ true
or-later true b h = refl
or-later false b h = h

or-more : (a b c : Bool) → (a || b) ≡ true → (b ≡ true → c ≡ true) → (a || c) ≡ true
or-more true b c h more = refl
or-more false b c h more = more h

pub any-with_object : (q : Object → Bool) (o : Object) (xs : List Object) → list_any q xs ≡ true → list_any q (with_object o xs) ≡ true
any-with_object q o [] h = absurd cc
any-with_object q o (x ∷ xs) h = at (nat_lt o.serial.0 x.serial.0) (any-with_object q o xs)
  where
    at : (b : Bool) → (list_any q xs ≡ true → list_any q (with_object o xs) ≡ true) → list_any q (cond b (o ∷ x ∷ xs) (x ∷ with_object o xs)) ≡ true
    at true later = or-later (q o) (list_any q (x ∷ xs)) h
    at false later = or-more (q x) (list_any q xs) (list_any q (with_object o xs)) h later

pub own-with_object : (q : Object → Bool) (o : Object) → q o ≡ true → (xs : List Object) → list_any q (with_object o xs) ≡ true
own-with_object q o own [] = ap (λ b. b || false) own
own-with_object q o own (x ∷ xs) = at (nat_lt o.serial.0 x.serial.0) (own-with_object q o own xs)
  where
    at : (b : Bool) → list_any q (with_object o xs) ≡ true → list_any q (cond b (o ∷ x ∷ xs) (x ∷ with_object o xs)) ≡ true
    at true later = ap (λ b. b || list_any q (x ∷ xs)) own
    at false later = or-later (q x) (list_any q (with_object o xs)) later

pub any-mapped : (q : Object → Bool) (f : Object → Object) → ((x : Object) → q (f x) ≡ q x) → (xs : List Object) → list_any q (map f xs) ≡ list_any q xs
any-mapped q f same [] = refl
any-mapped q f same (x ∷ xs) = ap (λ b. b || list_any q (map f xs)) (same x) ∙ ap (λ b. q x || b) (any-mapped q f same xs)

pub serial-from : (a b : Serial) → same_serial a b ≡ true → a ≡ b
serial-from a b h = let e = eqb-true a.0 b.0 h in λ i. record { 0 = e i }

serial-to : (a b : Serial) → a ≡ b → same_serial a b ≡ true
serial-to a b e = ap (λ (s : Serial). s.0 == b.0) e ∙ same-itself b.0

-- ---- open objects stand on open ones

-- the open object of a serial
abbrev pub is_the_open : Serial → Object → Bool
is_the_open serial x = has_serial serial x && is_open x

abbrev pub AreDueOnOpen : List Object → List (Request Due) → Type 0
AreDueOnOpen xs rs = AllByRecursion (IsDueOnOpen xs) rs

-- an object more
module _ (o : Object) (xs : List Object) where
  still-there : (serial : Serial) → is_open_at xs serial ≡ true → is_open_at (with_object o xs) serial ≡ true
  still-there serial h = any-with_object (is_the_open serial) o xs h

  pub stands-with_object : IsOnOpen xs o → AreOnOpen xs → AreOnOpen (with_object o xs)
  stands-with_object one h =
      all-with_object (IsOnOpen (with_object o xs)) o xs (λ e p is. still-there p (one e p is))
      (all-each (IsOnOpen xs) (IsOnOpen (with_object o xs)) (λ x k e p is. still-there p (k e p is)) xs h)

  pub due-with_object : (rs : List (Request Due)) → AreDueOnOpen xs rs → AreDueOnOpen (with_object o xs) rs
  due-with_object rs h =
      all-each (IsDueOnOpen xs) (IsDueOnOpen (with_object o xs)) (λ r k object keeps is. let at = k object keeps is in (at.0, at.1, still-there r.under at.2)) rs h

-- objects that are changed, but stay open or closed
module _ (f : Object → Object) (same : (x : Object) → IsAlike x (f x)) (shut : (x : Object) → (f x).closed ≡ x.closed) (xs : List Object) where
  open-same : (x : Object) → is_open (f x) ≡ is_open x
  open-same x = ap (λ c. not (is_some c)) (shut x)

  there-mapped : (serial : Serial) → is_open_at (map f xs) serial ≡ is_open_at xs serial
  there-mapped serial =
      any-mapped (is_the_open serial) f
      (λ x. ap (λ s. same_serial s serial && is_open (f x)) (same x).serial ∙ ap (λ b. has_serial serial x && b) (open-same x)) xs

  pub stands-mapped : AreOnOpen xs → AreOnOpen (map f xs)
  stands-mapped h =
      all-mapped (IsOnOpen xs) (IsOnOpen (map f xs)) f
      (λ x k e p is. there-mapped p ∙ k (sym (open-same x) ∙ e) p (sym (same x).parent ∙ is)) xs h

  pub due-mapped : (rs : List (Request Due)) → AreDueOnOpen xs rs → AreDueOnOpen (map f xs) rs
  due-mapped rs h =
      all-each (IsDueOnOpen xs) (IsDueOnOpen (map f xs)) (λ r k object keeps is. let at = k object keeps is in (at.0, at.1, there-mapped r.under ∙ at.2)) rs h

-- ---- objects that fall

-- what is shown of falls in the tree of objects
pub record FallsAreWhole : Type 0 where
  pub opened : (objects : List Object) (roots : List Serial) (x : Object) → object_falls.falls_with objects roots x ≡ true → is_open x ≡ true
  pub children : (objects : List Object) (roots : List Serial) (x y : Object) → Contains objects x → Contains objects y → object_falls.falls_with objects roots x ≡ true → is_open y ≡ true
      → y.parent ≡ Some x.serial → object_falls.falls_with objects roots y ≡ true
  pub exactly : (objects : List Object) (roots : List Serial) (why : Reason) → AreInOrder objects
      → with_closed (falls objects roots) roots why objects
      ≡ map (λ x. cond (object_falls.falls_with objects roots x) (closed_by (reason_of objects (falls objects roots) roots why x) x) x) objects

one-behind : (x : Object) (xs : List Object) (y : Object) → x.serial.0 < y.serial.0 → numbered xs y.serial ≡ Some y → numbered (x ∷ xs) y.serial ≡ Some y
one-behind x xs y low h =
    let apart : has_serial y.serial x ≡ false = ne_eqb x.serial.0 y.serial.0 (λ e. omega (arith, e, low)) in
    ap (λ b. cond b (Some x) (numbered xs y.serial)) apart ∙ h

pub all-both : {X : Type 0} (P Q R : X → Type 0) (xs : List X) → ((x : X) → P x → Q x → R x) → AllByRecursion P xs → AllByRecursion Q xs → AllByRecursion R xs
all-both P Q R [] both_of p q = tt
all-both P Q R (x ∷ xs) both_of p q = (both_of x p.0 q.0, all-both P Q R xs both_of p.1 q.1)

-- each of a list in order is the one of its serial
pub all-numbered : (xs : List Object) → AreInOrder xs → AllByRecursion (λ (y : Object). numbered xs y.serial ≡ Some y) xs
all-numbered [] h = tt
all-numbered (x ∷ xs) h = (
  ap (λ b. cond b (Some x) (numbered xs x.serial)) (serial-to x.serial x.serial refl),
  all-both (λ (y : Object). x.serial.0 < y.serial.0) (λ (y : Object). numbered xs y.serial ≡ Some y) (λ (y : Object). numbered (x ∷ xs) y.serial ≡ Some y) xs
      (one-behind x xs) h.0 (all-numbered xs h.1),
)

pub numbered-mapped : (g : Object → Object) → ((x : Object) → (g x).serial ≡ x.serial) → (xs : List Object) (serial : Serial) → numbered (map g xs) serial ≡ option_map g (numbered xs serial)
numbered-mapped g same [] serial = refl
numbered-mapped g same (x ∷ xs) serial =
    ap (λ s. cond (same_serial s serial) (Some (g x)) (numbered (map g xs) serial)) (same x) ∙ at (has_serial serial x) (numbered-mapped g same xs serial)
  where
    at : (b : Bool) → numbered (map g xs) serial ≡ option_map g (numbered xs serial)
        → cond b (Some (g x)) (numbered (map g xs) serial) ≡ option_map g (cond b (Some x) (numbered xs serial))
    at true h = refl
    at false h = h

-- it is the closed object of a serial
abbrev pub is_closed_at : ℕ → Object → Bool
is_closed_at n o = (o.serial.0 == n) && is_some o.closed

module _ (p : Object → Bool) (r : Object → Reason) (opened_before : (x : Object) → p x ≡ true → is_open x ≡ true) where
  abbrev pub fallen : Object → Object
  fallen x = cond (p x) (closed_by (r x) x) x

  fallen-alike : (x : Object) → IsAlike x (fallen x)
  fallen-alike x = chosen-alike (p x) x (closed_by (r x) x) (record { serial = refl; id = refl; kind = refl; parent = refl; name = refl; far = refl; worker = refl; producer = refl })

  -- ---- the notes

  module _ (n : ℕ) where
    abbrev falls_at : Object → Bool
    falls_at x = p x && (x.serial.0 == n)

    closed-one : (e c : Bool) → c ≡ false → one_if (e && true) ≡ one_if (e && c) + one_if e
    closed-one true c h = let none : one_if c ≡ 0 = ap one_if h in omega (arith, none)
    closed-one false c h = omega arith

    closed-each : (x : Object) (b : Bool) → p x ≡ b → one_if (is_closed_at n (cond b (closed_by (r x) x) x)) ≡ one_if (is_closed_at n x) + one_if (b && (x.serial.0 == n))
    closed-each x true t = closed-one (x.serial.0 == n) (is_some x.closed) (not-true (is_some x.closed) (opened_before x t))
    closed-each x false t = omega arith

    count-fallen : (xs : List Object) → count_by (is_closed_at n) (map fallen xs) ≡ count_by (is_closed_at n) xs + count_by falls_at xs
    count-fallen [] = refl
    count-fallen (x ∷ xs) =
        omega (
          arith,
          count-fallen xs,
          closed-each x (p x) refl,
          count-cons (is_closed_at n) (fallen x) (map fallen xs),
          count-cons (is_closed_at n) x xs,
          count-cons falls_at x xs,
        )

    module _ (xs : List Object) where
      noted-one : (x : Object) → p x ≡ true → numbered xs x.serial ≡ Some x → times_closed n (closed_note (numbered (map fallen xs) x.serial)) ≡ one_if (x.serial.0 == n)
      noted-one x t found =
          let here : numbered (map fallen xs) x.serial ≡ Some (fallen x) = numbered-mapped fallen (λ y. (fallen-alike y).serial) xs x.serial ∙ ap (option_map fallen) found in
          let note_is : times_closed n (closed_note (numbered (map fallen xs) x.serial)) ≡ times_closed n (note.Closed x.serial x.name (r x) ∷ []) =
          ap (λ o. times_closed n (closed_note o)) here ∙ ap (λ b. times_closed n (closed_note (Some (cond b (closed_by (r x) x) x)))) t in
          omega (arith, note_is, count-cons (closes n) (note.Closed x.serial x.name (r x)) [])

      notes-fallen : (zs : List Object) → AllByRecursion (λ (z : Object). numbered xs z.serial ≡ Some z) zs
          → times_closed n (closed_notes (map fallen xs) (map (λ (z : Object). z.serial) (filter p zs))) ≡ count_by falls_at zs
      notes-fallen [] h = refl
      notes-fallen (z ∷ zs) h = at (p z) refl (notes-fallen zs h.1)
        where
          at : (b : Bool) → p z ≡ b → times_closed n (closed_notes (map fallen xs) (map (λ (y : Object). y.serial) (filter p zs))) ≡ count_by falls_at zs
              → times_closed n (closed_notes (map fallen xs) (map (λ (y : Object). y.serial) (cond b (z ∷ filter p zs) (filter p zs)))) ≡ count_by falls_at (z ∷ zs)
          at true t rest =
              let own : one_if (falls_at z) ≡ one_if (z.serial.0 == n) = ap (λ b. one_if (b && (z.serial.0 == n))) t in
              omega (
                arith,
                rest,
                own,
                noted-one z t h.0,
                count-append (closes n) (closed_note (numbered (map fallen xs) z.serial)) (closed_notes (map fallen xs) (map (λ (y : Object). y.serial) (filter p zs))),
                count-cons falls_at z zs,
              )
          at false t rest =
              let own : one_if (falls_at z) ≡ 0 = ap (λ b. one_if (b && (z.serial.0 == n))) t in
              omega (arith, rest, own, count-cons falls_at z zs)

  -- ---- what stays open

  module _ (serial : Serial) where
    any-kept : (zs : List Object) → list_any (is_the_open serial) zs ≡ true → AllByRecursion (λ (z : Object). is_the_open serial z ≡ true → p z ≡ false) zs
        → list_any (is_the_open serial) (map fallen zs) ≡ true
    any-kept [] t h = absurd cc
    any-kept (z ∷ zs) t h = at (is_the_open serial z) refl (any-kept zs)
      where
        at : (b : Bool) → is_the_open serial z ≡ b
            → (list_any (is_the_open serial) zs ≡ true → AllByRecursion (λ (y : Object). is_the_open serial y ≡ true → p y ≡ false) zs → list_any (is_the_open serial) (map fallen zs) ≡ true)
            → list_any (is_the_open serial) (map fallen (z ∷ zs)) ≡ true
        at true e later =
            ap (λ b. is_the_open serial (cond b (closed_by (r z) z) z) || list_any (is_the_open serial) (map fallen zs)) (h.0 e)
            ∙ ap (λ b. b || list_any (is_the_open serial) (map fallen zs)) e
        at false e later =
            or-later (is_the_open serial (fallen z)) (list_any (is_the_open serial) (map fallen zs))
            (later (sym (ap (λ b. b || list_any (is_the_open serial) zs) e) ∙ t) h.1)

    -- where no serial of the fallen is this one
    none-fell : (zs : List Object) → list_any (λ s. same_serial serial s) (map (λ (z : Object). z.serial) (filter p zs)) ≡ false
        → AllByRecursion (λ (z : Object). is_the_open serial z ≡ true → p z ≡ false) zs
    none-fell [] f = tt
    none-fell (z ∷ zs) f = at (p z) refl f (none-fell zs)
      where
        or-parts : (a b : Bool) → (a || b) ≡ false → (a ≡ false) × (b ≡ false)
        or-parts true b h = absurd (true≢false h)
        or-parts false b h = (refl, h)

        at : (b : Bool) → p z ≡ b → list_any (λ s. same_serial serial s) (map (λ (y : Object). y.serial) (cond b (z ∷ filter p zs) (filter p zs))) ≡ false
            → (list_any (λ s. same_serial serial s) (map (λ (y : Object). y.serial) (filter p zs)) ≡ false → AllByRecursion (λ (y : Object). is_the_open serial y ≡ true → p y ≡ false) zs)
            → AllByRecursion (λ (y : Object). is_the_open serial y ≡ true → p y ≡ false) (z ∷ zs)
        at true e none later =
            let parts = or-parts (same_serial serial z.serial) (list_any (λ s. same_serial serial s) (map (λ (y : Object). y.serial) (filter p zs))) none in (
              λ u.
                  let own : z.serial ≡ serial = serial-from z.serial serial (and_parts (has_serial serial z) (is_open z) u).0 in
                  absurd (true≢false (sym (serial-to serial z.serial (sym own)) ∙ parts.0)),
              later parts.1,
            )
        at false e none later = (λ u. e, later none)

module _ (whole : FallsAreWhole) (xs : List Object) (roots : List Serial) (why : Reason) where
  abbrev pub falls_here : Object → Bool
  falls_here x = object_falls.falls_with xs roots x

  abbrev pub why_of : Object → Reason
  why_of x = reason_of xs (falls xs roots) roots why x

  abbrev pub after_fall : Object → Object
  after_fall x = fallen falls_here why_of (λ y t. whole.opened xs roots y t) x

  -- the objects above an open one that doesn't fall don't fall
  above-stays : (y : Object) → Contains xs y → is_open y ≡ true → falls_here y ≡ false → (parent : Serial) → y.parent ≡ Some parent
      → AllByRecursion (λ (x : Object). is_the_open parent x ≡ true → falls_here x ≡ false) xs
  above-stays y here opened_now stays parent is =
      all-each (λ (x : Object). Contains xs x) (λ (x : Object). is_the_open parent x ≡ true → falls_here x ≡ false)
      (λ x there u. at x there (serial-from x.serial parent (and_parts (has_serial parent x) (is_open x) u).0) (falls_here x) refl) xs
      (recursion_from_All (Contains xs) xs (All-contains_itself xs))
    where
      at : (x : Object) → Contains xs x → x.serial ≡ parent → (b : Bool) → falls_here x ≡ b → b ≡ false
      at x there own true e = absurd (true≢false (sym (whole.children xs roots x y there here e opened_now (is ∙ ap Some (sym own))) ∙ stays))
      at x there own false e = refl

  contained : AllByRecursion (λ (x : Object). Contains xs x) xs
  contained = recursion_from_All (Contains xs) xs (All-contains_itself xs)

  stays-open : (x : Object) (b : Bool) → falls_here x ≡ b → is_open (cond b (closed_by (why_of x) x) x) ≡ true → (falls_here x ≡ false) × (is_open x ≡ true)
  stays-open x true t e = absurd (true≢false (sym e))
  stays-open x false t e = (t, e)

  pub stands-fallen : AreOnOpen xs → AreOnOpen (map after_fall xs)
  stands-fallen h =
      all-mapped (λ (x : Object). IsOnOpen xs x × Contains xs x) (IsOnOpen (map after_fall xs)) after_fall (λ x k. one x k.0 k.1) xs
      (all-both (IsOnOpen xs) (λ (x : Object). Contains xs x) (λ (x : Object). IsOnOpen xs x × Contains xs x) xs (λ x a b. (a, b)) h contained)
    where
      one : (x : Object) → IsOnOpen xs x → Contains xs x → IsOnOpen (map after_fall xs) (after_fall x)
      one x k here =
          λ e parent is.
          let now = stays-open x (falls_here x) refl e in
          let on : x.parent ≡ Some parent = sym (fallen-alike falls_here why_of (λ y t. whole.opened xs roots y t) x).parent ∙ is in
          any-kept falls_here why_of (λ y t. whole.opened xs roots y t) parent xs (k now.1 parent on) (above-stays x here now.1 now.0 parent on)

  -- an open object stays open that isn't among the fallen
  pub there-fallen : (serial : Serial) → is_open_at xs serial ≡ true → list_any (λ s. same_serial serial s) (falls xs roots) ≡ false → is_open_at (map after_fall xs) serial ≡ true
  there-fallen serial h apart =
      any-kept falls_here why_of (λ y t. whole.opened xs roots y t) serial xs h (none-fell falls_here why_of (λ y t. whole.opened xs roots y t) serial xs apart)

  pub due-fallen : (rs : List Issued) → AreDueOnOpen xs (waiting rs)
      → AreDueOnOpen (map after_fall xs) (map done (filter (is_under (falls xs roots)) (waiting rs)) ++ waiting (settled_where (is_under (falls xs roots)) rs))
  due-fallen rs h =
      all-fallen (IsDueOnOpen xs) (IsDueOnOpen (map after_fall xs)) rs (is_under (falls xs roots))
      (λ r k apart object keeps is.
      let at = k object keeps is in (at.0, at.1, there-fallen r.under at.2 apart))
      (λ r object keeps is. absurd cc) h

  pub once-fallen : AreInOrder xs → (n : ℕ) (ns : List Note) → times_closed n ns ≡ count_by (is_closed_at n) xs
      → times_closed n (ns ++ closed_notes (map after_fall xs) (falls xs roots)) ≡ count_by (is_closed_at n) (map after_fall xs)
  once-fallen rising n ns h =
      omega (
        arith,
        h,
        count-append (closes n) ns (closed_notes (map after_fall xs) (falls xs roots)),
        notes-fallen falls_here why_of (λ y t. whole.opened xs roots y t) n xs xs (all-numbered xs rising),
        count-fallen falls_here why_of (λ y t. whole.opened xs roots y t) n xs,
      )
