-- What is to be made is new: its serial and its id are no other object's.
use Rattle.std.proofs.Common.{◌≡◌, ◌≤◌, ◌<◌, ℕ, ◌+◌, ◌^◌, List, [], ◌∷◌, nat_le, nat_lt, Bool, true, false, ◌&&◌, ◌==◌, cond, Option, Some, None, refl, sym, ap, ◌∙◌, subst, arith, count_by}
use Rattle.std.specs.List.{find}
use Rattle.std.specs.Cmp.Lexicographic.{bytes_decides}
use Rattle.std.proofs.lemmas.Bool.{and_parts, leb-true, ltb-true}
use Rattle.ms_base.specs.Id.{IsIdSource, id_bytes}
use Rattle.ms_base.specs.Kinds.{same_kind}
use Rattle.ms_base.specs.declared.keys.Kind.{Kind}
use Rattle.ms_base.specs.declared.keys.Kind.TheVariants as kind
use Rattle.object_tree.specs.declared.object.Object.{Object}
use Rattle.object_tree.specs.Objects.{has_id, is_open, is_producer, open_with_id, same_id, same_serial}
use Rattle.request_build.specs.declared.built.Draws.{Draws}
use Rattle.host_requests.specs.declared.request.Request.{Request}
use Rattle.host_model.specs.declared.due.Due.{Due}
use Rattle.host_model.specs.declared.due.Due.TheVariants as due
use Rattle.host_model.specs.Fit.{HasOwnId, IsFitDue, has_serial, is_drawn, makes_serial, one_if, opens_serial}
use Rattle.host_model.specs.Sound.{IsSound}
use Rattle.host_model.specs.State.{State, waiting, waiting_for}
use Rattle.host_tables.specs.Kept.{IsNew}
use Rattle.host_core.specs.Answers.{worker_of}
use Rattle.host_core.specs.Tables.{IsDueNew}
use Rattle.host_core.proofs.Counts.{all-found, count-cons, count-found}
use Rattle.host_core.proofs.Keys.{same-itself}

find-none : {X : Type 0} (p : X → Bool) (xs : List X) → count_by p xs ≡ 0 → find p xs ≡ None
find-none p [] h = refl
find-none p (x ∷ xs) h = at (p x) (sym (count-cons p x xs) ∙ h) (find-none p xs)
  where
    at : (b : Bool) → one_if b + count_by p xs ≡ 0 → (count_by p xs ≡ 0 → find p xs ≡ None) → cond b (Some x) (find p xs) ≡ None
    at true e later = absurd (omega (arith, e))
    at false e later = later (omega (arith, e))

found-passes : {X : Type 0} (p : X → Bool) (xs : List X) (x : X) → find p xs ≡ Some x → p x ≡ true
found-passes p [] x e = absurd cc
found-passes p (y ∷ ys) x e = at (p y) refl e (found-passes p ys x)
  where
    at : (b : Bool) → p y ≡ b → cond b (Some y) (find p ys) ≡ Some x → (find p ys ≡ Some x → p x ≡ true) → p x ≡ true
    at true t f later = let here : y ≡ x = cc in subst (λ z. p z ≡ true) here t
    at false t f later = later f

-- one that is found is counted, by each test that it passes
counted-found : {X : Type 0} (q p : X → Bool) (xs : List X) (x : X) → find p xs ≡ Some x → q x ≡ true → 1 ≤ count_by q xs
counted-found q p xs x e h = let one : one_if (q x) ≡ 1 = ap one_if h in omega (arith, one, count-found q p xs x e)

same-kind : (a b : Kind) → same_kind a b ≡ true → a ≡ b
same-kind kind.Worker kind.Worker h = refl
same-kind kind.Router kind.Router h = refl
same-kind kind.Plain kind.Plain h = refl
same-kind kind.Pipe kind.Pipe h = refl
same-kind kind.Direct kind.Direct h = refl
same-kind kind.Producer kind.Producer h = refl
same-kind kind.Consumer kind.Consumer h = refl
same-kind _ _ h = absurd cc

-- a number that was drawn is one of these
drawn-within : (next : Draws) (n : ℕ) → 1 ≤ one_if (is_drawn next n) → (1 ≤ n) × (n < next.serial)
drawn-within next n h = at (nat_le 1 n) (nat_lt n next.serial) refl refl h
  where
    at : (b c : Bool) → nat_le 1 n ≡ b → nat_lt n next.serial ≡ c → 1 ≤ one_if (b && c) → (1 ≤ n) × (n < next.serial)
    at true true e f g = (leb-true 1 n e, ltb-true n next.serial f)
    at true false e f g = absurd (omega (arith, g))
    at false c e f g = absurd (omega (arith, g))

one-at-most : (b : Bool) → one_if b ≤ 1
one-at-most true = omega arith
one-at-most false = omega arith

abbrev pub IdsDiffer : Type 0
IdsDiffer = (s t m n : ℕ) → IsIdSource s m → IsIdSource t n → id_bytes s m ≡ id_bytes t n → m ≡ n

module _ (differ : IdsDiffer) (seed : ℕ) (s : State) (h : IsSound seed s) (room : s.next.serial ≤ 2 ^ 32) where
  -- an object has a serial that was drawn
  drawn-of : (p : Object → Bool) (x : Object) → find p s.objects ≡ Some x → (1 ≤ x.serial.0) × (x.serial.0 < s.next.serial)
  drawn-of p x found =
      let n = x.serial.0 in
      let here = counted-found (has_serial n) p s.objects x found (same-itself n) in
      drawn-within s.next n (omega (arith, here, h.fits.whole.drawn_once n))

  -- an object that is found by this id is this one
  same-number : (o x : Object) → 1 ≤ o.serial.0 → o.serial.0 < 2 ^ 32 → (is_producer o.kind ≡ false → o.id.0 ≡ id_bytes s.next.seed o.serial.0) → is_producer o.kind ≡ false
      → find (λ (y : Object). is_open y && has_id o.worker o.kind o.id y) s.objects ≡ Some x → o.serial.0 ≡ x.serial.0
  same-number o x one small own other found =
      let test = (λ (y : Object). is_open y && has_id o.worker o.kind o.id y) in
      let passes = found-passes test s.objects x found in
      let ids = (and_parts (is_open x) (has_id o.worker o.kind o.id x) passes).1 in
      let front = and_parts (same_serial o.worker x.worker && same_kind o.kind x.kind) (same_id o.id x.id) ids in
      let kinds : o.kind ≡ x.kind = same-kind o.kind x.kind (and_parts (same_serial o.worker x.worker) (same_kind o.kind x.kind) front.0).1 in
      let bytes : o.id.0 ≡ x.id.0 = (bytes_decides o.id.0 x.id.0).0 front.1 in
      let its_own : x.id.0 ≡ id_bytes s.next.seed x.serial.0 =
      all-found (HasOwnId s.next.seed) test s.objects x h.fits.whole.own_ids found (ap is_producer (sym kinds) ∙ other) in
      let drawn = drawn-of test x found in
      let source : IsIdSource s.next.seed o.serial.0 = record { seed_fits = h.fits.seed; from_one = one; number_fits = small } in
      let its_source : IsIdSource s.next.seed x.serial.0 = record { seed_fits = h.fits.seed; from_one = drawn.0; number_fits = omega (arith, drawn.1, room) } in
      differ s.next.seed s.next.seed o.serial.0 x.serial.0 source its_source (sym (own other) ∙ bytes ∙ its_own)

  new-of : (o : Object) → count_by (has_serial o.serial.0) s.objects ≡ 0 → 1 ≤ o.serial.0 → o.serial.0 < 2 ^ 32
      → (is_producer o.kind ≡ false → o.id.0 ≡ id_bytes s.next.seed o.serial.0) → IsNew s.objects o
  new-of o none one small own = record {
    fresh = find-none (has_serial o.serial.0) s.objects none;
    apart = λ other. at other (open_with_id s.objects o.worker o.kind o.id) refl;
  }
    where
      at : is_producer o.kind ≡ false → (found : Option Object) → open_with_id s.objects o.worker o.kind o.id ≡ found → open_with_id s.objects o.worker o.kind o.id ≡ None
      at other None e = e
      at other (Some x) e =
          let test = (λ (y : Object). is_open y && has_id o.worker o.kind o.id y) in
          let same = same-number o x one small own other e in
          let here = counted-found (has_serial o.serial.0) test s.objects x e (ap (λ n. n == o.serial.0) (sym same) ∙ same-itself o.serial.0) in
          absurd (omega (arith, here, none))

  -- what a request that waits is to make is new
  pub due-new : (test : Request Due → Bool) (r : Request Due) → waiting_for test s.requests ≡ Some r → IsDueNew s.objects r.due
  due-new test r found = at r.due refl
    where
      at : (d : Due) → r.due ≡ d → IsDueNew s.objects d
      at (due.Opens object keeps) e =
          let n = object.serial.0 in
          let makes : makes_serial n r ≡ true = ap (opens_serial n) e ∙ same-itself n in
          let waits = counted-found (makes_serial n) test (waiting s.requests) r found makes in
          let once = h.fits.whole.drawn_once n in
          let below = one-at-most (is_drawn s.next n) in
          let drawn = drawn-within s.next n (omega (arith, waits, once)) in
          let fit : IsFitDue s.next.seed r.due = all-found (λ (q : Request Due). IsFitDue s.next.seed q.due) test (waiting s.requests) r h.fits.whole.due found in
          let own = (subst (IsFitDue s.next.seed) e fit).0 in
          new-of object (omega (arith, waits, once, below)) drawn.0 (omega (arith, drawn.1, room)) own
      at (due.Turns paused) e = tt
      at due.Nothing e = tt

-- the Worker that a call makes is new
pub worker-new : IdsDiffer → (seed : ℕ) (s : State) (name : List ℕ) → IsSound seed s → s.next.serial < 2 ^ 32 → IsNew s.objects (worker_of s.next name)
worker-new differ seed s name h small =
    let n = s.next.serial in
    let none : one_if (is_drawn s.next n) ≡ 0 = not-drawn in
    new-of differ seed s h (omega (arith, small)) (worker_of s.next name) (omega (arith, h.fits.whole.drawn_once n, none)) h.fits.whole.from_one small (λ _. refl)
  where
    at : (b : Bool) → nat_lt s.next.serial s.next.serial ≡ b → one_if (nat_le 1 s.next.serial && b) ≡ 0
    at true e = absurd (omega (arith, ltb-true s.next.serial s.next.serial e))
    at false e = ap one_if (and-false (nat_le 1 s.next.serial))
      where
        and-false : (b : Bool) → (b && false) ≡ false
        and-false true = refl
        and-false false = refl

    not-drawn : one_if (is_drawn s.next s.next.serial) ≡ 0
    not-drawn = at (nat_lt s.next.serial s.next.serial) refl
