-- Objects that come, and objects that are changed but for what tells them apart.
use Rattle.std.proofs.Common.{◌≡◌, ◌≤◌, ◌<◌, ℕ, ◌+◌, List, [], ◌∷◌, map, Bool, true, false, ◌&&◌, ◌==◌, nat_lt, cond, refl, sym, ap, ◌∙◌, subst, arith, count_by}
use Rattle.std.specs.Bool.{⊤}
use Rattle.std.specs.List.{AllByRecursion}
use Rattle.std.proofs.lemmas.Bool.{eqb-false, ltb-true, ltb-false}
use Rattle.ms_base.specs.Id.{id_bytes}
use Rattle.ms_base.specs.declared.keys.Reason.{Reason}
use Rattle.ms_base.specs.declared.keys.Serial.{Serial}
use Rattle.object_tree.specs.declared.object.Mark.{Mark}
use Rattle.object_tree.specs.declared.object.Mark.TheVariants.{Running, Paused, ProducerPaused, Far}
use Rattle.object_tree.specs.declared.object.Object.{Object}
use Rattle.object_tree.specs.Falls.{closed_by, closed_if, is_among, reason_of}
use Rattle.object_tree.specs.Objects.{AreInOrder, is_open, is_producer, marked, with_object}
use Rattle.host_model.specs.Fit.{HasOwnId, has_serial, one_if}
use Rattle.host_model.proofs.Counts.{all-each, all-mapped, count-cons, count-push}

-- ---- an object that comes

pub count-with_object : (q : Object → Bool) (o : Object) (xs : List Object) → count_by q (with_object o xs) ≡ count_by q xs + one_if (q o)
count-with_object q o [] = count-push q [] o
count-with_object q o (x ∷ xs) = at (nat_lt o.serial.0 x.serial.0) (count-with_object q o xs)
  where
    at : (b : Bool) → count_by q (with_object o xs) ≡ count_by q xs + one_if (q o)
        → count_by q (cond b (o ∷ x ∷ xs) (x ∷ with_object o xs)) ≡ count_by q (x ∷ xs) + one_if (q o)
    at true h = omega (arith, count-cons q o (x ∷ xs))
    at false h = omega (arith, h, count-cons q x (with_object o xs), count-cons q x xs)

pub all-with_object : (P : Object → Type 0) (o : Object) (xs : List Object) → P o → AllByRecursion P xs → AllByRecursion P (with_object o xs)
all-with_object P o [] one h = (one, tt)
all-with_object P o (x ∷ xs) one h = at (nat_lt o.serial.0 x.serial.0) (all-with_object P o xs one h.1)
  where
    at : (b : Bool) → AllByRecursion P (with_object o xs) → AllByRecursion P (cond b (o ∷ x ∷ xs) (x ∷ with_object o xs))
    at true later = (one, h)
    at false later = (h.0, later)

-- a new serial goes to its place
pub in_order-with_object : (o : Object) (xs : List Object) → AreInOrder xs → count_by (has_serial o.serial.0) xs ≡ 0 → AreInOrder (with_object o xs)
in_order-with_object o [] h none = (tt, tt)
in_order-with_object o (x ∷ xs) h none = at (nat_lt o.serial.0 x.serial.0) refl (in_order-with_object o xs h.1)
  where
    counted : one_if (x.serial.0 == o.serial.0) + count_by (has_serial o.serial.0) xs ≡ 0
    counted = sym (count-cons (has_serial o.serial.0) x xs) ∙ none

    differs : (b : Bool) (n : ℕ) → one_if b + n ≡ 0 → (b ≡ false) × (n ≡ 0)
    differs true n e = absurd (omega arith)
    differs false n e = (refl, omega arith)

    at : (b : Bool) → nat_lt o.serial.0 x.serial.0 ≡ b → (count_by (has_serial o.serial.0) xs ≡ 0 → AreInOrder (with_object o xs))
        → AreInOrder (cond b (o ∷ x ∷ xs) (x ∷ with_object o xs))
    at true e later =
        let low : o.serial.0 < x.serial.0 = ltb-true o.serial.0 x.serial.0 e in
        ((low, all-each (λ (y : Object). x.serial.0 < y.serial.0) (λ (y : Object). o.serial.0 < y.serial.0) (λ y l. omega (arith, low, l)) xs h.0), h)
    at false e later =
        let parts = differs (x.serial.0 == o.serial.0) (count_by (has_serial o.serial.0) xs) counted in
        let other : x.serial.0 ≡ o.serial.0 → ⊥ = eqb-false x.serial.0 o.serial.0 parts.0 in
        let least : x.serial.0 ≤ o.serial.0 = ltb-false o.serial.0 x.serial.0 e in
        (all-with_object (λ (y : Object). x.serial.0 < y.serial.0) o xs (omega (arith, other, least)) h.0, later parts.1)

-- ---- objects that are changed

-- the same in what tells objects apart, what they stand on and what they lead to
pub record IsAlike (a b : Object) : Type 0 where
  pub serial : b.serial ≡ a.serial
  pub id : b.id ≡ a.id
  pub kind : b.kind ≡ a.kind
  pub parent : b.parent ≡ a.parent
  pub name : b.name ≡ a.name
  pub far : b.far ≡ a.far
  pub worker : b.worker ≡ a.worker
  pub producer : b.producer ≡ a.producer

pub alike-itself : (o : Object) → IsAlike o o
alike-itself o = record { serial = refl; id = refl; kind = refl; parent = refl; name = refl; far = refl; worker = refl; producer = refl }

pub own_id-alike : (seed : ℕ) (a b : Object) → IsAlike a b → HasOwnId seed a → HasOwnId seed b
own_id-alike seed a b same h =
    λ e. ap (λ i. i.0) same.id ∙ h (ap is_producer (sym same.kind) ∙ e) ∙ ap (λ (s : Serial). id_bytes seed s.0) (sym same.serial)

module _ (f : Object → Object) (same : (o : Object) → IsAlike o (f o)) where
  pub in_order-mapped : (xs : List Object) → AreInOrder xs → AreInOrder (map f xs)
  in_order-mapped [] h = tt
  in_order-mapped (x ∷ xs) h = (
    all-mapped (λ (y : Object). x.serial.0 < y.serial.0) (λ (y : Object). (f x).serial.0 < y.serial.0) f
        (λ y l. subst (λ n. n < (f y).serial.0) (sym (ap (λ (s : Serial). s.0) (same x).serial)) (subst (λ n. x.serial.0 < n) (sym (ap (λ (s : Serial). s.0) (same y).serial)) l))
        xs h.0,
    in_order-mapped xs h.1,
  )

  pub own_ids-mapped : (seed : ℕ) (xs : List Object) → AllByRecursion (HasOwnId seed) xs → AllByRecursion (HasOwnId seed) (map f xs)
  own_ids-mapped seed xs h = all-mapped (HasOwnId seed) (HasOwnId seed) f (λ o k. own_id-alike seed o (f o) (same o) k) xs h

  pub serial-mapped : (n : ℕ) (o : Object) → has_serial n (f o) ≡ has_serial n o
  serial-mapped n o = ap (λ (s : Serial). s.0 == n) (same o).serial

-- a mark that sets no far end
abbrev pub KeepsLinks : Mark → Type 0
KeepsLinks (Far serial) = ⊥
KeepsLinks other = ⊤

pub marked-alike : (mark : Mark) → KeepsLinks mark → (o : Object) → IsAlike o (marked mark o)
marked-alike Running keeps o = record { serial = refl; id = refl; kind = refl; parent = refl; name = refl; far = refl; worker = refl; producer = refl }
marked-alike (Paused b) keeps o = record { serial = refl; id = refl; kind = refl; parent = refl; name = refl; far = refl; worker = refl; producer = refl }
marked-alike (ProducerPaused b) keeps o = record { serial = refl; id = refl; kind = refl; parent = refl; name = refl; far = refl; worker = refl; producer = refl }
marked-alike (Far s) keeps o = absurd keeps

-- changed where a test says so
pub chosen-alike : (b : Bool) (o p : Object) → IsAlike o p → IsAlike o (cond b p o)
chosen-alike true o p h = h
chosen-alike false o p h = alike-itself o

pub closed-alike : (objects : List Object) (fallen roots : List Serial) (reason : Reason) (o : Object) → IsAlike o (closed_if objects fallen roots reason o)
closed-alike objects fallen roots reason o =
    chosen-alike (is_open o && is_among fallen o.serial) o (closed_by (reason_of objects fallen roots reason o) o)
    (record { serial = refl; id = refl; kind = refl; parent = refl; name = refl; far = refl; worker = refl; producer = refl })
