-- Counts, what holds of each of a list, and lists with elements changed, added and taken out.
use Rattle.std.proofs.Common.{◌≡◌, ◌≤◌, ℕ, ◌+◌, List, [], ◌∷◌, ◌++◌, map, Bool, true, false, not, ◌&&◌, ◌==◌, cond, Some, refl, sym, ap, ◌∙◌, subst, arith, count_by}
use Rattle.std.specs.List.{AllByRecursion, filter, find}
use Rattle.std.proofs.lemmas.Bool.{eqb-true, and_parts}
use Rattle.std.proofs.lemmas.Bool.Decides.{nat_tests}
use Rattle.std.proofs.lemmas.List.Sums.{sum_by-append, sum_by-cons, sum_by_push}
use Rattle.ms_base.specs.declared.keys.WorkerKey.{WorkerKey}
use Rattle.host_notes.specs.Keys.{same_worker}
use Rattle.host_model.specs.Fit.{one_if}

-- ---- keys and numbers that a test finds to be the same

pub same-itself : (n : ℕ) → (n == n) ≡ true
same-itself n = grind (arith, nat_tests)

pub worker-itself : (a : WorkerKey) → same_worker a a ≡ true
worker-itself a = ap (λ b. b && (a.generation == a.generation)) (same-itself a.slot) ∙ same-itself a.generation

pub worker-same : (a b : WorkerKey) → same_worker a b ≡ true → a ≡ b
worker-same a b h =
    let parts = and_parts (a.slot == b.slot) (a.generation == b.generation) h in
    let slot = eqb-true a.slot b.slot parts.0 in
    let generation = eqb-true a.generation b.generation parts.1 in
    λ i. record { slot = slot i; generation = generation i }

-- ---- counts

pub count-cons : {X : Type 0} (q : X → Bool) (x : X) (xs : List X) → count_by q (x ∷ xs) ≡ one_if (q x) + count_by q xs
count-cons q x xs = sum_by-cons (λ y. cond (q y) 1 0) x xs

pub count-push : {X : Type 0} (q : X → Bool) (xs : List X) (x : X) → count_by q (xs ++ x ∷ []) ≡ count_by q xs + one_if (q x)
count-push q xs x = sum_by_push (λ y. cond (q y) 1 0) xs x

pub count-append : {X : Type 0} (q : X → Bool) (xs ys : List X) → count_by q (xs ++ ys) ≡ count_by q xs + count_by q ys
count-append q xs ys = sum_by-append (λ y. cond (q y) 1 0) xs ys

-- elements that are changed
pub count-mapped : {X Y : Type 0} (q : Y → Bool) (p : X → Bool) (f : X → Y) → ((x : X) → q (f x) ≡ p x) → (xs : List X) → count_by q (map f xs) ≡ count_by p xs
count-mapped q p f same [] = refl
count-mapped q p f same (x ∷ xs) =
    count-cons q (f x) (map f xs) ∙ ap (λ b. one_if b + count_by q (map f xs)) (same x) ∙ ap (λ n. one_if (p x) + n) (count-mapped q p f same xs)
    ∙ sym (count-cons p x xs)

pub count-none : {X : Type 0} (q : X → Bool) → ((x : X) → q x ≡ false) → (xs : List X) → count_by q xs ≡ 0
count-none q none [] = refl
count-none q none (x ∷ xs) =
    let first : one_if (q x) ≡ 0 = ap one_if (none x) in
    omega (arith, first, count-cons q x xs, count-none q none xs)

-- those that pass a test, and the others
module _ {X : Type 0} (q p : X → Bool) where
  pub count-parted : (xs : List X) → count_by q (filter p xs) + count_by q (filter (λ x. not (p x)) xs) ≡ count_by q xs
  count-parted [] = refl
  count-parted (x ∷ xs) = at (p x) (count-parted xs)
    where
      at : (b : Bool) → count_by q (filter p xs) + count_by q (filter (λ y. not (p y)) xs) ≡ count_by q xs
          → count_by q (cond b (x ∷ filter p xs) (filter p xs)) + count_by q (cond (not b) (x ∷ filter (λ y. not (p y)) xs) (filter (λ y. not (p y)) xs)) ≡ count_by q (x ∷ xs)
      at true h = omega (arith, h, count-cons q x xs, count-cons q x (filter p xs))
      at false h = omega (arith, h, count-cons q x xs, count-cons q x (filter (λ y. not (p y)) xs))

  pub count-others : (xs : List X) → count_by q (filter (λ x. not (p x)) xs) ≤ count_by q xs
  count-others xs = omega (arith, count-parted xs)

  -- the first that passes, and those that don't
  pub count-found : (xs : List X) (r : X) → find p xs ≡ Some r → one_if (q r) + count_by q (filter (λ x. not (p x)) xs) ≤ count_by q xs
  count-found [] r e = absurd cc
  count-found (x ∷ xs) r e = at (p x) e (count-found xs r)
    where
      at : (b : Bool) → cond b (Some x) (find p xs) ≡ Some r
          → (find p xs ≡ Some r → one_if (q r) + count_by q (filter (λ y. not (p y)) xs) ≤ count_by q xs)
          → one_if (q r) + count_by q (cond (not b) (x ∷ filter (λ y. not (p y)) xs) (filter (λ y. not (p y)) xs)) ≤ count_by q (x ∷ xs)
      at true here later =
          let same : x ≡ r = cc in
          let one : one_if (q x) ≡ one_if (q r) = ap (λ y. one_if (q y)) same in
          omega (arith, one, count-cons q x xs, count-others xs)
      at false there later = omega (arith, later there, count-cons q x xs, count-cons q x (filter (λ y. not (p y)) xs))

-- ---- what holds of each

module _ {X : Type 0} (P : X → Type 0) where
  pub all-append : (xs ys : List X) → AllByRecursion P xs → AllByRecursion P ys → AllByRecursion P (xs ++ ys)
  all-append [] ys h k = k
  all-append (x ∷ xs) ys h k = (h.0, all-append xs ys h.1 k)

  pub all-front : (xs ys : List X) → AllByRecursion P (xs ++ ys) → AllByRecursion P xs
  all-front [] ys h = tt
  all-front (x ∷ xs) ys h = (h.0, all-front xs ys h.1)

  pub all-behind : (xs ys : List X) → AllByRecursion P (xs ++ ys) → AllByRecursion P ys
  all-behind [] ys h = h
  all-behind (x ∷ xs) ys h = all-behind xs ys h.1

  pub all-filter : (p : X → Bool) (xs : List X) → AllByRecursion P xs → AllByRecursion P (filter p xs)
  all-filter p [] h = tt
  all-filter p (x ∷ xs) h = at (p x) (all-filter p xs h.1)
    where
      at : (b : Bool) → AllByRecursion P (filter p xs) → AllByRecursion P (cond b (x ∷ filter p xs) (filter p xs))
      at true k = (h.0, k)
      at false k = k

  pub all-found : (p : X → Bool) (xs : List X) (r : X) → AllByRecursion P xs → find p xs ≡ Some r → P r
  all-found p [] r h e = absurd cc
  all-found p (x ∷ xs) r h e = at (p x) e (all-found p xs r h.1)
    where
      at : (b : Bool) → cond b (Some x) (find p xs) ≡ Some r → (find p xs ≡ Some r → P r) → P r
      at true here later = let same : x ≡ r = cc in subst P same h.0
      at false there later = later there

pub all-mapped : {X Y : Type 0} (P : X → Type 0) (Q : Y → Type 0) (f : X → Y) → ((x : X) → P x → Q (f x)) → (xs : List X) → AllByRecursion P xs → AllByRecursion Q (map f xs)
all-mapped P Q f keeps [] h = tt
all-mapped P Q f keeps (x ∷ xs) h = (keeps x h.0, all-mapped P Q f keeps xs h.1)

pub all-whole : {X : Type 0} (P : X → Type 0) → ((x : X) → P x) → (xs : List X) → AllByRecursion P xs
all-whole P h [] = tt
all-whole P h (x ∷ xs) = (h x, all-whole P h xs)

pub all-each : {X : Type 0} (P Q : X → Type 0) → ((x : X) → P x → Q x) → (xs : List X) → AllByRecursion P xs → AllByRecursion Q xs
all-each P Q f [] h = tt
all-each P Q f (x ∷ xs) h = (f x h.0, all-each P Q f xs h.1)
