-- Counts, and what holds of the first that passes a test.
use Rattle.std.proofs.Common.{◌≡◌, ◌≤◌, ◌+◌, List, [], ◌∷◌, Bool, true, false, not, cond, Some, refl, ap, subst, arith, count_by}
use Rattle.std.specs.List.{AllByRecursion, filter, find}
use Rattle.std.proofs.lemmas.List.Sums.{sum_by-cons}
use Rattle.host_model.specs.Fit.{one_if}

pub count-cons : {X : Type 0} (q : X → Bool) (x : X) (xs : List X) → count_by q (x ∷ xs) ≡ one_if (q x) + count_by q xs
count-cons q x xs = sum_by-cons (λ y. cond (q y) 1 0) x xs

-- those that pass a test, and the others
module _ {X : Type 0} (q p : X → Bool) where
  pub count-parted : (xs : List X) → count_by q (filter p xs) + count_by q (filter (λ x. not (p x)) xs) ≡ count_by q xs
  count-parted [] = refl
  count-parted (x ∷ xs) = at (p x) (count-parted xs)
    where
      at : (b : Bool) → count_by q (filter p xs) + count_by q (filter (λ y. not (p y)) xs) ≡ count_by q xs
          → count_by q (cond b (x ∷ filter p xs) (filter p xs)) + count_by q (cond (not b) (x ∷ filter (λ y. not (p y)) xs) (filter (λ y. not (p y)) xs)) ≡ count_by q (x ∷ xs)
      at true h = omega (arith, h, count-cons q x xs, count-cons q x (filter p xs))
      at false h = omega (arith, h, count-cons q x xs, count-cons q x (filter (λ y. not (p y)) xs))

  pub count-others : (xs : List X) → count_by q (filter (λ x. not (p x)) xs) ≤ count_by q xs
  count-others xs = omega (arith, count-parted xs)

  -- the first that passes, and those that don't
  pub count-found : (xs : List X) (r : X) → find p xs ≡ Some r → one_if (q r) + count_by q (filter (λ x. not (p x)) xs) ≤ count_by q xs
  count-found [] r e = absurd cc
  count-found (x ∷ xs) r e = at (p x) e (count-found xs r)
    where
      at : (b : Bool) → cond b (Some x) (find p xs) ≡ Some r
          → (find p xs ≡ Some r → one_if (q r) + count_by q (filter (λ y. not (p y)) xs) ≤ count_by q xs)
          → one_if (q r) + count_by q (cond (not b) (x ∷ filter (λ y. not (p y)) xs) (filter (λ y. not (p y)) xs)) ≤ count_by q (x ∷ xs)
      at true here later =
          let same : x ≡ r = cc in
          let one : one_if (q x) ≡ one_if (q r) = ap (λ y. one_if (q y)) same in
          omega (arith, one, count-cons q x xs, count-others xs)
      at false there later = omega (arith, later there, count-cons q x xs, count-cons q x (filter (λ y. not (p y)) xs))

module _ {X : Type 0} (P : X → Type 0) where
  pub all-found : (p : X → Bool) (xs : List X) (r : X) → AllByRecursion P xs → find p xs ≡ Some r → P r
  all-found p [] r h e = absurd cc
  all-found p (x ∷ xs) r h e = at (p x) e (all-found p xs r h.1)
    where
      at : (b : Bool) → cond b (Some x) (find p xs) ≡ Some r → (find p xs ≡ Some r → P r) → P r
      at true here later = let same : x ≡ r = cc in subst P same h.0
      at false there later = later there
