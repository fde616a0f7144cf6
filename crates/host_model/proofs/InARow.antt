-- Numbers in a row, and lists whose elements are numbered so.
use Rattle.std.proofs.Common.{◌≡◌, ◌≤◌, ◌<◌, ℕ, zero, suc, ◌+◌, List, [], ◌∷◌, ◌++◌, length, map, Bool, true, false, ◌&&◌, ◌==◌, cond, refl, sym, ap, ◌∙◌, subst, arith, add-zero, zero-add, add-one, count_by}
use Rattle.std.specs.List.{filter}
use Rattle.std.proofs.lemmas.Bool.{eqb-true}
use Rattle.std.proofs.lemmas.List.{append-nil, length_push, length-map}
use Rattle.std.proofs.lemmas.List.Sums.{length-filter}
use Rattle.host_model.specs.Fit.{one_if}
use Rattle.host_model.specs.Laws.{numbers_from}
use Rattle.host_model.proofs.Counts.{count-cons}

-- ---- numbers in a row

abbrev pub AreFromOne : List ℕ → Type 0
AreFromOne ns = ns ≡ numbers_from 1 (length ns)

numbers-last : (n k : ℕ) → numbers_from n (suc k) ≡ numbers_from n k ++ (n + k) ∷ []
numbers-last n zero = ap (λ m. m ∷ []) (sym (add-zero n))
numbers-last n (suc k) =
    let e : n + 1 + k ≡ n + suc k = omega arith in
    ap (λ (ns : List ℕ). n ∷ ns) (numbers-last (n + 1) k) ∙ ap (λ m. n ∷ (numbers_from (n + 1) k ++ m ∷ [])) e

pub from_one-more : (ns : List ℕ) (m : ℕ) → AreFromOne ns → m ≡ length ns + 1 → AreFromOne (ns ++ m ∷ [])
from_one-more ns m h e =
    let e' : m ≡ 1 + length ns = omega arith in
    ap (λ k. ns ++ k ∷ []) e'
    ∙ ap (λ (l : List ℕ). l ++ (1 + length ns) ∷ []) h
    ∙ sym (numbers-last 1 (length ns))
    ∙ ap (numbers_from 1) (sym (length_push ns m ∙ add-one (length ns)))

below-none : (n k l : ℕ) → n < k → count_by (λ m. m == n) (numbers_from k l) ≡ 0
below-none n k zero h = refl
below-none n k (suc l) h =
    count-cons (λ m. m == n) k (numbers_from (k + 1) l) ∙ differs (k == n) refl ∙ below-none n (k + 1) l (omega arith)
  where
    differs : (b : Bool) → (k == n) ≡ b → one_if b + count_by (λ m. m == n) (numbers_from (k + 1) l) ≡ count_by (λ m. m == n) (numbers_from (k + 1) l)
    differs true e = absurd (let same : k ≡ n = eqb-true k n e in omega arith)
    differs false e = zero-add (count_by (λ m. m == n) (numbers_from (k + 1) l))

pub each-once : (n k l : ℕ) → count_by (λ m. m == n) (numbers_from k l) ≤ 1
each-once n k zero = omega arith
each-once n k (suc l) = subst (λ c. c ≤ 1) (sym (count-cons (λ m. m == n) k (numbers_from (k + 1) l))) (at (k == n) refl (each-once n (k + 1) l))
  where
    at : (b : Bool) → (k == n) ≡ b → count_by (λ m. m == n) (numbers_from (k + 1) l) ≤ 1 → one_if b + count_by (λ m. m == n) (numbers_from (k + 1) l) ≤ 1
    at true e rest =
        let same : k ≡ n = eqb-true k n e in
        let none : count_by (λ m. m == n) (numbers_from (k + 1) l) ≡ 0 = below-none n (k + 1) l (omega arith) in
        omega arith
    at false e rest = omega arith

-- ---- those that pass a test, as numbers

module _ {X : Type 0} (f : X → ℕ) (p : X → Bool) where
  abbrev pub picked : List X → List ℕ
  picked xs = map f (filter p xs)

  pub picked-cons : (x : X) (xs : List X) → picked (x ∷ xs) ≡ cond (p x) (f x ∷ picked xs) (picked xs)
  picked-cons x xs = at (p x)
    where
      at : (b : Bool) → map f (cond b (x ∷ filter p xs) (filter p xs)) ≡ cond b (f x ∷ picked xs) (picked xs)
      at true = refl
      at false = refl

  pub picked-push : (xs : List X) (x : X) → picked (xs ++ x ∷ []) ≡ picked xs ++ cond (p x) (f x ∷ []) []
  picked-push [] x = picked-cons x []
  picked-push (y ∷ ys) x =
      picked-cons y (ys ++ x ∷ []) ∙ ap (λ (l : List ℕ). cond (p y) (f y ∷ l) l) (picked-push ys x) ∙ at (p y)
      ∙ ap (λ (l : List ℕ). l ++ cond (p x) (f x ∷ []) []) (sym (picked-cons y ys))
    where
      at : (b : Bool) → cond b (f y ∷ (picked ys ++ cond (p x) (f x ∷ []) [])) (picked ys ++ cond (p x) (f x ∷ []) []) ≡ cond b (f y ∷ picked ys) (picked ys) ++ cond (p x) (f x ∷ []) []
      at true = refl
      at false = refl

  pub length-picked : (xs : List X) → length (picked xs) ≡ count_by p xs
  length-picked xs = length-map (filter p xs) f ∙ length-filter p xs

  -- the next one has the next number
  pub picked-more : (xs : List X) (x : X) → AreFromOne (picked xs) → (p x ≡ true → f x ≡ count_by p xs + 1) → AreFromOne (picked (xs ++ x ∷ []))
  picked-more xs x h next = subst AreFromOne (sym (picked-push xs x)) (at (p x) refl)
    where
      at : (b : Bool) → p x ≡ b → AreFromOne (picked xs ++ cond b (f x ∷ []) [])
      at true e = from_one-more (picked xs) (f x) h (next e ∙ ap (λ n. n + 1) (sym (length-picked xs)))
      at false e = subst AreFromOne (sym (append-nil (picked xs))) h

  pub count-picked : (n : ℕ) (xs : List X) → count_by (λ x. p x && (f x == n)) xs ≡ count_by (λ m. m == n) (picked xs)
  count-picked n [] = refl
  count-picked n (x ∷ xs) =
      count-cons (λ y. p y && (f y == n)) x xs ∙ ap (λ k. one_if (p x && (f x == n)) + k) (count-picked n xs) ∙ at (p x)
      ∙ ap (count_by (λ m. m == n)) (sym (picked-cons x xs))
    where
      at : (b : Bool) → one_if (b && (f x == n)) + count_by (λ m. m == n) (picked xs) ≡ count_by (λ m. m == n) (cond b (f x ∷ picked xs) (picked xs))
      at true = sym (count-cons (λ m. m == n) (f x) (picked xs))
      at false = zero-add (count_by (λ m. m == n) (picked xs))

  -- no number stands twice
  pub picked-once : (n : ℕ) (xs : List X) → AreFromOne (picked xs) → count_by (λ x. p x && (f x == n)) xs ≤ 1
  picked-once n xs h =
      subst (λ c. c ≤ 1) (sym (count-picked n xs ∙ ap (count_by (λ m. m == n)) h)) (each-once n 1 (length (picked xs)))

-- elements that are changed, but not in their numbers
pub picked-kept : {X : Type 0} (f : X → ℕ) (p : X → Bool) (g : X → X) → ((x : X) → f (g x) ≡ f x) → ((x : X) → p (g x) ≡ p x) → (xs : List X) → picked f p (map g xs) ≡ picked f p xs
picked-kept f p g number test [] = refl
picked-kept f p g number test (x ∷ xs) =
    picked-cons f p (g x) (map g xs)
    ∙ ap (λ b. cond b (f (g x) ∷ picked f p (map g xs)) (picked f p (map g xs))) (test x)
    ∙ ap (λ n. cond (p x) (n ∷ picked f p (map g xs)) (picked f p (map g xs))) (number x)
    ∙ ap (λ (l : List ℕ). cond (p x) (f x ∷ l) l) (picked-kept f p g number test xs)
    ∙ sym (picked-cons f p x xs)
