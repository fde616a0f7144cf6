-- Counts, and tests of names.
use Rattle.std.proofs.Common.{◌≡◌, ◌≤◌, ℕ, ◌+◌, List, [], ◌∷◌, ◌++◌, Bool, true, false, not, ◌&&◌, ◌||◌, cond, nat_eq, nat_lt, Some, None, bytes_eq, refl, sym, ap, ◌∙◌, arith, count_by, add-zero, zero-add}
use Rattle.std.specs.List.{filter, find, list_any}
use Rattle.std.proofs.lemmas.Bool.Decides.{nat_tests}
use Rattle.std.proofs.lemmas.List.Sums.{sum_by-cons, sum_by_push}
use Rattle.request_build.specs.Counts.{one_if}
use Rattle.host_tables.specs.Kept.{is_one_of}

-- ---- counts

pub count-cons : {X : Type 0} (q : X → Bool) (x : X) (xs : List X) → count_by q (x ∷ xs) ≡ one_if (q x) + count_by q xs
count-cons q x xs = sum_by-cons (λ y. cond (q y) 1 0) x xs

pub count-push : {X : Type 0} (q : X → Bool) (xs : List X) (x : X) → count_by q (xs ++ x ∷ []) ≡ count_by q xs + one_if (q x)
count-push q xs x = sum_by_push (λ y. cond (q y) 1 0) xs x

-- one more that doesn't pass
pub count-last : {X : Type 0} (q : X → Bool) (xs : List X) (x : X) → q x ≡ false → count_by q (xs ++ x ∷ []) ≡ count_by q xs
count-last q xs x f = count-push q xs x ∙ ap (λ b. count_by q xs + one_if b) f ∙ add-zero (count_by q xs)

pub one-more : (b : Bool) (n : ℕ) → cond b (n + 1) n ≡ n + one_if b
one-more true n = refl
one-more false n = omega arith

-- ---- any

pub any-append : {X : Type 0} (q : X → Bool) (xs ys : List X) → list_any q (xs ++ ys) ≡ (list_any q xs || list_any q ys)
any-append q [] ys = refl
any-append q (x ∷ xs) ys = at (q x) (any-append q xs ys)
  where
    at : (b : Bool) → list_any q (xs ++ ys) ≡ (list_any q xs || list_any q ys) → (b || list_any q (xs ++ ys)) ≡ ((b || list_any q xs) || list_any q ys)
    at true h = refl
    at false h = h

pub or-false : (b : Bool) → (b || false) ≡ b
or-false true = refl
or-false false = refl

pub some-more : (n : ℕ) (b : Bool) → nat_lt 0 (n + one_if b) ≡ (nat_lt 0 n || b)
some-more n true = grind (arith, nat_tests)
some-more n false = grind (arith, nat_tests)

-- ---- names

nat-turned : (a b : ℕ) → nat_eq a b ≡ nat_eq b a
nat-turned a b = grind (arith, nat_tests)

pub name-turned : (a b : List ℕ) → bytes_eq a b ≡ bytes_eq b a
name-turned [] [] = refl
name-turned [] (y ∷ ys) = refl
name-turned (x ∷ xs) [] = refl
name-turned (x ∷ xs) (y ∷ ys) = λ i. nat-turned x y i && name-turned xs ys i

-- one of these names, told from either side
pub one-of-turned : (names : List (List ℕ)) (name : List ℕ) → is_one_of names name ≡ list_any (bytes_eq name) names
one-of-turned [] name = refl
one-of-turned (n ∷ ns) name = λ i. name-turned n name i || one-of-turned ns name i

-- ---- those that don't pass a test

pub others-none : {X : Type 0} (p : X → Bool) (xs : List X) → find p xs ≡ None → filter (λ x. not (p x)) xs ≡ xs
others-none p [] e = refl
others-none p (x ∷ xs) e = at (p x) e (others-none p xs)
  where
    at : (b : Bool) → cond b (Some x) (find p xs) ≡ None → (find p xs ≡ None → filter (λ y. not (p y)) xs ≡ xs)
        → cond (not b) (x ∷ filter (λ y. not (p y)) xs) (filter (λ y. not (p y)) xs) ≡ x ∷ xs
    at true f later = absurd cc
    at false f later = ap (λ l. x ∷ l) (later f)

pub find-none : {X : Type 0} (p : X → Bool) (xs : List X) → count_by p xs ≡ 0 → find p xs ≡ None
find-none p [] h = refl
find-none p (x ∷ xs) h = at (p x) (sym (count-cons p x xs) ∙ h) (find-none p xs)
  where
    at : (b : Bool) → one_if b + count_by p xs ≡ 0 → (count_by p xs ≡ 0 → find p xs ≡ None) → cond b (Some x) (find p xs) ≡ None
    at true e later = absurd (omega arith)
    at false e later = later (omega arith)

-- where one alone passes, a count over the others lacks that one
pub count-alone : {X : Type 0} (q p : X → Bool) (xs : List X) (r : X) → find p xs ≡ Some r → count_by p xs ≤ 1 → count_by q (filter (λ x. not (p x)) xs) + one_if (q r) ≡ count_by q xs
count-alone q p [] r e h = absurd cc
count-alone q p (x ∷ xs) r e h = at (p x) refl e (count-alone q p xs r)
  where
    at : (b : Bool) → p x ≡ b → cond b (Some x) (find p xs) ≡ Some r → (find p xs ≡ Some r → count_by p xs ≤ 1 → count_by q (filter (λ y. not (p y)) xs) + one_if (q r) ≡ count_by q xs)
        → count_by q (cond (not b) (x ∷ filter (λ y. not (p y)) xs) (filter (λ y. not (p y)) xs)) + one_if (q r) ≡ count_by q (x ∷ xs)
    at true t found later =
        let here : x ≡ r = cc in
        let first : count_by p (x ∷ xs) ≡ 1 + count_by p xs = count-cons p x xs ∙ ap (λ b. one_if b + count_by p xs) t in
        let none : filter (λ y. not (p y)) xs ≡ xs = others-none p xs (find-none p xs (omega (arith, first, h))) in
        let same : one_if (q x) ≡ one_if (q r) = ap (λ y. one_if (q y)) here in
        let counted : count_by q (filter (λ y. not (p y)) xs) ≡ count_by q xs = ap (count_by q) none in
        omega (arith, count-cons q x xs, same, counted)
    at false t found later =
        let first : count_by p (x ∷ xs) ≡ 0 + count_by p xs = count-cons p x xs ∙ ap (λ b. one_if b + count_by p xs) t in
        let rest = later found (omega (arith, first, h)) in
        omega (arith, count-cons q x xs, count-cons q x (filter (λ y. not (p y)) xs), rest)

-- some passes where the count isn't 0
pub any-counted : {X : Type 0} (q : X → Bool) (xs : List X) → list_any q xs ≡ nat_lt 0 (count_by q xs)
any-counted q [] = refl
any-counted q (x ∷ xs) = at (q x) (any-counted q xs) ∙ ap (nat_lt 0) (sym (count-cons q x xs))
  where
    at : (b : Bool) → list_any q xs ≡ nat_lt 0 (count_by q xs) → (b || list_any q xs) ≡ nat_lt 0 (one_if b + count_by q xs)
    at true h = grind (arith, nat_tests)
    at false h = h ∙ ap (nat_lt 0) (sym (zero-add (count_by q xs)))

-- those that pass a test, and the others
pub count-parted : {X : Type 0} (q p : X → Bool) (xs : List X) → count_by q (filter p xs) + count_by q (filter (λ x. not (p x)) xs) ≡ count_by q xs
count-parted q p [] = refl
count-parted q p (x ∷ xs) = at (p x) (count-parted q p xs)
  where
    at : (b : Bool) → count_by q (filter p xs) + count_by q (filter (λ y. not (p y)) xs) ≡ count_by q xs
        → count_by q (cond b (x ∷ filter p xs) (filter p xs)) + count_by q (cond (not b) (x ∷ filter (λ y. not (p y)) xs) (filter (λ y. not (p y)) xs)) ≡ count_by q (x ∷ xs)
    at true h = omega (arith, h, count-cons q x xs, count-cons q x (filter p xs))
    at false h = omega (arith, h, count-cons q x xs, count-cons q x (filter (λ y. not (p y)) xs))
