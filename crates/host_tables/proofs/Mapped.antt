-- A loop that replaces each item of a list in its place.
use Rattle.std.proofs.Common.{◌≡◌, ℕ, ◌+◌, ◌<◌, List, [], ◌∷◌, ◌++◌, length, map, take, drop, slice_set, slice_index_or, zero, suc, refl, sym, ap, ◌∙◌, arith, add-one}

step-in : {A : Type 0} (f : A → A) (xs : List A) (i : ℕ) (x z : A) → i < length xs → x ≡ slice_index_or xs i x → z ≡ f x → slice_set (map f (take i xs) ++ drop i xs) i z ≡ map f (take (suc i) xs) ++ drop (suc i) xs
step-in f [] i x z h e g = absurd (omega arith)
step-in f (y ∷ xs) zero x z h e g = ap (λ w. w ∷ xs) (g ∙ ap f e)
step-in f (y ∷ xs) (suc i) x z h e g = ap (λ ws. f y ∷ ws) (step-in f xs i x z (omega arith) e g)

item-in : {A : Type 0} (f : A → A) (xs : List A) (i : ℕ) (x : A) → slice_index_or (map f (take i xs) ++ drop i xs) i x ≡ slice_index_or xs i x
item-in f [] zero x = refl
item-in f [] (suc i) x = refl
item-in f (y ∷ xs) zero x = refl
item-in f (y ∷ xs) (suc i) x = item-in f xs i x

-- what is done up to i is done up to the next, once f's value stands at i
pub mapped-next : {A : Type 0} (f : A → A) (xs ys : List A) (i : ℕ) (x z : A) → i < length xs → ys ≡ map f (take i xs) ++ drop i xs → x ≡ slice_index_or ys i x → z ≡ f x → slice_set ys i z ≡ map f (take (i + 1) xs) ++ drop (i + 1) xs
mapped-next f xs ys i x z inside e here g =
    let there : x ≡ slice_index_or xs i x = here ∙ (ap (λ us. slice_index_or us i x) e ∙ item-in f xs i x) in
    ap (λ us. slice_set us i z) e ∙ (step-in f xs i x z inside there g ∙ ap (λ n. map f (take n xs) ++ drop n xs) (sym (add-one i)))
