-- What is left of a list of requests once some have settled.
use Rattle.std.proofs.Common.{◌≡◌, List, [], ◌∷◌, Bool, true, false, not, Some, None, refl, sym, ap, ◌∙◌, inl, inr}
use Rattle.std.proofs.lemmas.Bool.{cases_Bool}
use Rattle.std.specs.List.{filter, find}

module _ {X : Type 0} (p q : X → Bool) where
  -- what was taken out is not found
  pub find-filter_not : (xs : List X) → find p (filter (λ x. not (p x)) xs) ≡ None
  find-filter_not [] = refl
  find-filter_not (x ∷ xs) = elim (cases_Bool (p x)) [
    | inl t ↦ rw t (find-filter_not xs)
    | inr f ↦ rw f (rw f (find-filter_not xs))
  ]

  -- what stays is found as before
  pub find-filter_other : ((x : X) → q x ≡ true → p x ≡ false) → (xs : List X) → find q (filter (λ x. not (p x)) xs) ≡ find q xs
  find-filter_other apart [] = refl
  find-filter_other apart (x ∷ xs) = elim (cases_Bool (q x)) [
    | inl t ↦ rw (apart x t) (rw t refl)
    | inr f ↦ elim (cases_Bool (p x)) [
      | inl t ↦ rw (t, f) (find-filter_other apart xs)
      | inr g ↦ rw g (rw f (find-filter_other apart xs))
    ]
  ]

  -- what is found of a filter passes it
  pub passes-find : (xs : List X) (x : X) → find q (filter (λ y. not (p y)) xs) ≡ Some x → p x ≡ false
  passes-find [] x e = absurd cc
  passes-find (y ∷ ys) x e = elim (cases_Bool (p y)) [
    | inl t ↦ passes-find ys x (rw t at e)
    | inr f ↦ (let h = rw f at e in elim (cases_Bool (q y)) [
      | inl t ↦ (let same : y ≡ x = (let found = rw t at h in cc) in ap p (sym same) ∙ f)
      | inr g ↦ passes-find ys x (rw g at h)
    ])
  ]
