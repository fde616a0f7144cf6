-- What is added up over all views.
use Rattle.std.proofs.Common.{◌≡◌, ℕ, zero, suc, ◌+◌, ◌<◌, ◌≤◌, List, [], ◌∷◌, ◌++◌, length, set, sym, refl, ap, arith}
use mathlib.Core.Option.{some, some-injective, some-ne-none}
use lib.ListN.{get_elem?}
use Rattle.turn_lock.specs.declared.rule.View.{View}
use Rattle.turn_lock.specs.Turns.{total}

module _ {E : Type 0} where
  -- a change of one view
  pub total_set : (f : View E → ℕ) (vs : List (View E)) (i : ℕ) (v w : View E) → get_elem? vs i ≡ some v → total f (set vs i w) + f v ≡ total f vs + f w
  total_set f [] i v w e = absurd (some-ne-none v (sym e))
  total_set f (x ∷ vs) zero v w e = let is : f x ≡ f v = ap f (some-injective x v e) in omega arith
  total_set f (x ∷ vs) (suc i) v w e = let r = total_set f vs i v w e in omega arith

  pub total_snoc : (f : View E → ℕ) (vs : List (View E)) (w : View E) → total f (vs ++ w ∷ []) ≡ total f vs + f w
  total_snoc f [] w = omega arith
  total_snoc f (x ∷ vs) w = let r = total_snoc f vs w in omega arith

  -- no view has more than all together
  pub total_at : (f : View E → ℕ) (vs : List (View E)) (i : ℕ) (v : View E) → get_elem? vs i ≡ some v → f v ≤ total f vs
  total_at f [] i v e = absurd (some-ne-none v (sym e))
  total_at f (x ∷ vs) zero v e = let is : f x ≡ f v = ap f (some-injective x v e) in omega arith
  total_at f (x ∷ vs) (suc i) v e = let r = total_at f vs i v e in omega arith

  pub total_le : (f g : View E → ℕ) (vs : List (View E)) → ((i : ℕ) (v : View E) → get_elem? vs i ≡ some v → f v ≤ g v) → total f vs ≤ total g vs
  total_le f g [] each = omega arith
  total_le f g (x ∷ vs) each = let here = each 0 x refl in let r = total_le f g vs (λ i v e. each (suc i) v e) in omega arith

  pub in_list : (vs : List (View E)) (i : ℕ) (v : View E) → get_elem? vs i ≡ some v → i < length vs
  in_list [] i v e = absurd (some-ne-none v (sym e))
  in_list (x ∷ vs) zero v e = omega arith
  in_list (x ∷ vs) (suc i) v e = let r = in_list vs i v e in omega arith

  pub total_none : (f : View E → ℕ) (vs : List (View E)) → ((i : ℕ) (v : View E) → get_elem? vs i ≡ some v → f v ≡ 0) → total f vs ≡ 0
  total_none f [] each = refl
  total_none f (x ∷ vs) each = let here = each 0 x refl in let r = total_none f vs (λ i v e. each (suc i) v e) in omega arith
