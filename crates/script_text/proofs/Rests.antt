-- What stands behind the first word of a call, by the arms of a match on it; and how long a name may be.
use Rattle.std.proofs.Common.{◌≡◌, ℕ, List, ◌∷◌, ◌++◌, ◌⊎◌, inl, inr, ap, ◌≤◌, length, true, arith}
use Rattle.std.proofs.lemmas.Bool.Decides.{nat_tests}
use Rattle.ms_base.specs.Name.{is_name}
use Rattle.ms_base.specs.declared.op.Op.{Op}
use Rattle.ms_base.specs.declared.op.Op.TheVariants as op
use Rattle.script_text.specs.Calls.{line_of, line_rest}

pub rest_of : (o p : Op) → o ≡ p → line_rest (line_of o) ≡ line_rest (line_of p)
rest_of o p e = ap (λ (x : Op). line_rest (line_of x)) e

pub rest_of_making : (o : Op) (n u j : List ℕ)
    → (o ≡ op.Router n u j) ⊎ ((o ≡ op.Plain n u j) ⊎ ((o ≡ op.Pipe n u j) ⊎ (o ≡ op.Produce n u j)))
    → line_rest (line_of o) ≡ n ++ 32 ∷ (u ++ 32 ∷ j)
rest_of_making o n u j (inl e) = rest_of o _ e
rest_of_making o n u j (inr (inl e)) = rest_of o _ e
rest_of_making o n u j (inr (inr (inl e))) = rest_of o _ e
rest_of_making o n u j (inr (inr (inr e))) = rest_of o _ e

pub rest_of_telling : (o : Op) (n j : List ℕ) → (o ≡ op.Connect n j) ⊎ (o ≡ op.CanConsume n j) → line_rest (line_of o) ≡ n ++ 32 ∷ j
rest_of_telling o n j (inl e) = rest_of o _ e
rest_of_telling o n j (inr e) = rest_of o _ e

pub rest_of_turning : (o : Op) (n : List ℕ) → (o ≡ op.Pause n) ⊎ ((o ≡ op.Resume n) ⊎ (o ≡ op.Close n)) → line_rest (line_of o) ≡ n
rest_of_turning o n (inl e) = rest_of o _ e
rest_of_turning o n (inr (inl e)) = rest_of o _ e
rest_of_turning o n (inr (inr e)) = rest_of o _ e

pub name_is_short : (name : List ℕ) → is_name name ≡ true → length name ≤ 64
unfolding is_name
name_is_short name h = grind (arith, nat_tests)
