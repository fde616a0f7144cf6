-- How often a Producer's id is kept, after a table of offers has changed.
use Rattle.std.proofs.Common.{◌≡◌, ℕ, ◌+◌, ◌-◌, List, [], ◌∷◌, Bool, true, false, cond, ◌||◌, Option, refl, ap, ◌∙◌, arith}
use Rattle.std.proofs.lemmas.List.Sums.{sum_by-cons}
use Rattle.std.proofs.lemmas.Map.Entries.{sum_by-insert_entry, sum_by-remove_entry}
use Rattle.std.specs.BTreeMap.{insert_entry, is_at}
use Rattle.std.specs.Cmp.{nat_cmp_total}
use Rattle.std.specs.List.{count_by, list_any}
use Rattle.std.specs.List.Sorted.{IsStrictlySortedBy}
use Rattle.std.specs.Map.{keys_of, lookup, remove_entry, values_of}
use Rattle.std.specs.Option.{option_map, unwrap_or}
use Rattle.std.specs.Ordering.{nat_cmp}
use Rattle.std.specs.Prelude.{nat_lt}
use Rattle.request_build.specs.Counts.{one_if}

module _ {X : Type 0} (p : X → Bool) where
  counted-at : (b : Bool) (n : ℕ) (rest : Bool) → nat_lt 0 n ≡ rest → nat_lt 0 (cond b 1 0 + n) ≡ (b || rest)
  counted-at true n rest e = grind arith
  counted-at false n rest e = grind arith

  -- one is counted where there is one
  pub any-counted : (es : List (ℕ × X)) → nat_lt 0 (count_by p (values_of es)) ≡ list_any (λ e. p e.1) es
  any-counted [] = refl
  any-counted (e ∷ es) =
      ap (nat_lt 0) (sum_by-cons (λ x. cond (p x) 1 0) e.1 (values_of es)) ∙ counted-at (p e.1) (count_by p (values_of es)) (list_any (λ e. p e.1) es) (any-counted es)

  -- how often the one that was found counts
  abbrev pub found_counts : Option X → ℕ
  found_counts found = unwrap_or (option_map (λ x. one_if (p x)) found) 0

  pub counted-inserted : (es : List (ℕ × X)) (n : ℕ) (x : X) (found : Option X) → IsStrictlySortedBy nat_cmp (keys_of es) → found ≡ lookup (is_at (nat_cmp n)) es
      → count_by p (values_of (insert_entry nat_cmp es n x)) + found_counts found ≡ count_by p (values_of es) + one_if (p x)
  counted-inserted es n x found sorted is =
      ap (λ o. count_by p (values_of (insert_entry nat_cmp es n x)) + found_counts o) is ∙ sum_by-insert_entry (λ y. one_if (p y)) nat_cmp_total es n x sorted

  pub counted-removed : (es : List (ℕ × X)) (test : ℕ → Bool) (found : Option X) → found ≡ lookup test es
      → count_by p (values_of (remove_entry test es)) + found_counts found ≡ count_by p (values_of es)
  counted-removed es test found is =
      ap (λ o. count_by p (values_of (remove_entry test es)) + found_counts o) is ∙ sum_by-remove_entry (λ y. one_if (p y)) test es

-- an offer came, and the one that it took the place of went
pub put-in-place : (t t1 t2 one other n m : ℕ) → t1 ≡ t + one → t2 ≡ t1 - other → t ≡ n → m + other ≡ n + one → t2 ≡ m
put-in-place t t1 t2 one other n m a b c d = omega arith

pub put-anew : (t t1 one n m : ℕ) → t1 ≡ t + one → t ≡ n → m + 0 ≡ n + one → t1 ≡ m
put-anew t t1 one n m a b c = omega arith

pub taken-out : (t t1 one n m : ℕ) → t1 ≡ t - one → t ≡ n → m + one ≡ n → t1 ≡ m
taken-out t t1 one n m a b c = omega arith

pub taken-back : (t t1 t2 one : ℕ) → t1 ≡ t + one → t2 ≡ t1 - one → t2 ≡ t
taken-back t t1 t2 one a b = omega arith
