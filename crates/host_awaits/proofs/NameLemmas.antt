-- What the table of names tells after a change at one of them.
use Rattle.std.proofs.Common.{◌≡◌, ℕ, List, Bool, true, false, ◌&&◌, cond, Option, Some, bytes_eq, refl, ap, ◌∙◌}
use Rattle.std.proofs.lemmas.Map.Text.{btree_map_updates_text}
use Rattle.std.specs.BTreeMap as tree
use Rattle.std.specs.BTreeMap.{BTreeMap}
use Rattle.std.specs.Cmp.Lexicographic.{bytes_decides, slice_cmp}
use Rattle.std.specs.Ordering.{nat_cmp}
use Rattle.std.specs.String.{string_bytes, string_cmp}
use Rattle.std.specs.Prelude.{Result, Ok, Err, OnErr, String}

-- what holds holds on a fault
pub for_err : {T E P : Type 0} (r : Result T E) → P → OnErr r P
for_err (Ok x) p = tt
for_err (Err e) p = p

same-both : {A : Type 0} (b : Bool) (x : A) → cond b x x ≡ x
same-both true x = refl
same-both false x = refl

-- one test inside another
pub cond-and : {A : Type 0} (a b : Bool) (x y : A) → cond a (cond b x y) y ≡ cond (a && b) x y
cond-and true b x y = refl
cond-and false b x y = refl

-- what each name has after w was put at one of them
pub put : {Y V : Type 0} (m n : BTreeMap (String Y) V) (bs name : List ℕ) → bs ≡ name → (w : V) → tree.UpdatesBy string_cmp (λ k. slice_cmp nat_cmp bs (string_bytes k)) m n (Some w)
    → (of : List ℕ) → tree.get_by_text n of ≡ cond (bytes_eq name of) (Some w) (tree.get_by_text m of)
put m n bs name is w updates of =
    btree_map_updates_text bs m n (Some w) updates of ∙ ap (λ (b : List ℕ). cond (bytes_eq b of) (Some w) (tree.get_by_text m of)) is

module _ {V : Type 0} (f g : List ℕ → Option V) (name : List ℕ) (v : V) (after : (of : List ℕ) → g of ≡ cond (bytes_eq name of) (Some v) (f of)) where
  module _ {A : Type 0} (read : Option V → A) where
    changed-at : (h : A → A) → read (Some v) ≡ h (read (f name)) → (of : List ℕ) (b : Bool) → bytes_eq name of ≡ b → g of ≡ cond b (Some v) (f of) → read (g of) ≡ cond b (h (read (f of))) (read (f of))
    changed-at h is of true t e = ap read e ∙ (is ∙ ap (λ (n : List ℕ). h (read (f n))) ((bytes_decides name of).0 t))
    changed-at h is of false t e = ap read e

    -- what is read of the name is a function of what it was
    pub changed : (h : A → A) → read (Some v) ≡ h (read (f name)) → (of : List ℕ) → read (g of) ≡ cond (bytes_eq name of) (h (read (f of))) (read (f of))
    changed h is of = changed-at h is of (bytes_eq name of) refl (after of)

    -- it is what it was
    pub unchanged : read (Some v) ≡ read (f name) → (of : List ℕ) → read (g of) ≡ read (f of)
    unchanged is of = changed (λ x. x) is of ∙ same-both (bytes_eq name of) (read (f of))
