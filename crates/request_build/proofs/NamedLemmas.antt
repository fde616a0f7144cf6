-- The object of a name is that of its serial, in a list in order.
use Rattle.std.proofs.Common.{◌≡◌, ◌<◌, ◌⊎◌, ℕ, List, [], ◌∷◌, Bool, true, false, cond, Option, Some, None, sym, ap, ◌∙◌, arith, inl, inr, subst, reverse}
use mathlib.Core.List.{reverse-cons}
use Rattle.std.proofs.lemmas.Bool.{eq-eqb, ne_eqb}
use Rattle.std.proofs.lemmas.List.Folds.{find-append}
use Rattle.std.specs.List.{AllByRecursion, find}
use Rattle.std.specs.Option.{option_or}
use Rattle.object_tree.specs.declared.object.Object.{Object}
use Rattle.object_tree.specs.Objects.{AreInOrder, has_name, has_serial, named, numbered}

named-cons : (x : Object) (xs : List Object) (name : List ℕ) → named (x ∷ xs) name ≡ option_or (named xs name) (cond (has_name name x) (Some x) None)
named-cons x xs name = ap (find (has_name name)) (reverse-cons x xs) ∙ find-append (has_name name) (reverse xs) (x ∷ [])

later-or-here : (n : Option Object) (b : Bool) (o x : Object) → option_or n (cond b (Some o) None) ≡ Some x → (n ≡ Some x) ⊎ (o ≡ x)
later-or-here None true o x e = inr cc
later-or-here None false o x e = absurd cc
later-or-here (Some y) b o x e = inl e

named-of : (o x : Object) (xs : List Object) (name : List ℕ) → named (o ∷ xs) name ≡ Some x → (named xs name ≡ Some x) ⊎ (o ≡ x)
named-of o x xs name e = later-or-here (named xs name) (has_name name o) o x (sym (named-cons o xs name) ∙ e)

behind : (n : ℕ) (xs : List Object) (name : List ℕ) (x : Object) → AllByRecursion (λ (y : Object). n < y.serial.0) xs → named xs name ≡ Some x → n < x.serial.0
behind n [] name x h e = absurd (let c : None ≡ Some x = e in cc)
behind n (o ∷ xs) name x h e = elim (named-of o x xs name e) [
  | inl later ↦ behind n xs name x h.1 later
  | inr here ↦ subst (λ (z : Object). n < z.serial.0) here h.0
]

pub named-numbered : (xs : List Object) (name : List ℕ) (x : Object) → AreInOrder xs → named xs name ≡ Some x → numbered xs x.serial ≡ Some x
named-numbered [] name x h e = absurd (let c : None ≡ Some x = e in cc)
named-numbered (o ∷ xs) name x h e = elim (named-of o x xs name e) [
  | inl later ↦
      (let more = behind o.serial.0 xs name x h.0 later in
      let apart : has_serial x.serial o ≡ false = ne_eqb o.serial.0 x.serial.0 (λ s. omega (arith, s, more)) in
      rw apart (named-numbered xs name x h.1 later))
  | inr here ↦
      (let same : has_serial x.serial o ≡ true = eq-eqb o.serial.0 x.serial.0 (ap (λ (z : Object). z.serial.0) here) in
      rw same (ap (λ (z : Object). Some z) here))
]
