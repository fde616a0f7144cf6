-- Awaits under their numbers: what a look-up, one more and one less come to.
use Rattle.std.proofs.Common.{◌≡◌, ◌<◌, ◌≤◌, ℕ, List, [], ◌∷◌, ◌++◌, Bool, true, false, nat_eq, nat_lt, Some, None, refl, sym, ap, ◌∙◌, arith, inl, inr, length, get_or, drop, take, suc}
use Rattle.std.proofs.Math.Path.{fun_ext}
use Rattle.std.proofs.lemmas.Bool.{cases_Bool, eqb-true, eqb-false, eq-eqb, ne_eqb, ltb-true, ltb-false, or_left, or_right}
use Rattle.std.proofs.lemmas.List.{take-append-drop}
use Rattle.std.proofs.lemmas.List.Folds.{list_any-append}
use Rattle.std.specs.BTreeMap.{is_at, insert_entry}
use Rattle.std.specs.Cmp.{nat_cmp_is}
use Rattle.std.specs.List.{AllByRecursion}
use Rattle.std.specs.List.Sorted.{IsNonDecreasing}
use Rattle.std.specs.Map.{lookup, remove_entry}
use Rattle.std.specs.Ordering.{nat_cmp, is_eq, match_ordering}
use Rattle.std.specs.declared.cmp.Ordering.TheVariants.{Less, Equal, Greater}
use Rattle.host_awaits.specs.Keeping.{AreRising, Entries}
use Rattle.host_awaits.specs.Names.{has_number}
use Rattle.host_awaits.specs.declared.entered.Await.{Await}

-- ---- all of a list

pub all-weaker : {X : Type 0} (P Q : X → Type 0) (xs : List X) → ((x : X) → P x → Q x) → AllByRecursion P xs → AllByRecursion Q xs
all-weaker P Q [] weaker h = tt
all-weaker P Q (x ∷ xs) weaker h = (weaker x h.0, all-weaker P Q xs weaker h.1)

pub all-both : {X : Type 0} (P Q R : X → Type 0) (xs : List X) → ((x : X) → P x → Q x → R x) → AllByRecursion P xs → AllByRecursion Q xs → AllByRecursion R xs
all-both P Q R [] both h k = tt
all-both P Q R (x ∷ xs) both h k = (both x h.0 k.0, all-both P Q R xs both h.1 k.1)

pub all-appended : {X : Type 0} (P : X → Type 0) (xs : List X) (x : X) → AllByRecursion P xs → P x → AllByRecursion P (xs ++ x ∷ [])
all-appended P [] x h here = (here, tt)
all-appended P (y ∷ ys) x h here = (h.0, all-appended P ys x h.1 here)

pub all-removed : {X : Type 0} (P : ℕ × X → Type 0) (test : ℕ → Bool) (es : List (ℕ × X)) → AllByRecursion P es → AllByRecursion P (remove_entry test es)
all-removed P test [] h = tt
all-removed P test (e ∷ es) h = elim (cases_Bool (test e.0)) [
  | inl t ↦ rw t h.1
  | inr f ↦ rw f (h.0, all-removed P test es h.1)
]

-- ---- numbers compared

is_at-is : (n k : ℕ) → is_at (nat_cmp n) k ≡ nat_eq n k
is_at-is n k = elim (cases_Bool (nat_eq n k)) [
  | inl e ↦ ap is_eq (sym (nat_cmp_is n k Equal (eqb-true n k e))) ∙ sym e
  | inr f ↦ elim (cases_Bool (nat_lt n k)) [
    | inl t ↦ ap is_eq (sym (nat_cmp_is n k Less (ltb-true n k t))) ∙ sym f
    | inr g ↦ (let ne = eqb-false n k f in let le = ltb-false n k g in let more : k < n = omega (arith, ne, le) in ap is_eq (sym (nat_cmp_is n k Greater more)) ∙ sym f)
  ]
]

pub tests-same : (n : ℕ) → is_at (nat_cmp n) ≡ nat_eq n
tests-same n = fun_ext (is_at-is n)

eq-turned : (n k : ℕ) → nat_eq n k ≡ false → nat_eq k n ≡ false
eq-turned n k f = ne_eqb k n (λ s. eqb-false n k f (sym s))

-- ---- lists of numbers

pub none-in : (k : ℕ) (ms : List ℕ) → AllByRecursion (λ (m : ℕ). m < k) ms → has_number ms k ≡ false
none-in k [] h = refl
none-in k (m ∷ ms) h = rw (ne_eqb k m (λ s. omega (arith, s, h.0))) (none-in k ms h.1)

pub none-from : (k n : ℕ) (ms : List ℕ) → k < n → AllByRecursion (λ (m : ℕ). n ≤ m) ms → has_number ms k ≡ false
none-from k n [] less h = refl
none-from k n (m ∷ ms) less h = rw (ne_eqb k m (λ s. omega (arith, s, less, h.0))) (none-from k n ms less h.1)

pub has-left : (ms more : List ℕ) (k : ℕ) → has_number ms k ≡ true → has_number (ms ++ more) k ≡ true
has-left ms more k h = list_any-append (nat_eq k) ms more ∙ or_left _ _ h

pub has-right : (ms more : List ℕ) (k : ℕ) → has_number more k ≡ true → has_number (ms ++ more) k ≡ true
has-right ms more k h = list_any-append (nat_eq k) ms more ∙ or_right (has_number ms k) _ h

pub has-one : (n k : ℕ) → n ≡ k → has_number (n ∷ []) k ≡ true
has-one n k s = or_left _ _ (eq-eqb k n (sym s))

pub has-dropped : (i : ℕ) (ms : List ℕ) (k : ℕ) → has_number (drop i ms) k ≡ true → has_number ms k ≡ true
has-dropped i ms k h = ap (λ l. has_number l k) (sym (take-append-drop i ms)) ∙ has-right (take i ms) (drop i ms) k h

pub not-first : (n : ℕ) (left : List ℕ) (k : ℕ) → nat_eq n k ≡ false → has_number left k ≡ false → has_number (n ∷ left) k ≡ false
not-first n left k f h = rw (eq-turned n k f) h

pub all-from : (n : ℕ) (ms : List ℕ) → ((j : ℕ) → j < length ms → n ≤ get_or ms j 0) → AllByRecursion (λ (m : ℕ). n ≤ m) ms
all-from n [] h = tt
all-from n (m ∷ ms) h = (h 0 (omega arith), all-from n ms (λ j l. h (suc j) (omega (arith, l))))

-- those behind the first of numbers in order are no less
pub first-least : (n : ℕ) (left : List ℕ) → IsNonDecreasing (n ∷ left) → AllByRecursion (λ (m : ℕ). n ≤ m) left
first-least n left h = all-from n left (λ j l. h 0 (suc j) 0 (omega arith) (omega (arith, l)))

-- ---- look-ups

pub none-behind : (n m : ℕ) (es : Entries) → n ≤ m → AllByRecursion (λ (e : ℕ × Await). m < e.0) es → lookup (nat_eq n) es ≡ None
none-behind n m [] h a = refl
none-behind n m (e ∷ es) h a = rw (ne_eqb n e.0 (λ s. omega (arith, s, h, a.0))) (none-behind n m es h a.1)

pub all-absent : (n : ℕ) (es : Entries) → lookup (nat_eq n) es ≡ None → AllByRecursion (λ (e : ℕ × Await). nat_eq n e.0 ≡ false) es
all-absent n [] h = tt
all-absent n (e ∷ es) h = elim (cases_Bool (nat_eq n e.0)) [
  | inl t ↦ absurd (let c : Some e.1 ≡ None = rw t at h in cc)
  | inr f ↦ (f, all-absent n es (rw f at h))
]

-- the one of a number is the one that is found
pub unique : (n : ℕ) (a : Await) (es : Entries) → AreRising es → lookup (nat_eq n) es ≡ Some a → AllByRecursion (λ (e : ℕ × Await). nat_eq n e.0 ≡ true → e.1 ≡ a) es
unique n a [] r h = tt
unique n a (e ∷ es) r h = elim (cases_Bool (nat_eq n e.0)) [
  | inl t ↦
      (let same : e.1 ≡ a = (let found = rw t at h in cc) in
      let own = eqb-true n e.0 t in
      ((λ _. same), all-weaker (λ (f : ℕ × Await). e.0 < f.0) (λ (f : ℕ × Await). nat_eq n f.0 ≡ true → f.1 ≡ a) es (λ f more u. absurd (let other = eqb-true n f.0 u in omega (arith, own, other, more))) r.0))
  | inr f ↦ ((λ t. absurd (let clash : true ≡ false = sym t ∙ f in cc)), unique n a es r.1 (rw f at h))
]

pub found-below : (n next : ℕ) (a : Await) (es : Entries) → AllByRecursion (λ (e : ℕ × Await). e.0 < next) es → lookup (nat_eq n) es ≡ Some a → n < next
found-below n next a [] h found = absurd (let c : None ≡ Some a = found in cc)
found-below n next a (e ∷ es) h found = elim (cases_Bool (nat_eq n e.0)) [
  | inl t ↦ (let own = eqb-true n e.0 t in omega (arith, own, h.0))
  | inr f ↦ found-below n next a es h.1 (rw f at found)
]

-- ---- one less

pub rising-removed : (test : ℕ → Bool) (es : Entries) → AreRising es → AreRising (remove_entry test es)
rising-removed test [] r = tt
rising-removed test (e ∷ es) r = elim (cases_Bool (test e.0)) [
  | inl t ↦ rw t r.1
  | inr f ↦ rw f (all-removed (λ (g : ℕ × Await). e.0 < g.0) test es r.0, rising-removed test es r.1)
]

pub removed-apart : (n : ℕ) (es : Entries) → AreRising es → AllByRecursion (λ (e : ℕ × Await). nat_eq n e.0 ≡ false) (remove_entry (nat_eq n) es)
removed-apart n [] r = tt
removed-apart n (e ∷ es) r = elim (cases_Bool (nat_eq n e.0)) [
  | inl t ↦
      (let own = eqb-true n e.0 t in
      rw t (all-weaker (λ (f : ℕ × Await). e.0 < f.0) (λ (f : ℕ × Await). nat_eq n f.0 ≡ false) es (λ f more. ne_eqb n f.0 (λ s. omega (arith, own, s, more))) r.0))
  | inr f ↦ rw f (f, removed-apart n es r.1)
]

-- ---- one more

pub inserted-last : (n : ℕ) (a : Await) (es : Entries) → AllByRecursion (λ (e : ℕ × Await). e.0 < n) es → insert_entry nat_cmp es n a ≡ es ++ (n, a) ∷ []
inserted-last n a [] h = refl
inserted-last n a (e ∷ es) h =
    ap (λ o. match_ordering o ((n, a) ∷ e ∷ es) ((e.0, a) ∷ es) (e ∷ insert_entry nat_cmp es n a)) (sym (nat_cmp_is n e.0 Greater h.0)) ∙ ap (λ l. e ∷ l) (inserted-last n a es h.1)

pub rising-appended : (n : ℕ) (a : Await) (es : Entries) → AllByRecursion (λ (e : ℕ × Await). e.0 < n) es → AreRising es → AreRising (es ++ (n, a) ∷ [])
rising-appended n a [] h r = (tt, tt)
rising-appended n a (e ∷ es) h r = (all-appended (λ (f : ℕ × Await). e.0 < f.0) es (n, a) r.0 h.0, rising-appended n a es h.1 r.1)
