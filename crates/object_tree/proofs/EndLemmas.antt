-- Pairs in order of their first parts: what a look-up, one more and one less come to.
use Rattle.std.proofs.Common.{◌≡◌, ◌≤◌, ◌<◌, ℕ, ◌+◌, ◌-◌, List, [], ◌∷◌, Bool, true, false, nat_eq, length, get_or, take, drop, refl, sym, ap, ◌∙◌, arith, inl, inr, None, Some}
use Rattle.std.proofs.lemmas.Bool.{eqb-true, eq-eqb, leb-true, leb-false, ltb-true, lt-ltb, and_parts, and_from, or_left, or_right, cases_lt, cases_Bool}
use Rattle.std.proofs.lemmas.List.{get_or-take, get_or-drop, length-take, length-drop}
use Rattle.std.proofs.lemmas.List.Edits.{get_or-remove_below, get_or-remove_above}
use Rattle.std.proofs.lemmas.List.Folds.{Any-from_list_any, list_any_at}
use Rattle.std.proofs.lemmas.List.Sorted.{IsNonDecreasingBy-insert, IsPermutation-insert, IsPermutation-remove, list_any-IsPermutation}
use Rattle.std.proofs.lemmas.List.Quantifiers.{position-Some}
use Rattle.std.specs.List.{list_any, insert, remove, position, position_or_len}
use Rattle.object_tree.specs.Tables.{AreOrdered, IsEndPlace, IsStartPlace, is_end, has_end, is_listed_end}

abbrev Pairs : Type 0
Pairs = List (ℕ × ℕ)

-- ---- one more

pub ordered-inserted : (pairs : Pairs) (place at serial : ℕ) → AreOrdered pairs → place ≤ length pairs → IsEndPlace at pairs place → AreOrdered (insert pairs place (at, serial))
ordered-inserted pairs place at serial h within point =
    IsNonDecreasingBy-insert (λ (p : ℕ × ℕ). p.0) pairs place (at, serial) h within
    (λ k d low. leb-true _ _ (point.0 k d (omega arith) low))
    (λ k d from low. let above = leb-false _ _ (point.1 k d from low) in omega (arith, above))

inserted-any : (pairs : Pairs) (place : ℕ) (e : ℕ × ℕ) (test : ℕ × ℕ → Bool) → list_any test (insert pairs place e) ≡ list_any test (e ∷ pairs)
inserted-any pairs place e test = sym (list_any-IsPermutation test (e ∷ pairs) (insert pairs place e) (IsPermutation-insert pairs place e))

pub end-inserted : (pairs : Pairs) (place at serial : ℕ) → has_end (insert pairs place (at, serial)) at serial ≡ true
end-inserted pairs place at serial =
    inserted-any pairs place (at, serial) (is_end at serial) ∙ or_left _ _ (and_from _ _ (eq-eqb at at refl) (eq-eqb serial serial refl))

pub end-stays-inserted : (pairs : Pairs) (place : ℕ) (e : ℕ × ℕ) (a s : ℕ) → has_end pairs a s ≡ true → has_end (insert pairs place e) a s ≡ true
end-stays-inserted pairs place e a s h = inserted-any pairs place e (is_end a s) ∙ or_right _ _ h

-- ---- one less

pub ordered-removed : (pairs : Pairs) (place : ℕ) → place < length pairs → length (remove pairs place) + 1 ≡ length pairs → AreOrdered pairs → AreOrdered (remove pairs place)
ordered-removed pairs place within less h = λ i j d low high. elim (cases_lt i place) [
  | inl below ↦ elim (cases_lt j place) [
    | inl under ↦ rw (get_or-remove_below pairs place d i below within, get_or-remove_below pairs place d j under within) (h i j d low (omega arith))
    | inr over ↦ rw (get_or-remove_below pairs place d i below within, get_or-remove_above pairs place d j over within) (h i (j + 1) d (omega arith) (omega arith))
  ]
  | inr above ↦ rw (get_or-remove_above pairs place d i above within, get_or-remove_above pairs place d j (omega arith) within) (h (i + 1) (j + 1) d (omega arith) (omega arith))
]

pub end-stays-removed : (pairs : Pairs) (place : ℕ) (e : ℕ × ℕ) (a s : ℕ) → place < length pairs → e ≡ get_or pairs place e → (nat_eq e.1 s ≡ false) → has_end pairs a s ≡ true
    → has_end (remove pairs place) a s ≡ true
end-stays-removed pairs place e a s within is other h =
    let both = sym (list_any-IsPermutation (is_end a s) pairs (e ∷ remove pairs place) (IsPermutation-remove pairs place e within is)) ∙ h in
    elim (cases_Bool (nat_eq e.0 a)) [
      | inl t ↦ rw (t, other) at both
      | inr f ↦ rw f at both
    ]

-- ---- all at one serial

found-place : (at serial : ℕ) (p : ℕ × ℕ) → is_end at serial p ≡ true → (p.0 ≡ at) × (p.1 ≡ serial)
found-place at serial p h = let parts = and_parts (nat_eq p.0 at) (nat_eq p.1 serial) h in (eqb-true _ _ parts.0, eqb-true _ _ parts.1)

not-below : (pairs : Pairs) (start at k : ℕ) (x : ℕ × ℕ) → IsStartPlace at pairs start → get_or pairs k x ≡ x → x.0 ≡ at → start ≤ k
not-below pairs start at k x point is here = elim (cases_lt k start) [
  | inl below ↦
      let less = ltb-true _ _ (point.0 k x (omega arith) below) in
      absurd (omega (arith, less, ap (λ (p : ℕ × ℕ). p.0) is, here))
  | inr from ↦ from
]

not-above : (pairs : Pairs) (end at k : ℕ) (x : ℕ × ℕ) → IsEndPlace at pairs end → k < length pairs → get_or pairs k x ≡ x → x.0 ≡ at → k < end
not-above pairs end at k x point within is here = elim (cases_lt k end) [
  | inl below ↦ below
  | inr from ↦
      let more = leb-false _ _ (point.1 k x from within) in
      absurd (omega (arith, more, ap (λ (p : ℕ × ℕ). p.0) is, here))
]

pub between : (pairs : Pairs) (start end at serial : ℕ) → IsStartPlace at pairs start → IsEndPlace at pairs end → end ≤ length pairs → has_end pairs at serial ≡ true
    → (start < end) × (is_listed_end (take (end - start) (drop start pairs)) serial ≡ true)
between pairs start end at serial low high bound h =
    let (k, x, within, is, test) = Any-from_list_any (is_end at serial) pairs h in
    let found = found-place at serial x test in
    let from : start ≤ k = not-below pairs start at k x low is found.0 in
    let below : k < end = not-above pairs end at k x high within is found.0 in
    let there : get_or (take (end - start) (drop start pairs)) (k - start) x ≡ x =
    get_or-take (end - start) (drop start pairs) (k - start) x (omega arith) ∙ (get_or-drop start pairs (k - start) x ∙ (ap (λ (n : ℕ). get_or pairs n x) (omega arith) ∙ is))
    in (
      omega arith,
      list_any_at (λ (p : ℕ × ℕ). nat_eq p.1 serial) (take (end - start) (drop start pairs)) (k - start) x
          (rw length-take (rw length-drop (omega arith)))
          (ap (λ (p : ℕ × ℕ). nat_eq p.1 serial) there ∙ eq-eqb x.1 serial found.1),
    )

-- ---- the place of one pair

place-below : {X : Type 0} (p : X → Bool) (xs : List X) → list_any p xs ≡ true → position_or_len p xs < length xs
place-below p [] h = absurd (let e : false ≡ true = h in cc)
place-below p (x ∷ xs) h = elim (cases_Bool (p x)) [
  | inl t ↦ rw t (omega arith)
  | inr f ↦ (let more = place-below p xs (rw f at h) in rw f (omega (arith, more)))
]

behind-start : (pairs : Pairs) (start at serial : ℕ) → IsStartPlace at pairs start → has_end pairs at serial ≡ true → list_any (is_end at serial) (drop start pairs) ≡ true
behind-start pairs start at serial low h =
    let (k, x, within, is, test) = Any-from_list_any (is_end at serial) pairs h in
    let from : start ≤ k = not-below pairs start at k x low is (found-place at serial x test).0 in
    let there : get_or (drop start pairs) (k - start) x ≡ x = get_or-drop start pairs (k - start) x ∙ (ap (λ (n : ℕ). get_or pairs n x) (omega arith) ∙ is) in
    list_any_at (is_end at serial) (drop start pairs) (k - start) x (rw length-drop (omega arith)) (ap (is_end at serial) there ∙ test)

pub is-found : (pairs : Pairs) (start at serial : ℕ) → IsStartPlace at pairs start → has_end pairs at serial ≡ true → None ≡ position (is_end at serial) (drop start pairs) → ⊥
is-found pairs start at serial low h none =
    let below = place-below (is_end at serial) (drop start pairs) (behind-start pairs start at serial low h) in
    let test = lt-ltb (position_or_len (is_end at serial) (drop start pairs)) (length (drop start pairs)) below in
    let clash = rw test at none in
    cc

found-pair : (at serial : ℕ) (p : ℕ × ℕ) → is_end at serial p ≡ true → p ≡ (at, serial)
found-pair at serial p h = let (a, s) = found-place at serial p h in λ i. (a i, s i)

pub is-there : (pairs : Pairs) (start at serial behind : ℕ) → start ≤ length pairs → position (is_end at serial) (drop start pairs) ≡ Some behind
    → (start + behind < length pairs) × (get_or pairs (start + behind) (at, serial) ≡ (at, serial))
is-there pairs start at serial behind within found =
    let (below, test, before) = position-Some (is_end at serial) (drop start pairs) behind (at, serial) found in
    let short : behind < length pairs - start = rw length-drop at below in
    (omega (arith, short, within), sym (get_or-drop start pairs behind (at, serial)) ∙ found-pair at serial _ test)
