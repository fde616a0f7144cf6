-- The calls that are to fail, one call later.
use Rattle.std.proofs.Common.{◌≡◌, ℕ, suc, ◌+◌, ◌-◌, ◌^◌, ◌<◌, ◌≤◌, min, true, false, if◌then◌else◌, List, [], ◌∷◌, length, get_or, refl, sym, ap, ◌∙◌, inl, inr, arith, add-one}
use Rattle.std.proofs.lemmas.Bool.{cases_lt}
use Rattle.std.proofs.lemmas.Bool.Decides.{nat_tests}
use Rattle.ms_devices.specs.Causes.{Rose}
use Rattle.ms_devices.specs.Memory.{is_to_fail, failed_calls}

pub far_is_not_to_fail : (fails : List ℕ) → ((k : ℕ) → k < length fails → get_or fails k 0 < 2 ^ 32) → (n : ℕ) → 2 ^ 32 ≤ n → is_to_fail fails n ≡ false
far_is_not_to_fail [] small n far = refl
far_is_not_to_fail (f ∷ fails) small n far =
    let head : f < 2 ^ 32 = small 0 (omega arith) in
    let rest = far_is_not_to_fail fails (λ k within. small (suc k) (omega arith)) n far in
    grind (arith, nat_tests, rest)

one_call_later : (fails : List ℕ) (made : ℕ) → failed_calls fails (made + 1) ≡ failed_calls fails made + (if is_to_fail fails (made + 1) then 1 else 0)
unfolding failed_calls
one_call_later fails made = rw add-one refl

-- the number that the code looks for, at the end of its type too
pub same_answer : (fails : List ℕ) (made : ℕ) → ((n : ℕ) → 2 ^ 32 ≤ n → is_to_fail fails n ≡ false) → is_to_fail fails (min (made + 1) (2 ^ 64 - 1)) ≡ is_to_fail fails (made + 1)
same_answer fails made far =
    elim (cases_lt made (2 ^ 64 - 1)) [
      | inl under ↦ ap (is_to_fail fails) (omega arith)
      | inr over ↦ far _ (omega arith) ∙ sym (far _ (omega arith))
    ]

pub count_never_falls : (fails : List ℕ) (made : ℕ) → made < 2 ^ 64 → failed_calls fails made ≤ failed_calls fails (min (made + 1) (2 ^ 64 - 1))
count_never_falls fails made fits =
    elim (cases_lt made (2 ^ 64 - 1)) [
      | inl under ↦
          let later : min (made + 1) (2 ^ 64 - 1) ≡ made + 1 = omega arith in
          rw (later, one_call_later fails made) (omega arith)
      | inr over ↦
          let still : min (made + 1) (2 ^ 64 - 1) ≡ made = omega arith in
          rw still (omega arith)
    ]

pub count_rose : (fails : List ℕ) (made : ℕ) → ((n : ℕ) → 2 ^ 32 ≤ n → is_to_fail fails n ≡ false) → is_to_fail fails (made + 1) ≡ true
    → Rose (failed_calls fails made) (failed_calls fails (min (made + 1) (2 ^ 64 - 1)))
count_rose fails made far fails_now =
    elim (cases_lt made (2 ^ 64 - 1)) [
      | inl under ↦
          let later : min (made + 1) (2 ^ 64 - 1) ≡ made + 1 = omega arith in
          rw (later, one_call_later fails made, fails_now) (omega arith)
      | inr over ↦ let not_now = far (made + 1) (omega arith) in grind (arith, fails_now, not_now)
    ]

pub count_stands : (fails : List ℕ) (made : ℕ) → made < 2 ^ 64 → is_to_fail fails (made + 1) ≡ false
    → failed_calls fails (min (made + 1) (2 ^ 64 - 1)) ≡ failed_calls fails made
count_stands fails made fits none =
    elim (cases_lt made (2 ^ 64 - 1)) [
      | inl under ↦
          let later : min (made + 1) (2 ^ 64 - 1) ≡ made + 1 = omega arith in
          rw (later, one_call_later fails made, none) (omega arith)
      | inr over ↦ ap (failed_calls fails) (omega arith)
    ]
