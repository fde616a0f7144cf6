-- Two texts of digits have one number where they agree behind their leading zeros.
use Rattle.std.proofs.Common.{◌≡◌, ◌≢◌, ℕ, ◌+◌, ◌*◌, ◌^◌, ◌<◌, ◌≤◌, Bool, true, false, ◌&&◌, not, eqb, List, [], ◌∷◌, length, refl, ap, sym, ◌∙◌, arith, inl, inr}
use Rattle.std.specs.Bool.{⊤}
use Rattle.std.specs.Char.{digit_value, is_ascii_digit}
use Rattle.std.specs.List.{list_all}
use Rattle.std.specs.Str.{bytes_eq}
use Rattle.std.specs.Str.Parse.{AllDigits, digits_value, digits_value_after}
use Rattle.std.proofs.Math.Nat.{pow-suc, pow-le-pow_right, mul-le-mul_right}
use Rattle.std.proofs.lemmas.Bool.{cases_lt}
use Rattle.std.proofs.lemmas.Bool.Decides.{Decides-eqb, same_from_decides, eqb_tells, nat_tests}
use Rattle.std.proofs.lemmas.Int.Digits.{digits_value-lt}
use Rattle.std.proofs.lemmas.Nat.{same_from_place}
use Rattle.std.proofs.lemmas.Slice.Eq.{bytes_eq-Decides}
use Rattle.std.proofs.lemmas.Str.{digit_value_digit}
use Rattle.std.proofs.lemmas.Str.Parse.{digit_from_value}
use Rattle.ortc_map.specs.Matching.{is_numeral}
use Rattle.ortc_map.specs.Numerals.{without_zeros}

-- the digits behind a number stand for so many places
value_after : (n : ℕ) (cs : List ℕ) → digits_value_after 10 n cs ≡ n * 10 ^ length cs + digits_value 10 cs
value_after n [] = omega arith
value_after n (c ∷ cs) =
    let whole = value_after (n * 10 + digit_value c) cs in
    let own = value_after (0 * 10 + digit_value c) cs in
    rw (whole, own, pow-suc) (omega arith)

value-cons : (c : ℕ) (cs : List ℕ) → digits_value 10 (c ∷ cs) ≡ digit_value c * 10 ^ length cs + digits_value 10 cs
value-cons c cs = value_after (0 * 10 + digit_value c) cs ∙ (omega arith)

-- a digit is known by its value
same_digit : (c d : ℕ) → digit_value c < 10 → digit_value d < 10 → digit_value c ≡ digit_value d → c ≡ d
same_digit c d cs ds e = sym (digit_value_digit c (digit_from_value c cs)) ∙ ap (λ v. v + 48) e ∙ digit_value_digit d (digit_from_value d ds)

-- so many digits are known by their number
same_digits : (xs ys : List ℕ) → AllDigits 10 xs → AllDigits 10 ys → length xs ≡ length ys → digits_value 10 xs ≡ digits_value 10 ys → xs ≡ ys
same_digits [] [] xd yd l e = refl
same_digits [] (y ∷ ys) xd yd l e = absurd (omega arith)
same_digits (x ∷ xs) [] xd yd l e = absurd (omega arith)
same_digits (x ∷ xs) (y ∷ ys) xd yd l e =
    let shorter : length xs ≡ length ys = omega arith in
    let xl : digits_value 10 xs < 10 ^ length xs = digits_value-lt 10 xs xd.1 in
    let yl : digits_value 10 ys < 10 ^ length xs = rw shorter (digits_value-lt 10 ys yd.1) in
    let places : digit_value x * 10 ^ length xs + digits_value 10 xs ≡ digit_value y * 10 ^ length xs + digits_value 10 ys =
    sym (value-cons x xs) ∙ e ∙ value-cons y ys ∙ ap (λ n. digit_value y * 10 ^ n + digits_value 10 ys) (sym shorter)
    in
    let both = same_from_place (digit_value x) (digits_value 10 xs) (digit_value y) (digits_value 10 ys) (10 ^ length xs) xl yl places in
    let firsts : x ≡ y = same_digit x y xd.0 yd.0 both.0 in
    let others : xs ≡ ys = same_digits xs ys xd.1 yd.1 shorter both.1 in
    cc

-- digits that don't begin with a zero
abbrev Begins : List ℕ → Type 0
Begins [] = ⊤
Begins (c ∷ cs) = c ≢ 48

begins : (cs : List ℕ) → Begins (without_zeros cs)
begins [] = tt
begins (c ∷ cs) = elim (eqb_tells c 48) [ inl w ↦ rw w.0 (begins cs) | inr w ↦ rw w.0 w.1 ]

digits_behind : (cs : List ℕ) → AllDigits 10 cs → AllDigits 10 (without_zeros cs)
digits_behind [] d = tt
digits_behind (c ∷ cs) d = elim (eqb_tells c 48) [ inl w ↦ rw w.0 (digits_behind cs d.1) | inr w ↦ rw w.0 d ]

zero_first : (c : ℕ) (cs : List ℕ) → c ≡ 48 → digits_value 10 (c ∷ cs) ≡ digits_value 10 cs
zero_first c cs e = value-cons c cs ∙ ap (λ d. digit_value d * 10 ^ length cs + digits_value 10 cs) e ∙ (omega arith)

value-without_zeros : (cs : List ℕ) → digits_value 10 (without_zeros cs) ≡ digits_value 10 cs
value-without_zeros [] = refl
value-without_zeros (c ∷ cs) =
    elim (eqb_tells c 48) [
      | inl w ↦ rw w.0 (value-without_zeros cs ∙ sym (zero_first c cs w.1))
      | inr w ↦ rw w.0 refl
    ]

positive : (y : ℕ) → digit_value y < 10 → y ≢ 48 → 1 ≤ digit_value y
positive y d n =
    let is : digit_value y + 48 ≡ y = digit_value_digit y (digit_from_value y d) in
    elim (eqb_tells (digit_value y) 0) [ inl w ↦ absurd (n (omega arith)) | inr w ↦ omega arith ]

-- the first of such digits stands for at least one of its place
at_least : (y : ℕ) (ys : List ℕ) → AllDigits 10 (y ∷ ys) → y ≢ 48 → 10 ^ length ys ≤ digits_value 10 (y ∷ ys)
at_least y ys yd n =
    let one : 1 * 10 ^ length ys ≤ digit_value y * 10 ^ length ys = mul-le-mul_right (10 ^ length ys) (positive y yd.0 n) in
    let is = value-cons y ys in
    omega arith

-- of such digits the more, the greater is the number
longer : (xs : List ℕ) (y : ℕ) (ys : List ℕ) → AllDigits 10 xs → AllDigits 10 (y ∷ ys) → y ≢ 48 → digits_value 10 xs ≡ digits_value 10 (y ∷ ys) → length xs ≤ length ys → ⊥
longer xs y ys xd yd n e short =
    let small : digits_value 10 xs < 10 ^ length xs = digits_value-lt 10 xs xd in
    let grows : 10 ^ length xs ≤ 10 ^ length ys = pow-le-pow_right {n = 10} (omega arith) short in
    let large = at_least y ys yd n in
    omega arith

not_longer : (xs ys : List ℕ) → AllDigits 10 xs → AllDigits 10 ys → Begins ys → digits_value 10 xs ≡ digits_value 10 ys → length ys ≤ length xs
not_longer xs [] xd yd b e = omega arith
not_longer xs (y ∷ ys) xd yd b e =
    elim (cases_lt (length ys) (length xs)) [
      | inl w ↦ omega arith
      | inr w ↦ absurd (longer xs y ys xd yd b e w)
    ]

same_behind : (xs ys : List ℕ) → AllDigits 10 xs → AllDigits 10 ys → Begins xs → Begins ys → digits_value 10 xs ≡ digits_value 10 ys → xs ≡ ys
same_behind xs ys xd yd xb yb e =
    let up = not_longer xs ys xd yd yb e in
    let down = not_longer ys xs yd xd xb (sym e) in
    same_digits xs ys xd yd (omega arith) e

same_from_behind : (xs ys : List ℕ) → without_zeros xs ≡ without_zeros ys → digits_value 10 xs ≡ digits_value 10 ys
same_from_behind xs ys e = sym (value-without_zeros xs) ∙ ap (digits_value 10) e ∙ value-without_zeros ys

behind_from_same : (xs ys : List ℕ) → AllDigits 10 xs → AllDigits 10 ys → digits_value 10 xs ≡ digits_value 10 ys → without_zeros xs ≡ without_zeros ys
behind_from_same xs ys xd yd e =
    same_behind (without_zeros xs) (without_zeros ys) (digits_behind xs xd) (digits_behind ys yd) (begins xs) (begins ys)
    (value-without_zeros xs ∙ e ∙ sym (value-without_zeros ys))

pub same_numeral : (xs ys : List ℕ) → AllDigits 10 xs → AllDigits 10 ys → bytes_eq (without_zeros xs) (without_zeros ys) ≡ eqb (digits_value 10 xs) (digits_value 10 ys)
same_numeral xs ys xd yd =
    let texts = bytes_eq-Decides (without_zeros xs) (without_zeros ys) in
    let numbers = Decides-eqb (digits_value 10 xs) (digits_value 10 ys) in
    same_from_decides (bytes_eq (without_zeros xs) (without_zeros ys)) (eqb (digits_value 10 xs) (digits_value 10 ys)) texts
    (λ r. behind_from_same xs ys xd yd (numbers.0 r), λ e. numbers.1 (same_from_behind xs ys e))

both_true : (a b : Bool) → (a && b) ≡ true → (a ≡ true) × (b ≡ true)
both_true true b e = (refl, e)
both_true false b e = cc

digit_of : (c : ℕ) → is_ascii_digit c ≡ true → digit_value c < 10
digit_of c e = grind (arith, nat_tests)

-- a text that passes has digits alone
digits_that_pass : (cs : List ℕ) → list_all is_ascii_digit cs ≡ true → AllDigits 10 cs
digits_that_pass [] e = tt
digits_that_pass (c ∷ cs) e =
    let both = both_true (is_ascii_digit c) (list_all is_ascii_digit cs) e in
    (digit_of c both.0, digits_that_pass cs both.1)

pub digits_of_numeral : (cs : List ℕ) → is_numeral cs ≡ true → AllDigits 10 cs
digits_of_numeral cs e = digits_that_pass cs (both_true (not (eqb (length cs) 0)) (list_all is_ascii_digit cs) e).1
