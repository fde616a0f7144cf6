-- Numbers in decimal.
use Rattle.std.proofs.Common.{◌≡◌, ◌≢◌, ℕ, ◌^◌, ◌<◌, ◌≤◌, inl, inr, List, [], ◌∷◌, true, false, not, ◌&&◌, ◌||◌, cond, eqb, leb, get_or, length, Result, Ok, Err, refl, sym, ◌∙◌, arith}
use Rattle.std.proofs.lemmas.Bool.{ne_eqb, false_from_ne_true, eq-eqb, eqb-true, and_parts, and_from, or_cases, leb-true, le-leb, ltb-true, lt-ltb, not-true, not_from_false, cond-false, cases_eq, or_left, or_right, false≢true, and_left, and_right, lt-leb}
use Rattle.std.proofs.lemmas.Str.Parse.{IsNumeralModel, numerals_by_value, tells_all_ascii_digits, parse_plain}
use Rattle.std.specs.Str.{all_ascii_digits}
use Rattle.std.specs.Str.Parse.{digits_value, ParsesUnsigned}
use Rattle.std.specs.Result.{MatchResult, OkIff}
use Rattle.ms_base.specs.declared.code.Code.TheVariants as code
use Rattle.script_text.specs.Words.{is_number, is_within, number_of}
use Rattle.script_text.specs.Gives.{is_plain}

pub own : IsNumeralModel (λ ds. all_ascii_digits ds ≡ true) (digits_value 10)
own = numerals_by_value _ tells_all_ascii_digits

-- a number is digits, at least one, and its first is 0 only where it is alone
pub record NumberParts (word : List ℕ) : Type 0 where
  pub digits : all_ascii_digits word ≡ true
  pub some : 0 < length word
  pub first : get_or word 0 0 ≡ 48 → length word ≡ 1

pub number_parts : (word : List ℕ) → is_number word ≡ true → NumberParts word
number_parts word h =
    let a = and_parts _ _ h in
    let b = and_parts _ _ a.0 in
    record {
      digits = b.0;
      some = ltb-true _ _ b.1;
      first = λ zero. elim (or_cases _ _ a.1) [
        | inl one ↦ eqb-true _ _ one
        | inr other ↦ absurd (false≢true (sym (not-true _ other) ∙ eq-eqb _ _ zero))
      ];
    }

pub number_from : (word : List ℕ) → NumberParts word → is_number word ≡ true
number_from word parts =
    and_from _ _ (and_from _ _ parts.digits (lt-ltb _ _ parts.some)) (elim (cases_eq (get_or word 0 0) 48) [
      | inl zero ↦ or_left _ _ (eq-eqb _ _ (parts.first zero))
      | inr other ↦ or_right _ _ (not_from_false _ (ne_eqb _ _ other))
    ])

-- digits begin with a digit
first_digit : (word : List ℕ) → all_ascii_digits word ≡ true → 0 < length word → 48 ≤ get_or word 0 0
first_digit [] h l = omega arith
first_digit (c ∷ cs) h l = (tells_all_ascii_digits.parts c cs h).0.0

-- a word with a sign or a leading zero is no number
pub number_refused : (low high : ℕ) (word : List ℕ) → is_plain word ≡ false → number_of low high word ≡ Err code.Number
unfolding number_of
number_refused low high word bad =
    let no : is_number word ≡ false = false_from_ne_true _ (λ e.
    let parts = number_parts word e in
    let low_digit : 48 ≤ get_or word 0 0 = first_digit word parts.digits parts.some in
    let plain : is_plain word ≡ true = and_from _ _
    (not_from_false _ (ne_eqb (get_or word 0 0) 43 (λ plus. omega arith)))
    (elim (cases_eq (get_or word 0 0) 48) [
      | inl zero ↦ or_left _ _ (le-leb (length word) 1 (let one : length word ≡ 1 = parts.first zero in omega arith))
      | inr other ↦ or_right _ _ (not_from_false _ (ne_eqb _ _ other))
    ]) in
    false≢true (sym bad ∙ plain)) in
    cond-false _ _ _ (and_left _ _ no)

alone : (word : List ℕ) → 0 < length word → (leb (length word) 1 || not (eqb (get_or word 0 0) 48)) ≡ true → get_or word 0 0 ≡ 48 → length word ≡ 1
alone word some plain zero = elim (or_cases _ _ plain) [
  | inl short ↦ (let l : length word ≤ 1 = leb-true (length word) 1 short in omega arith)
  | inr other ↦ absurd (false≢true (sym (not-true _ other) ∙ eq-eqb _ _ zero))
]

-- a word that begins as a number does, by what `parse` says of it
number_by : {E : Type 0} (low high : ℕ) (word : List ℕ) (r : Result ℕ E) → high < 2 ^ 64 → is_plain word ≡ true
    → OkIff r ((all_ascii_digits word ≡ true) × (0 < length word) × (digits_value 10 word < 2 ^ 64)) (digits_value 10 word)
    → MatchResult r
    (λ n. number_of low high word ≡ cond (leb low n && leb n high) (Ok n) (Err code.Number))
    (λ e. number_of low high word ≡ Err code.Number)
unfolding number_of
number_by low high word (Ok x) fits plain h =
    let p = and_parts _ _ plain in
    let yes : is_number word ≡ true = number_from word (record {
      digits = h.0.0;
      some = h.0.1;
      first = λ zero. alone word h.0.1 p.1 zero;
    }) in
    let same : x ≡ digits_value 10 word = h.1 in
    rw (yes, same) refl
number_by low high word (Err e) fits plain h =
    let v : ℕ = digits_value 10 word in
    cond-false _ _ _ (false_from_ne_true (is_number word && is_within low high v) (λ t.
    let b = and_parts (is_number word) (is_within low high v) t in
    let a = and_parts (leb low v) (leb v high) b.1 in
    let parts = number_parts word b.0 in
    let below : digits_value 10 word ≤ high = leb-true _ _ a.1 in
    h (parts.digits, parts.some, omega arith)))

pub number_parsed : {E : Type 0} (low high : ℕ) (word : List ℕ) (r : Result ℕ E) → high < 2 ^ 64 → is_plain word ≡ true
    → ParsesUnsigned 64 10 word r
    → MatchResult r
    (λ n. number_of low high word ≡ cond (leb low n && leb n high) (Ok n) (Err code.Number))
    (λ e. number_of low high word ≡ Err code.Number)
number_parsed low high word r fits plain parses =
    let p = and_parts _ _ plain in
    let no_sign : get_or word 0 0 ≢ 43 = λ e. false≢true (sym (not-true _ p.0) ∙ eq-eqb _ _ e) in
    number_by low high word r fits plain (parse_plain own 64 word r parses no_sign)

pub both_within : (low high n : ℕ) → low ≤ n → n ≤ high → (leb low n && leb n high) ≡ true
both_within low high n a b = and_from _ _ (le-leb _ _ a) (le-leb _ _ b)

pub above : (low high n : ℕ) → high < n → (leb low n && leb n high) ≡ false
above low high n a = and_right _ _ (lt-leb _ _ a)

pub below : (low high n : ℕ) → n < low → (leb low n && leb n high) ≡ false
below low high n a = and_left _ _ (lt-leb _ _ a)
