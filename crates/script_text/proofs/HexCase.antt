-- Bytes that hexadecimal digits of either case stand for are spelled by these digits in lower case.
use Rattle.std.proofs.Common.{◌≡◌, ℕ, zero, suc, ◌+◌, ◌*◌, ◌/◌, ◌%◌, ◌<◌, inl, inr, List, [], ◌∷◌, Bool, true, ◌&&◌, cond, eqb, leb, map, slice_index, Option, Some, None, Ok, refl, sym, ◌∙◌, ap, subst, arith}
use Rattle.std.proofs.lemmas.Bool.{and_parts, cases_lt, eqb-true}
use Rattle.std.proofs.lemmas.Bool.Decides.{nat_tests}
use Rattle.std.specs.Char.{to_ascii_lowercase}
use Rattle.hex.specs.Hex.{decode_of, decode_pairs, digit_or_error, encode_lower, encode_with, hex_digit_value, lower_digits, pair_value, value_at}
use Rattle.hex.proofs.HexLemmas.{decode_of-even, decode_of-ok}
use Rattle.script_text.specs.Parted.{bind_ok, ok_is}

-- ---- one digit

-- the digit of a value in lower case
abbrev lower_digit : ℕ → ℕ
lower_digit v = cond (leb v 9) (48 + v) (87 + v)

abbrev is_lower_below : ℕ → Bool
is_lower_below zero = true
is_lower_below (suc n) = eqb (slice_index lower_digits n) (lower_digit n) && is_lower_below n

lower_at : (n v : ℕ) → is_lower_below n ≡ true → v < n → slice_index lower_digits v ≡ lower_digit v
lower_at zero v h below = absurd (omega arith)
lower_at (suc n) v h below =
    let parts = and_parts (eqb (slice_index lower_digits n) (lower_digit n)) (is_lower_below n) h in
    elim (cases_lt v n) [
      | inl less ↦ lower_at n v parts.1 less
      | inr last ↦ (
          let same : n ≡ v = omega arith in
          subst (λ k. slice_index lower_digits k ≡ lower_digit k) same (eqb-true (slice_index lower_digits n) (lower_digit n) parts.0)
          )
    ]

value_small : (c v : ℕ) → hex_digit_value c ≡ Some v → v < 16
value_small c v h = grind arith

value_lower : (c v : ℕ) → hex_digit_value c ≡ Some v → lower_digit v ≡ to_ascii_lowercase c
value_lower c v h = grind (arith, nat_tests)

digit_lower : (c v : ℕ) → hex_digit_value c ≡ Some v → slice_index lower_digits v ≡ to_ascii_lowercase c
digit_lower c v h = lower_at 16 v refl (value_small c v h) ∙ value_lower c v h

-- ---- pairs of digits

digit_read : (c i : ℕ) (o : Option ℕ) (v : ℕ) → digit_or_error c i o ≡ Ok v → o ≡ Some v
digit_read c i (Some w) v h = ap Some (ok_is w v h)
digit_read c i None v h = absurd cc

high_of : (a b : ℕ) → b < 16 → (a * 16 + b) / 16 ≡ a
high_of a b h = omega arith

low_of : (a b : ℕ) → b < 16 → (a * 16 + b) % 16 ≡ b
low_of a b h = omega arith

pairs_lower : (i : ℕ) (s bytes : List ℕ) → decode_pairs i s ≡ Ok bytes → encode_lower bytes ≡ map to_ascii_lowercase s
unfolding decode_pairs encode_with
pairs_lower i [] bytes h = subst (λ bs. encode_lower bs ≡ []) (ok_is [] bytes h) refl
pairs_lower i (a ∷ []) bytes h = absurd cc
pairs_lower i (a ∷ b ∷ rest) bytes h =
    let byte = bind_ok (pair_value a b i) _ bytes h in
    let high = bind_ok (value_at a i) _ byte.0 byte.1 in
    let low = bind_ok (value_at b (i + 1)) _ byte.0 high.2 in
    let more = bind_ok (decode_pairs (i + 2) rest) _ bytes byte.2 in
    let made : byte.0 ∷ more.0 ≡ bytes = ok_is _ bytes more.2 in
    let pair : high.0 * 16 + low.0 ≡ byte.0 = ok_is _ byte.0 low.2 in
    let a_value : hex_digit_value a ≡ Some high.0 = digit_read a i (hex_digit_value a) high.0 high.1 in
    let b_value : hex_digit_value b ≡ Some low.0 = digit_read b (i + 1) (hex_digit_value b) low.0 low.1 in
    let small = value_small b low.0 b_value in
    let upper : byte.0 / 16 ≡ high.0 = ap (λ n. n / 16) (sym pair) ∙ high_of high.0 low.0 small in
    let lower : byte.0 % 16 ≡ low.0 = ap (λ n. n % 16) (sym pair) ∙ low_of high.0 low.0 small in
    let first : slice_index lower_digits (byte.0 / 16) ≡ to_ascii_lowercase a = ap (slice_index lower_digits) upper ∙ digit_lower a high.0 a_value in
    let second : slice_index lower_digits (byte.0 % 16) ≡ to_ascii_lowercase b = ap (slice_index lower_digits) lower ∙ digit_lower b low.0 b_value in
    let others : encode_with lower_digits more.0 ≡ map to_ascii_lowercase rest = pairs_lower (i + 2) rest more.0 more.1 in
    ap (λ (bs : List ℕ). encode_with lower_digits bs) (sym made)
    ∙ ap (λ (d : ℕ). d ∷ slice_index lower_digits (byte.0 % 16) ∷ encode_with lower_digits more.0) first
    ∙ ap (λ (d : ℕ). to_ascii_lowercase a ∷ d ∷ encode_with lower_digits more.0) second
    ∙ ap (λ (ds : List ℕ). to_ascii_lowercase a ∷ to_ascii_lowercase b ∷ ds) others

pub digits_lower : (word bytes : List ℕ) → decode_of word ≡ Ok bytes → encode_lower bytes ≡ map to_ascii_lowercase word
digits_lower word bytes h =
    let even = (decode_of-ok word bytes h).0 in
    pairs_lower 0 word bytes (sym (decode_of-even word even) ∙ h)
