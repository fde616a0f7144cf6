-- Masks of a byte as its fields.
use Rattle.std.proofs.Common.{◌≡◌, ℕ, zero, suc, ◌-◌, ◌*◌, ◌/◌, ◌%◌, ◌^◌, ◌<◌, Bool, true, false, not, ◌&&◌, arith, refl}
use Rattle.std.specs.Prelude.{bit_and, ◌==◌}
use Rattle.std.proofs.lemmas.Nat.{and_mask, pow_pos}
use Rattle.std.proofs.lemmas.Nat.Bits.{and_pow, and_high}
use Rattle.keyframes.specs.Fields.{bit}
use Rattle.keyframes.specs.Reading.{is_set}

bit_from : (x r w : ℕ) → 0 < w → r < 2 → x ≡ r * w → bit (not (x == 0)) ≡ r
bit_from x zero w positive small e = grind arith
bit_from x (suc zero) w positive small e = grind arith
bit_from x (suc (suc r)) w positive small e = absurd (omega arith)

-- bit k of a byte
pub bit-is_set : (n k : ℕ) → bit (is_set n (2 ^ k)) ≡ n / 2 ^ k % 2
bit-is_set n k = bit_from (bit_and n (2 ^ k)) (n / 2 ^ k % 2) (2 ^ k) (pow_pos k) (omega arith) (and_pow n k)

pub bit_same : (a b : Bool) → bit a ≡ bit b → a ≡ b
bit_same false false e = refl
bit_same true true e = refl
bit_same false true e = absurd (omega arith)
bit_same true false e = absurd (omega arith)

pub bit-lt : (b : Bool) → bit b < 2
bit-lt false = omega arith
bit-lt true = omega arith

clear_from : (x r w : ℕ) → 0 < w → x ≡ r * w → not (not (x == 0)) ≡ (r == 0)
clear_from x zero w positive e = grind arith
clear_from x (suc r) w positive e = grind arith

-- the low k bits are 0
pub is_set-low : (n k : ℕ) → not (is_set n (2 ^ k - 1)) ≡ (n % 2 ^ k == 0)
is_set-low n k = clear_from (bit_and n (2 ^ k - 1)) (n % 2 ^ k) 1 (omega arith) (omega (arith, and_mask n k))

-- the three bits above the lowest are 0
pub is_set-layer : (n : ℕ) → not (is_set n 0x0e) ≡ (n / 2 % 8 == 0)
is_set-layer n = clear_from (bit_and n 14) (n / 2 % 8) 2 (omega arith) (and_high n 3 1)

pub and_both : (a b : Bool) → (a && b) ≡ true → (a ≡ true) × (b ≡ true)
and_both true b e = (refl, e)
and_both false b e = absurd (cc)

pub and_of : (a b : Bool) → a ≡ true → b ≡ true → (a && b) ≡ true
and_of a b p q = grind arith
