-- The bits of the first two bytes.
use Rattle.std.proofs.Common.{◌≡◌, ℕ, zero, suc, ◌+◌, ◌*◌, ◌/◌, ◌%◌, ◌^◌, ◌<◌, eqb, refl, ◌∙◌, arith}
use Rattle.std.specs.Prelude.{not, bit_and, bit_or}
use Rattle.std.proofs.lemmas.Nat.Bits.{and_pow}
use Rattle.std.proofs.lemmas.Nat.{or_shifted}

five : (b : ℕ) → b < 2 → not (eqb (b * 32) 0) ≡ eqb b 1
five zero h = refl
five (suc zero) h = refl
five (suc (suc b)) h = absurd (omega arith)

four : (b : ℕ) → b < 2 → not (eqb (b * 16) 0) ≡ eqb b 1
four zero h = refl
four (suc zero) h = refl
four (suc (suc b)) h = absurd (omega arith)

pub bit_five : (n : ℕ) → not (eqb (bit_and n 32) 0) ≡ eqb (n / 32 % 2) 1
bit_five n = rw (and_pow n 5) (five (n / 32 % 2) (omega arith))

pub bit_four : (n : ℕ) → not (eqb (bit_and n 16) 0) ≡ eqb (n / 16 % 2) 1
bit_four n = rw (and_pow n 4) (four (n / 16 % 2) (omega arith))

-- the type in place of the low seven bits
pub typed : (n t : ℕ) → n < 256 → t < 128 → bit_or (bit_and n 128) t ≡ 128 * (n / 128) + t
typed n t lt small =
    let high : bit_and n 128 ≡ n / 128 % 2 * 2 ^ 7 = and_pow n 7 in
    rw high (or_shifted (n / 128 % 2) 7 t small ∙ omega arith)
