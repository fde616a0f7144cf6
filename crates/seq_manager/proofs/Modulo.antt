-- Whole numbers modulo 65,536.
use Rattle.std.proofs.Common.{◌≡◌, ℕ, ◌+◌, ◌*◌, ◌/◌, ◌<◌, ℤ, pos, negsuc, ◌+ℤ◌, ◌-ℤ◌, ◌≤ℤ◌, arith, refl}
use Rattle.std.proofs.lemmas.Int.{ints}
use Rattle.seq_manager.specs.Extended.{low_16, IsNearest, nearest}

pub low_16-lt : (z : ℤ) → low_16 z < 65536
low_16-lt (pos n) = omega arith
low_16-lt (negsuc n) = omega arith

-- z is k and j times 65,536 away from its residue
pub record IsResidue (z : ℤ) (n : ℕ) : Type 0 where
  pub below : n < 65536
  pub k : ℕ
  pub j : ℕ
  pub apart : z +ℤ pos (65536 * k) ≡ pos (n + 65536 * j)

pub low_16_residue : (z : ℤ) → IsResidue z (low_16 z)
low_16_residue (pos n) = record { below = omega arith; k = 0; j = n / 65536; apart = omega (arith, ints) }
low_16_residue (negsuc n) = record { below = omega arith; k = n / 65536 + 1; j = 0; apart = omega (arith, ints) }

-- and there is one such residue
pub low_16_is : (z : ℤ) (n : ℕ) → IsResidue z n → low_16 z ≡ n
low_16_is (pos m) n r = let apart : pos m +ℤ pos (65536 * r.k) ≡ pos (n + 65536 * r.j) = r.apart in let below : n < 65536 = r.below in omega (arith, ints)
low_16_is (negsuc m) n r = let apart : negsuc m +ℤ pos (65536 * r.k) ≡ pos (n + 65536 * r.j) = r.apart in let below : n < 65536 = r.below in omega (arith, ints)

pub nearest_is : (greatest : ℤ) (number : ℕ) → number < 65536 → IsNearest greatest number (nearest greatest number)
nearest_is greatest number below =
    let r = low_16_residue (pos number -ℤ (greatest -ℤ pos 32768)) in
    let lt = low_16-lt (pos number -ℤ (greatest -ℤ pos 32768)) in
    let apart : (pos number -ℤ (greatest -ℤ pos 32768)) +ℤ pos (65536 * r.k)
    ≡ pos (low_16 (pos number -ℤ (greatest -ℤ pos 32768)) + 65536 * r.j) = r.apart in
    let is : nearest greatest number ≡ (greatest -ℤ pos 32768) +ℤ pos (low_16 (pos number -ℤ (greatest -ℤ pos 32768))) = refl in
    record {
      congruent = low_16_is _ _ (record { below = below; k = r.j; j = r.k; apart = omega (arith, ints) });
      from = omega (arith, ints);
      to = omega (arith, ints);
    }

pub nearest_only : (greatest : ℤ) (number : ℕ) (e : ℤ) → IsNearest greatest number e → e ≡ nearest greatest number
nearest_only greatest number e h =
    let r = low_16_residue e in
    let lt = low_16-lt (pos number -ℤ (greatest -ℤ pos 32768)) in
    let apart : e +ℤ pos (65536 * r.k) ≡ pos (low_16 e + 65536 * r.j) = r.apart in
    let congruent : low_16 e ≡ number = h.congruent in
    let from : (greatest -ℤ pos 32768) ≤ℤ e = h.from in
    let to : e ≤ℤ (greatest +ℤ pos 32767) = h.to in
    let s = low_16_residue (pos number -ℤ (greatest -ℤ pos 32768)) in
    let apart' : (pos number -ℤ (greatest -ℤ pos 32768)) +ℤ pos (65536 * s.k)
    ≡ pos (low_16 (pos number -ℤ (greatest -ℤ pos 32768)) + 65536 * s.j) = s.apart in
    let is : nearest greatest number ≡ (greatest -ℤ pos 32768) +ℤ pos (low_16 (pos number -ℤ (greatest -ℤ pos 32768))) = refl in
    omega (arith, ints)
