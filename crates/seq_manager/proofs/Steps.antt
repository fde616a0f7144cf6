-- One step in numbers of 16 bits is the step in whole numbers, modulo 65,536.
use Rattle.std.proofs.Common.{◌≡◌, ℕ, ◌+◌, ◌-◌, ◌*◌, ◌/◌, ◌%◌, ◌<◌, ◌≤◌, ℤ, pos, ◌+ℤ◌, ◌-ℤ◌, ◌≤ℤ◌, arith, ◌∙◌, ap}
use Rattle.std.proofs.lemmas.Int.{ints, clamps, by_lt_z}
use Rattle.std.specs.Int.{int_max}
use Rattle.seq_manager.specs.Extended.{low_16, nearest}
use Rattle.seq_manager.specs.Numbering.{difference, greater}
use Rattle.seq_manager.proofs.Modulo.{low_16-lt, low_16_residue, low_16_is, nearest_is}

pub low_16-add : (a b : ℤ) → low_16 (a +ℤ b) ≡ (low_16 a + low_16 b) % 65536
low_16-add a b =
    let r = low_16_residue a in
    let s = low_16_residue b in
    let at_a : a +ℤ pos (65536 * r.k) ≡ pos (low_16 a + 65536 * r.j) = r.apart in
    let at_b : b +ℤ pos (65536 * s.k) ≡ pos (low_16 b + 65536 * s.j) = s.apart in
    low_16_is _ _
    (record { below = omega arith; k = r.k + s.k; j = r.j + s.j + (low_16 a + low_16 b) / 65536; apart = omega (arith, ints) })

pub low_16-sub : (a b : ℤ) → low_16 (a -ℤ b) ≡ difference (low_16 a) (low_16 b)
low_16-sub a b =
    let r = low_16_residue a in
    let s = low_16_residue b in
    let lt = low_16-lt b in
    let at_a : a +ℤ pos (65536 * r.k) ≡ pos (low_16 a + 65536 * r.j) = r.apart in
    let at_b : b +ℤ pos (65536 * s.k) ≡ pos (low_16 b + 65536 * s.j) = s.apart in
    low_16_is _ _
    (record {
      below = omega arith;
      k = r.k + s.j + 1;
      j = r.j + s.k + (low_16 a + (65536 - low_16 b)) / 65536;
      apart = omega (arith, ints);
    })

pub low_16_pos : (n : ℕ) → n < 65536 → low_16 (pos n) ≡ n
low_16_pos n below = omega arith

-- the output number of a number that is not the first
pub low_16-output : (greatest offset : ℤ) (number : ℕ) → number < 65536 →
    low_16 (nearest (greatest -ℤ offset) number +ℤ offset) ≡ (number + low_16 offset) % 65536
low_16-output greatest offset number below =
    let same : low_16 (nearest (greatest -ℤ offset) number) ≡ number = (nearest_is (greatest -ℤ offset) number below).congruent in
    low_16-add (nearest (greatest -ℤ offset) number) offset ∙ ap (λ n. (n + low_16 offset) % 65536) same

-- the greater of two numbers that are less than the half range apart
pub low_16-int_max : (greatest output : ℤ) → (greatest -ℤ pos 32768) ≤ℤ output → output ≤ℤ (greatest +ℤ pos 32767) →
    low_16 (int_max greatest output) ≡ greater (low_16 greatest) (low_16 output)
low_16-int_max greatest output from to =
    let apart = low_16-sub output greatest in
    let r = low_16_residue (output -ℤ greatest) in
    let at : (output -ℤ greatest) +ℤ pos (65536 * r.k) ≡ pos (low_16 (output -ℤ greatest) + 65536 * r.j) = r.apart in
    let lt = low_16-lt (output -ℤ greatest) in
    by_lt_z output greatest
    (λ late.
    let far : 32768 ≤ difference (low_16 output) (low_16 greatest) = omega (arith, ints) in
    let max : int_max greatest output ≡ greatest = omega (arith, ints, clamps) in
    ap low_16 max ∙ grind arith)
    (λ later.
    let near : difference (low_16 output) (low_16 greatest) < 32768 = omega (arith, ints) in
    let max : int_max greatest output ≡ output = omega (arith, ints, clamps) in
    ap low_16 max ∙ grind arith)
