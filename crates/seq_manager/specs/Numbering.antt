-- What contracts see of a `SeqManager`: the plain state that its calls leave, in 16-bit numbers alone. That the numbers which a
-- list of calls gives are those of `Outputs` is the law of `Laws`.
use Rattle.std.specs.Prelude.{ℕ, ◌+◌, ◌-◌, ◌%◌, Option, Some, None, nat_lt, if◌then◌else◌}

-- what has been numbered so far
pub record Numbering : Type 0 where
  -- the greatest output number, modulo 65,536; 0 before the first
  pub greatest : ℕ
  -- the output numbers of this stretch less their sequence numbers, modulo 65,536; None before its first
  pub offset : Option ℕ

-- before the first call
abbrev pub unnumbered : Numbering
unnumbered = record { greatest = 0; offset = None }

-- where a further stretch begins
abbrev pub next_stretch : Numbering → Numbering
next_stretch s = record { greatest = s.greatest; offset = None }

-- a - b modulo 65,536
abbrev pub difference : ℕ → ℕ → ℕ
difference a b = (a + (65536 - b)) % 65536

-- the output number of a sequence number: one above the greatest where it is the stretch's first
abbrev pub output_by : ℕ → Option ℕ → ℕ → ℕ
output_by greatest None number = (greatest + 1) % 65536
output_by greatest (Some offset) number = (number + offset) % 65536

abbrev pub output_number : Numbering → ℕ → ℕ
output_number s number = output_by s.greatest s.offset number

-- the greater of two output numbers: `output` where it is less than 32,768 above
abbrev pub greater : ℕ → ℕ → ℕ
greater greatest output = if nat_lt (difference output greatest) 32768 then output else greatest

-- the state behind a sequence number
abbrev pub numbered : Numbering → ℕ → Numbering
numbered s number =
    record {
      greatest = greater s.greatest (output_number s number);
      offset = Some (difference (output_number s number) number);
    }
