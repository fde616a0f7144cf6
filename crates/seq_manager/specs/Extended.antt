-- Extended sequence numbers: the whole numbers that the 16-bit numbers of a stretch stand for. RFC 3550, section A.1, extends a
-- sequence number by the count of its cycles in this way; the half range of 32,768 is this project's own.
use Rattle.std.specs.Prelude.{ℕ, ◌-◌, ◌%◌, ℤ, pos, negsuc, ◌+ℤ◌, ◌-ℤ◌, ◌≤ℤ◌, ◌≡◌, List, [], ◌∷◌, ◌++◌, refl, ◌<◌, length, take, slice_index, slice_index_or}
use Rattle.std.specs.List.{fold}
use Rattle.std.specs.Int.{int_max}

-- a whole number modulo 65,536: what a field of 16 bits carries of it
abbrev pub low_16 : ℤ → ℕ
low_16 (pos n) = n % 65536
low_16 (negsuc n) = 65535 - n % 65536

-- the greatest of a list, and 0 of none
abbrev pub greatest_of : List ℤ → ℤ
greatest_of [] = pos 0
greatest_of (x ∷ xs) = fold int_max x xs

-- `extended` is congruent to a sequence number modulo 65,536, and lies between greatest - 32,768 and greatest + 32,767
pub record IsNearest (greatest : ℤ) (number : ℕ) (extended : ℤ) : Type 0 where
  pub congruent : low_16 extended ≡ number
  pub from : (greatest -ℤ pos 32768) ≤ℤ extended
  pub to : extended ≤ℤ (greatest +ℤ pos 32767)

-- the one whole number that is so: as far above the least of these numbers as the two differ modulo 65,536
abbrev pub nearest : ℤ → ℕ → ℤ
nearest greatest number =
    let least = greatest -ℤ pos 32768 in least +ℤ pos (low_16 (pos number -ℤ least))

-- the extended number of a sequence number, where those before it in the stretch have the extended numbers `found`
abbrev pub next_extended : List ℤ → ℕ → ℤ
next_extended [] number = pos number
next_extended (e ∷ es) number = nearest (greatest_of (e ∷ es)) number

-- the extended numbers of the sequence numbers that follow those
abbrev pub extended_after : List ℤ → List ℕ → List ℤ
extended_after found [] = []
extended_after found (number ∷ later) =
    next_extended found number ∷ extended_after (found ++ next_extended found number ∷ []) later

-- the extended numbers of a stretch's sequence numbers
abbrev pub extended_numbers : List ℕ → List ℤ
extended_numbers stretch = extended_after [] stretch

-- ---- the same, place by place

-- e is the extended number of a sequence number, where those before it in the stretch have the extended numbers `earlier`: the
-- first is the number itself, and each later one is the number near the greatest before it
abbrev pub IsExtended : List ℤ → ℕ → ℤ → Type 0
IsExtended [] number e = e ≡ pos number
IsExtended (x ∷ xs) number e = IsNearest (greatest_of (x ∷ xs)) number e

-- one for each sequence number, and each by those before it
pub record AreExtended (stretch : List ℕ) (extended : List ℤ) : Type 0 where
  pub count : length extended ≡ length stretch
  pub each : (j : ℕ) → j < length stretch →
      IsExtended (take j extended) (slice_index stretch j) (slice_index_or extended j (pos 0))

-- ---- worked rows

wraps_around : extended_numbers (65534 ∷ 65535 ∷ 0 ∷ 65533 ∷ []) ≡ pos 65534 ∷ pos 65535 ∷ pos 65536 ∷ pos 65533 ∷ []
wraps_around = refl

-- 32,768 above is 32,768 below; 32,767 above is above; a late number may be one below 0
half_range : extended_numbers (0 ∷ 32768 ∷ 32767 ∷ []) ≡ pos 0 ∷ negsuc 32767 ∷ pos 32767 ∷ []
half_range = refl

below_zero : low_16 (negsuc 0) ≡ 65535
below_zero = refl
