-- Output numbers: this project's own. Each stretch is numbered on from the greatest output number before it, and keeps its
-- distances; all numbers are whole numbers, of which 16 bits are sent.
use Rattle.std.specs.Prelude.{ℕ, ℤ, pos, negsuc, ◌+ℤ◌, ◌-ℤ◌, ◌≡◌, List, [], ◌∷◌, ◌++◌, map, refl}
use Rattle.seq_manager.specs.Extended.{low_16, greatest_of, extended_numbers}

-- the output number of an extended number e of a stretch: e - e1 + 1 + G, where e1 is the stretch's first and G, `before`, is the
-- greatest output number of the earlier stretches
abbrev pub output_of : ℤ → ℤ → ℤ → ℤ
output_of before e1 e = ((e -ℤ e1) +ℤ pos 1) +ℤ before

-- the output numbers of one stretch
abbrev pub outputs_of_stretch : ℤ → List ℕ → List ℤ
outputs_of_stretch before [] = []
outputs_of_stretch before (first ∷ later) = map (output_of before (pos first)) (extended_numbers (first ∷ later))

-- the output numbers of stretches, behind those that have the output numbers `earlier`
abbrev pub outputs_after : List ℤ → List (List ℕ) → List ℤ
outputs_after earlier [] = []
outputs_after earlier (stretch ∷ later) =
    let outputs = outputs_of_stretch (greatest_of earlier) stretch in
    outputs ++ outputs_after (earlier ++ outputs) later

-- the output numbers of a list of stretches, each a list of sequence numbers
abbrev pub output_numbers : List (List ℕ) → List ℤ
output_numbers stretches = outputs_after [] stretches

-- what is sent of them
abbrev pub sent_numbers : List (List ℕ) → List ℕ
sent_numbers stretches = map low_16 (output_numbers stretches)

-- ---- worked rows

late_packet : sent_numbers ((65534 ∷ 65535 ∷ 0 ∷ 65533 ∷ []) ∷ []) ≡ 1 ∷ 2 ∷ 3 ∷ 0 ∷ []
late_packet = refl

-- the next stretch goes on from the greatest output number, not from the last
goes_on : sent_numbers ((10 ∷ 14 ∷ 12 ∷ []) ∷ (900 ∷ 901 ∷ []) ∷ []) ≡ 1 ∷ 5 ∷ 3 ∷ 6 ∷ 7 ∷ []
goes_on = refl

-- a stretch with no number changes nothing
empty_stretch : sent_numbers ((7 ∷ []) ∷ [] ∷ [] ∷ (7 ∷ []) ∷ []) ≡ 1 ∷ 2 ∷ []
empty_stretch = refl

-- a late number's output may be below 0
below_zero : output_numbers ((10 ∷ 8 ∷ []) ∷ []) ≡ pos 1 ∷ negsuc 0 ∷ []
below_zero = refl
