-- Lists of calls of a `SeqManager`: the stretches that they make, and what the calls answer one by one.
use Rattle.std.specs.Prelude.{ℕ, ◌<◌, ◌≡◌, List, [], ◌∷◌, map, refl}
use Rattle.seq_manager.specs.Numbering.{Numbering, unnumbered, next_stretch, output_number, numbered}

pub data Call : Type 0 where
  sync : Call
  input : ℕ → Call

-- each `input` has a sequence number, which is a number of 16 bits
abbrev pub AreSequenceNumbers : List Call → Type 0
AreSequenceNumbers [] = Unit {0}
AreSequenceNumbers (sync ∷ calls) = AreSequenceNumbers calls
AreSequenceNumbers (input number ∷ calls) = (number < 65536) × AreSequenceNumbers calls

-- the numbers up to the first `sync`
abbrev pub first_stretch : List Call → List ℕ
first_stretch [] = []
first_stretch (sync ∷ calls) = []
first_stretch (input number ∷ calls) = number ∷ first_stretch calls

-- the numbers behind each `sync`, up to the next
abbrev pub later_stretches : List Call → List (List ℕ)
later_stretches [] = []
later_stretches (sync ∷ calls) = first_stretch calls ∷ later_stretches calls
later_stretches (input number ∷ calls) = later_stretches calls

-- the stretches that a list of calls makes
abbrev pub stretches : List Call → List (List ℕ)
stretches calls = first_stretch calls ∷ later_stretches calls

-- the state behind a list of calls
abbrev pub state_after : Numbering → List Call → Numbering
state_after s [] = s
state_after s (sync ∷ calls) = state_after (next_stretch s) calls
state_after s (input number ∷ calls) = state_after (numbered s number) calls

-- what its `input` calls answer
abbrev pub answers : Numbering → List Call → List ℕ
answers s [] = []
answers s (sync ∷ calls) = answers (next_stretch s) calls
answers s (input number ∷ calls) = output_number s number ∷ answers (numbered s number) calls

-- ---- worked rows

parts : stretches (input 7 ∷ input 8 ∷ sync ∷ sync ∷ input 9 ∷ []) ≡ (7 ∷ 8 ∷ []) ∷ [] ∷ (9 ∷ []) ∷ []
parts = refl

wraps_around : answers unnumbered (map input (65534 ∷ 65535 ∷ 0 ∷ 65533 ∷ [])) ≡ 1 ∷ 2 ∷ 3 ∷ 0 ∷ []
wraps_around = refl

goes_on : answers unnumbered (input 10 ∷ input 14 ∷ input 12 ∷ sync ∷ input 900 ∷ []) ≡ 1 ∷ 5 ∷ 3 ∷ 6 ∷ []
goes_on = refl
