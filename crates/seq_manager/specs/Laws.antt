-- What holds of every list of calls.
use Rattle.std.specs.Prelude.{ℕ, ◌+◌, ◌%◌, ◌<◌, ℤ, ◌≡◌, ◌↔◌, List, ◌∷◌, ◌++◌, map}
use Rattle.std.specs.List.{All}
use Rattle.seq_manager.specs.Calls.{Call, sync, input, AreSequenceNumbers, stretches, state_after, answers}
use Rattle.seq_manager.specs.Extended.{low_16, greatest_of, IsNearest, nearest, extended_numbers, AreExtended}
use Rattle.seq_manager.specs.Numbering.{Numbering, unnumbered, difference}
use Rattle.seq_manager.specs.Outputs.{output_numbers, sent_numbers}

-- the answers of a list of calls are the numbers of its stretches
abbrev pub AnswersAreSentNumbers : Type 0
AnswersAreSentNumbers = (calls : List Call) → AreSequenceNumbers calls → answers unnumbered calls ≡ sent_numbers (stretches calls)

-- the greatest number that the state keeps is the greatest output number of all, as far as 16 bits tell
abbrev pub GreatestIsOfAllOutputs : Type 0
GreatestIsOfAllOutputs =
    (calls : List Call) → AreSequenceNumbers calls →
    (state_after unnumbered calls).greatest ≡ low_16 (greatest_of (output_numbers (stretches calls)))

-- there is exactly one whole number near the greatest that is congruent to a sequence number
abbrev pub NearestIsTheOnlyOne : Type 0
NearestIsTheOnlyOne = (greatest : ℤ) (number : ℕ) (e : ℤ) → number < 65536 → (e ≡ nearest greatest number) ↔ IsNearest greatest number e

-- the extended numbers of a stretch are the only ones that are so place by place
abbrev pub ExtendedNumbersAreTheOnlyOnes : Type 0
ExtendedNumbersAreTheOnlyOnes =
    (stretch : List ℕ) (extended : List ℤ) → All (λ number. number < 65536) stretch →
    (extended ≡ extended_numbers stretch) ↔ AreExtended stretch extended

-- from any state on, a further stretch is numbered from one above the greatest so far, and each of its output numbers is as far
-- from the first as the sequence numbers are apart
abbrev pub StretchKeepsDistances : Type 0
StretchKeepsDistances =
    (s : Numbering) (first : ℕ) (later : List ℕ) → s.greatest < 65536 → first < 65536 → AreSequenceNumbers (map input later) →
    answers s (sync ∷ input first ∷ map input later)
    ≡ (s.greatest + 1) % 65536 ∷ map (λ number. (s.greatest + 1 + difference number first) % 65536) later

-- a list of calls in two parts: the second goes on from the state behind the first
abbrev pub CallsGoOn : Type 0
CallsGoOn = (s : Numbering) (calls later : List Call) → answers s (calls ++ later) ≡ answers s calls ++ answers (state_after s calls) later
