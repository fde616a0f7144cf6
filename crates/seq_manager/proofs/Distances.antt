-- Within a stretch the output numbers are as far apart as the sequence numbers.
use Rattle.std.proofs.Common.{◌≡◌, ℕ, ◌+◌, ◌%◌, ◌<◌, Some, List, [], ◌∷◌, map, arith, refl, ap, ◌∙◌}
use Rattle.seq_manager.specs.Calls.{input, AreSequenceNumbers, answers}
use Rattle.seq_manager.specs.Numbering.{difference, greater}
use Rattle.seq_manager.proofs.Running.{of_parts, difference_back}

-- where the first has the output number one above `least`
abbrev pub at_distance : ℕ → ℕ → ℕ → ℕ
at_distance least first number = (least + 1 + difference number first) % 65536

by_offset : (least first number : ℕ) → least < 65536 → first < 65536 → number < 65536 →
    (number + difference ((least + 1) % 65536) first) % 65536 ≡ at_distance least first number
by_offset least first number l f n = omega arith

pub answers-distances : (least first greatest : ℕ) (later : List ℕ) → least < 65536 → first < 65536 →
    AreSequenceNumbers (map input later) →
    answers (of_parts greatest (Some (difference ((least + 1) % 65536) first))) (map input later) ≡ map (at_distance least first) later
answers-distances least first greatest [] l f ok = refl
answers-distances least first greatest (number ∷ later) l f ok =
    let offset : ℕ = difference ((least + 1) % 65536) first in
    let output : ℕ = (number + offset) % 65536 in
    ap (λ n. n ∷ answers (of_parts (greater greatest output) (Some (difference output number))) (map input later))
    (by_offset least first number l f ok.0)
    ∙ ap (λ rest. at_distance least first number ∷ rest)
    (ap (λ o. answers (of_parts (greater greatest output) (Some o)) (map input later))
    (difference_back number offset ok.0 (omega arith))
    ∙ answers-distances least first (greater greatest output) later l f ok.1)
