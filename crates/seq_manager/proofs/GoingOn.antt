-- Calls in two parts.
use Rattle.std.proofs.Common.{◌≡◌, List, [], ◌∷◌, ◌++◌, refl, ap}
use Rattle.seq_manager.specs.Calls.{Call, sync, input, state_after, answers}
use Rattle.seq_manager.specs.Numbering.{Numbering, next_stretch, output_number, numbered}

pub answers-append : (s : Numbering) (calls later : List Call) → answers s (calls ++ later) ≡ answers s calls ++ answers (state_after s calls) later
answers-append s [] later = refl
answers-append s (sync ∷ calls) later = answers-append (next_stretch s) calls later
answers-append s (input number ∷ calls) later = ap (λ rest. output_number s number ∷ rest) (answers-append (numbered s number) calls later)
