use Rattle.std.proofs.Common.{ap, ◌∷◌, ◌+◌, ◌%◌}
use Rattle.seq_manager.specs.Numbering.{greater}
use Rattle.seq_manager.proofs.Distances.{answers-distances}
use Rattle.seq_manager.proofs.laws.stretch_keeps_its_distances.Goals as goal

pub returns : goal.returns
returns c = λ s first later below below_first ok.
    ap (λ rest. (s.greatest + 1) % 65536 ∷ rest)
    (answers-distances s.greatest first (greater s.greatest ((s.greatest + 1) % 65536)) later below below_first ok)
