use Rattle.std.proofs.Common.{subst}
use Rattle.std.proofs.Common.{ℤ, sym}
use Rattle.seq_manager.specs.Extended.{IsNearest}
use Rattle.seq_manager.proofs.Modulo.{nearest_is, nearest_only}
use Rattle.seq_manager.proofs.laws.extended_numbers_are_nearest.Goals as goal

pub returns : goal.returns
returns c = λ greatest number e below.
    (λ same. let P : ℤ → Type 0 = IsNearest greatest number in subst P (sym same) (nearest_is greatest number below), nearest_only greatest number e)
