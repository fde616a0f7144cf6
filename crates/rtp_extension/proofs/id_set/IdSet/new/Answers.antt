use Rattle.std.proofs.Common.{refl}
use Rattle.rtp_extension.proofs.Tables.{nothing_had}
use Rattle.rtp_extension.proofs.id_set.IdSet.new.Goals as goal

pub returns : goal.returns
returns c = nothing_had 256 _ refl
