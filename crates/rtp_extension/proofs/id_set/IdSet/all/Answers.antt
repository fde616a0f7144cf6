use Rattle.std.proofs.Common.{refl}
use Rattle.rtp_extension.proofs.Tables.{each_had}
use Rattle.rtp_extension.proofs.id_set.IdSet.all.Goals as goal

pub returns : goal.returns
returns c = each_had _ refl
