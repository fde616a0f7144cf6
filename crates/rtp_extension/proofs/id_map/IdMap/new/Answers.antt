use Rattle.std.proofs.Common.{refl}
use Rattle.rtp_extension.proofs.Tables.{none_set, empty_table}
use Rattle.rtp_extension.proofs.id_map.IdMap.new.Goals as goal

pub invariant_of-result : goal.invariant_of-result
invariant_of-result c = empty_table 256 _ refl refl

pub returns : goal.returns
returns c = none_set 256 _ refl
