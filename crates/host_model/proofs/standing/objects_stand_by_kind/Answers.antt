use Rattle.host_model.proofs.KindLemmas.{by-kind}
use Rattle.host_model.proofs.standing.objects_stand_by_kind.Goals as goal

pub returns : goal.returns
returns c = by-kind
