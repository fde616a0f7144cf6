use Rattle.plain_transport.proofs.CallLemmas.{first-is}
use Rattle.plain_transport.proofs.laws.the_tuple_is_the_first.Goals as goal

pub returns : goal.returns
returns c = first-is
