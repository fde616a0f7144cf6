use Rattle.request_contents.proofs.MethodLemmas.{asked_back}
use Rattle.request_contents.proofs.laws.what_is_asked_is_read.Goals as goal

pub returns : goal.returns
returns c = asked_back
