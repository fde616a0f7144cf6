use Rattle.host_laws.proofs.StreamLemmas.{streams-stand}
use Rattle.host_laws.proofs.steps.streams_stand.Goals as goal

pub returns : goal.returns
returns c = streams-stand
