use Rattle.host_model.proofs.RunLemmas.{running-up}
use Rattle.host_model.proofs.standing.running_workers_are_up.Goals as goal

pub returns : goal.returns
returns c = running-up c.built_objects_are_new.ensures.calls
