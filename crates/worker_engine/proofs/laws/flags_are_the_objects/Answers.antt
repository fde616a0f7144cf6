use Rattle.worker_engine.specs.Run.{worker_after}
use Rattle.worker_engine.proofs.Emitted.{flags-are, sound-events}
use Rattle.worker_engine.proofs.laws.flags_are_the_objects.Goals as goal

pub returns : goal.returns
returns c events key r sink at there = flags-are (worker_after events) key r sink (sound-events events) at there
