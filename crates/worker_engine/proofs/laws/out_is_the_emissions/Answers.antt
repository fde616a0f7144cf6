use Rattle.worker_engine.specs.Run.{worker_after}
use Rattle.worker_engine.proofs.Emitted.{sound-events}
use Rattle.worker_engine.proofs.Outs.{out-is-emissions}
use Rattle.worker_engine.proofs.laws.out_is_the_emissions.Goals as goal

pub returns : goal.returns
returns c before e = out-is-emissions (worker_after before) e (sound-events before)
