use Rattle.worker_engine.specs.Run.{worker_after}
use Rattle.worker_engine.proofs.Emitted.{is-made-by, sound-events}
use Rattle.worker_engine.proofs.laws.new_consumers_begin.Goals as goal

pub returns : goal.returns
returns c before e key sink gone there = is-made-by (worker_after before) e key sink (sound-events before) gone there
