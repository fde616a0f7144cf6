use Rattle.worker_engine.specs.Run.{worker_after}
use Rattle.worker_engine.proofs.Emitted.{sound-events}
use Rattle.worker_engine.proofs.Whole.{emits-whole}
use Rattle.worker_engine.proofs.laws.consumers_emit_their_stretches.Goals as goal

pub returns : goal.returns
returns c before later e key sink there stay bytes made =
    emits-whole c.emissions_are_of_the_whole_list.ensures (worker_after before) later e key sink (sound-events before) there stay bytes made
