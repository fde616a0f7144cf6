use Rattle.worker_engine.specs.Run.{worker_after}
use Rattle.worker_engine.proofs.Emitted.{is-of-the-calls, sound-events}
use Rattle.worker_engine.proofs.laws.emits_are_of_the_calls.Goals as goal

pub returns-clause-emits : goal.returns-clause-emits
returns-clause-emits c before later key sink there t = (is-of-the-calls (worker_after before) later key sink (sound-events before) there t).emits

pub returns-clause-streams : goal.returns-clause-streams
returns-clause-streams c before later key sink there t = (is-of-the-calls (worker_after before) later key sink (sound-events before) there t).streams
