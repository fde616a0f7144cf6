use Rattle.std.proofs.Common.{◌∷◌, [], take, refl}
use Rattle.worker_requests.specs.declared.notice.WorkerNotice.TheVariants.{TupleLearnt}
use Rattle.worker_requests.specs.Said.{notice_payload}
use Rattle.worker_calls.specs.Requests.{notify}
use Rattle.worker_engine.proofs.Calls.{said-stops}
use Rattle.worker_engine.proofs.forward.tell_learnt.Goals as goal

pub returns-clause-err : goal.returns-clause-err
returns-clause-err g c =
    said-stops c.channel.result (take c.frame_tuple-framed.result c.frame_tuple-framed.new.buffer) (notice_payload (TupleLearnt c.args.transport c.args.from))
    (notify (TupleLearnt c.args.transport c.args.from) ∷ [])
    (g.O.Outbox.link_faults c.args.outbox.now) (g.O.Outbox.link_faults c.channel.new.self) (g.O.Outbox.calls c.args.outbox.now) (g.O.Outbox.calls c.channel.new.self)
    refl c.frame_tuple-framed.ensures.frame c.channel.ensures.other c.channel.ensures.told
