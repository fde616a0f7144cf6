use Rattle.std.proofs.Common.{is_some, sym, ap, ◌∙◌}
use Rattle.worker_router.specs.Calls.{has_object}
use Rattle.worker_router.proofs.RouterLemmas.{source-there, sink-at}
use Rattle.worker_router.proofs.router.WorkerRouter.has.Goals as goal

pub returns-in-Producer : goal.returns-in-Producer
returns-in-Producer c = c.has.ensures ∙ (source-there c.args.self.now c.self.inside.transports c.self.inside.producers c.self.inside.consumers c.self.view_is c.args.id ∙ sym (ap (λ k. has_object c.args.self.now k c.args.id) c.in-Producer.is))

pub returns-in-Consumer : goal.returns-in-Consumer
returns-in-Consumer c = c.has-in-Consumer.ensures ∙ (ap is_some (sink-at c.args.self.now c.self.inside.transports c.self.inside.producers c.self.inside.consumers c.self.view_is c.args.id) ∙ sym (ap (λ k. has_object c.args.self.now k c.args.id) c.in-Consumer.is))
