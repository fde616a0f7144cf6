use Rattle.std.proofs.Common.{ap, ◌∙◌}
use Rattle.ms_base.specs.declared.id.Id.{Id}
use Rattle.worker_router.specs.State.{same_id}
use Rattle.worker_router.specs.Calls.{change, missing}
use Rattle.worker_router.specs.Tables.{checked, detached}
use Rattle.worker_router.proofs.RouterLemmas.{sink-at}
use Rattle.worker_router.proofs.CloseLemmas.{consumer-closed}
use Rattle.worker_router.proofs.router.WorkerRouter.close_consumer.Goals as goal

pub invariant_of-self : goal.invariant_of-self
invariant_of-self c =
    let lists = c.detach.ensures ∙ ap (λ (who : Id). change (λ f. same_id f.source.id who) (detached c.args.id) c.self.inside.producers) c.producer-producer.ensures in
    (consumer-closed c.args.self.now c.self.inside.transports c.self.inside.producers c.self.inside.consumers c.self.view_is c.self.inside.ssrcs.entries c.self.invariant c.args.id c.in-Some.consumer.now c.detach.new.self c.remove.new.self c.in-Some.ensures c.remove.ensures.state lists c.remove.ensures.different).0

pub returns-in_default-clause-fault : goal.returns-in_default-clause-fault
returns-in_default-clause-fault c = ap (λ o. checked (missing o)) (c.in_default.ensures ∙ sink-at c.args.self.now c.self.inside.transports c.self.inside.producers c.self.inside.consumers c.self.view_is c.args.id)

pub returns-clause-fault : goal.returns-clause-fault
returns-clause-fault c = ap (λ o. checked (missing o)) (c.in-Some.ensures ∙ sink-at c.args.self.now c.self.inside.transports c.self.inside.producers c.self.inside.consumers c.self.view_is c.args.id)

pub returns-clause-ok : goal.returns-clause-ok
returns-clause-ok c =
    let lists = c.detach.ensures ∙ ap (λ (who : Id). change (λ f. same_id f.source.id who) (detached c.args.id) c.self.inside.producers) c.producer-producer.ensures in
    (consumer-closed c.args.self.now c.self.inside.transports c.self.inside.producers c.self.inside.consumers c.self.view_is c.self.inside.ssrcs.entries c.self.invariant c.args.id c.in-Some.consumer.now c.detach.new.self c.remove.new.self c.in-Some.ensures c.remove.ensures.state lists c.remove.ensures.different).1
