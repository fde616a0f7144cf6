use Rattle.std.proofs.Common.{find, sym, ap, ◌∙◌}
use Rattle.ms_base.specs.declared.id.Id.{Id}
use Rattle.worker_router.specs.State.{same_id}
use Rattle.worker_router.specs.Tables.{FeedView}
use Rattle.worker_router.proofs.RouterLemmas.{comes-none, comes-some}
use Rattle.worker_router.proofs.router.WorkerRouter.comes_by.Goals as goal

pub returns-in-Some : goal.returns-in-Some
returns-in-Some c =
    let same = comes-some c.args.self.now c.self.inside.transports c.self.inside.producers c.self.inside.consumers c.self.view_is c.self.inside.ssrcs.entries c.self.invariant c.args.transport c.args.consumer.now c.in-Some.feed.now
    (sym (c.in-Some.ensures ∙ ap (λ (i : Id). find (λ (f : FeedView). same_id f.source.id i) c.self.inside.producers) c.producer.ensures)) in
    c.eq.ensures ∙ (ap (λ (i : Id). same_id i c.args.transport) c.transport.ensures ∙ same)

pub returns-in-None : goal.returns-in-None
returns-in-None c =
    comes-none c.args.self.now c.self.inside.transports c.self.inside.producers c.self.inside.consumers c.self.view_is c.self.inside.ssrcs.entries c.self.invariant c.args.transport c.args.consumer.now
    (sym (c.in-None.ensures ∙ ap (λ (i : Id). find (λ (f : FeedView). same_id f.source.id i) c.self.inside.producers) c.producer.ensures))
