use Rattle.std.proofs.Common.{◌≡◌, Some, find, refl, sym, ap, ◌∙◌}
use Rattle.std.specs.Option.{option_and_then}
use Rattle.simple_consumer.specs.Sending.{offer}
use Rattle.pipe_consumer.specs.Streams.{passed_by}
use Rattle.worker_router.specs.State.{Sink, same_id}
use Rattle.worker_router.specs.Calls.{after_offer, change}
use Rattle.worker_router.specs.Tables.{FeedView}
use Rattle.worker_router.proofs.RouterLemmas.{behind-to, fed-there, passed-to}
use Rattle.worker_router.proofs.router.WorkerRouter.pass_view.Goals as goal

pub unreachable-requires-in_default-get : goal.unreachable-requires-in_default-get
unreachable-requires-in_default-get c =
    fed-there c.args.self.now c.self.inside.transports c.self.inside.producers c.self.inside.consumers c.self.view_is c.self.inside.ssrcs.entries c.self.invariant c.args.consumer c.in-Some.found.now (sym c.in-Some.ensures)
    (ap (λ i. find (λ (g : FeedView). same_id g.source.id i) c.self.inside.producers) (sym c.producer.ensures) ∙ sym c.in_default-get.ensures)

pub returns-clause-packet : goal.returns-clause-packet
returns-clause-packet c =
    c.pass.ensures.packet
    ∙ (ap (λ ids. option_and_then (λ (s : Sink). passed_by s.streams (offer c.args.mapped ids c.args.packet.now)) (find (λ s. same_id s.id c.args.consumer) c.self.inside.consumers)) c.ids-ids.ensures
    ∙ passed-to c.args.self.now c.self.inside.transports c.self.inside.producers c.self.inside.consumers c.self.view_is c.self.inside.ssrcs.entries c.self.invariant c.in-Some.found.now.producer c.in-Some-get.feed.now (ap (λ i. find (λ (g : FeedView). same_id g.source.id i) c.self.inside.producers) (sym c.producer.ensures) ∙ sym c.in-Some-get.ensures) c.args.consumer (c.in-Some.found.now, sym c.in-Some.ensures, refl) c.args.mapped c.args.packet.now)

pub returns-clause-state : goal.returns-clause-state
returns-clause-state c =
    behind-to c.args.self.now c.self.inside.transports c.self.inside.producers c.self.inside.consumers c.self.view_is c.self.inside.ssrcs.entries c.self.invariant c.in-Some.found.now.producer c.in-Some-get.feed.now (ap (λ i. find (λ (g : FeedView). same_id g.source.id i) c.self.inside.producers) (sym c.producer.ensures) ∙ sym c.in-Some-get.ensures) c.args.consumer (c.in-Some.found.now, sym c.in-Some.ensures, refl) c.args.mapped c.args.packet.now c.pass.new.self
    (c.pass.ensures.state ∙ ap (λ ids. change (λ s. same_id s.id c.args.consumer) (after_offer (Some (offer c.args.mapped ids c.args.packet.now))) c.self.inside.consumers) c.ids-ids.ensures)
