use Rattle.std.proofs.Common.{◌≡◌, None, Some, rules, find, option_map, slice_get, sym, ap, ◌∙◌}
use Rattle.std.specs.Option.{option_and_then}
use Rattle.simple_consumer.specs.Sending.{offer}
use Rattle.pipe_consumer.specs.Streams.{passed_by}
use Rattle.worker_router.specs.State.{Sink, same_id}
use Rattle.worker_router.specs.Calls.{after_offer, change}
use Rattle.worker_router.specs.Tables.{FeedView, router_of}
use Rattle.worker_router.specs.declared.packets.Passed.{Passed}
use Rattle.worker_router.proofs.RouterLemmas.{consumers-at, passed-to, behind-to, to-is}
use Rattle.worker_router.proofs.router.WorkerRouter.pass_to.Goals as goal

pub returns-in_err-feed-clause-to : goal.returns-in_err-feed-clause-to
returns-in_err-feed-clause-to c =
    let none : c.from_residual.result ≡ None = search rules in
    ap (option_map (λ (p : Passed). (p.consumer, p.transport))) none
    ∙ (ap (option_and_then (λ (f : FeedView). slice_get f.consumers c.args.place)) c.in_err-feed.ensures ∙ consumers-at c.args.self.now c.self.inside.transports c.self.inside.producers c.self.inside.consumers c.self.view_is c.self.inside.ssrcs.entries c.self.invariant c.args.producer c.args.place)

pub returns-in_err-to-clause-to : goal.returns-in_err-to-clause-to
returns-in_err-to-clause-to c =
    let none : c.from_residual-in_err-to.result ≡ None = search rules in
    ap (option_map (λ (p : Passed). (p.consumer, p.transport))) none
    ∙ (c.in_err-to.ensures.value
    ∙ (ap (option_and_then (λ (f : FeedView). slice_get f.consumers c.args.place)) c.in_ok-feed.ensures ∙ consumers-at c.args.self.now c.self.inside.transports c.self.inside.producers c.self.inside.consumers c.self.view_is c.self.inside.ssrcs.entries c.self.invariant c.args.producer c.args.place))

pub returns-clause-to : goal.returns-clause-to
returns-clause-to c =
    let to : (c.consumer-consumer.result, c.transport-transport.result) ≡ c.in_ok-to.to.now = (λ j. (c.consumer-consumer.ensures j, c.transport-transport.ensures j)) in
    ap Some to
    ∙ (c.in_ok-to.ensures.value
    ∙ (ap (option_and_then (λ (f : FeedView). slice_get f.consumers c.args.place)) c.in_ok-feed.ensures ∙ consumers-at c.args.self.now c.self.inside.transports c.self.inside.producers c.self.inside.consumers c.self.view_is c.self.inside.ssrcs.entries c.self.invariant c.args.producer c.args.place))

pub returns-clause-packet : goal.returns-clause-packet
returns-clause-packet c =
    let to : (c.consumer-consumer.result, c.transport-transport.result) ≡ c.in_ok-to.to.now = (λ j. (c.consumer-consumer.ensures j, c.transport-transport.ensures j)) in
    c.pass-length.ensures.packet
    ∙ (ap (λ ids. option_and_then (λ (s : Sink). passed_by s.streams (offer c.args.mapped ids c.args.packet.now)) (find (λ s. same_id s.id c.consumer-consumer.result) c.self.inside.consumers)) c.ids.ensures
    ∙ passed-to c.args.self.now c.self.inside.transports c.self.inside.producers c.self.inside.consumers c.self.view_is c.self.inside.ssrcs.entries c.self.invariant c.args.producer c.in_ok-feed.feed.now (sym c.in_ok-feed.ensures) c.consumer-consumer.result
    (to-is c.args.self.now c.self.inside.transports c.self.inside.producers c.self.inside.consumers c.self.view_is c.self.inside.ssrcs.entries c.self.invariant c.args.producer c.in_ok-feed.feed.now (sym c.in_ok-feed.ensures) c.args.place (c.consumer-consumer.result, c.transport-transport.result) (sym c.in_ok-to.ensures.value ∙ ap Some (sym to))) c.args.mapped c.args.packet.now)

pub returns-clause-state : goal.returns-clause-state
returns-clause-state c =
    let to : (c.consumer-consumer.result, c.transport-transport.result) ≡ c.in_ok-to.to.now = (λ j. (c.consumer-consumer.ensures j, c.transport-transport.ensures j)) in
    ap (λ feeds. router_of c.self.inside.transports feeds c.pass-length.new.self) c.note_move.ensures
    ∙ behind-to c.args.self.now c.self.inside.transports c.self.inside.producers c.self.inside.consumers c.self.view_is c.self.inside.ssrcs.entries c.self.invariant c.args.producer c.in_ok-feed.feed.now (sym c.in_ok-feed.ensures) c.consumer-consumer.result
    (to-is c.args.self.now c.self.inside.transports c.self.inside.producers c.self.inside.consumers c.self.view_is c.self.inside.ssrcs.entries c.self.invariant c.args.producer c.in_ok-feed.feed.now (sym c.in_ok-feed.ensures) c.args.place (c.consumer-consumer.result, c.transport-transport.result) (sym c.in_ok-to.ensures.value ∙ ap Some (sym to))) c.args.mapped c.args.packet.now c.pass-length.new.self
    (c.pass-length.ensures.state ∙ ap (λ ids. change (λ s. same_id s.id c.consumer-consumer.result) (after_offer (Some (offer c.args.mapped ids c.args.packet.now))) c.self.inside.consumers) c.ids.ensures)
