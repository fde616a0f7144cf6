use Rattle.std.proofs.Common.{◌≡◌, Bool, Ok, Result, is_some, ap, ◌∙◌}
use Rattle.std.specs.Option.{option_map}
use Rattle.rtp_extension.specs.declared.mapped.Flags.{Flags}
use Rattle.worker_router.specs.State.{is_connected, consumer_of, producer_of, transport_of}
use Rattle.worker_router.specs.declared.fault.RouterFault.{RouterFault}
use Rattle.worker_router.proofs.RouterLemmas.{consumer-flags, sink-at, source, source-at, transport-at}
use Rattle.worker_router.proofs.router.WorkerRouter.check_consumer.Goals as goal

pub returns-in_default-get : goal.returns-in_default-get
returns-in_default-get c =
    let over = c.in-Some.ensures ∙ transport-at c.args.self.now c.self.inside.transports c.self.inside.producers c.self.inside.consumers c.self.view_is c.args.transport in
    let of = ap (option_map source) c.in_default-get.ensures ∙ source-at c.args.self.now c.self.inside.transports c.self.inside.producers c.self.inside.consumers c.self.view_is c.args.producer in
    record { fault = λ j. consumer-flags c.args.paused (over j) (of j) (is_some (consumer_of c.args.self.now c.args.id)) }

pub returns-then-has : goal.returns-then-has
returns-then-has c =
    let over = c.in-Some.ensures ∙ transport-at c.args.self.now c.self.inside.transports c.self.inside.producers c.self.inside.consumers c.self.view_is c.args.transport in
    let of = ap (option_map source) c.in-Some-get.ensures ∙ source-at c.args.self.now c.self.inside.transports c.self.inside.producers c.self.inside.consumers c.self.view_is c.args.producer in
    let taken = c.if-has.ensures ∙ ap is_some (sink-at c.args.self.now c.self.inside.transports c.self.inside.producers c.self.inside.consumers c.self.view_is c.args.id) in
    record { fault = λ j. consumer-flags c.args.paused (over j) (of j) (taken j) }

pub returns : goal.returns
returns c =
    let over = c.in-Some.ensures ∙ transport-at c.args.self.now c.self.inside.transports c.self.inside.producers c.self.inside.consumers c.self.view_is c.args.transport in
    let of = ap (option_map source) c.in-Some-get.ensures ∙ source-at c.args.self.now c.self.inside.transports c.self.inside.producers c.self.inside.consumers c.self.view_is c.args.producer in
    let taken = c.if-has.ensures ∙ ap is_some (sink-at c.args.self.now c.self.inside.transports c.self.inside.producers c.self.inside.consumers c.self.view_is c.args.id) in
    let flags : Bool → Bool → Result Flags RouterFault = λ a b. Ok (record { connected = a; paused = c.args.paused; producer_paused = b }) in
    let connected = c.is_connected.ensures ∙ ap is_connected c.transport.ensures in
    let paused = c.is_paused.ensures in
    let first : flags c.is_connected.result c.is_paused.result ≡ flags (is_connected c.in-Some.at.now.transport) c.in-Some-get.feed.now.source.stream.paused = (λ j. flags (connected j) (paused j)) in
    let rest : flags (is_connected c.in-Some.at.now.transport) c.in-Some-get.feed.now.source.stream.paused ≡ consumer-flags c.args.paused (transport_of c.args.self.now c.args.transport) (producer_of c.args.self.now c.args.producer) (is_some (consumer_of c.args.self.now c.args.id)) = (λ j. consumer-flags c.args.paused (over j) (of j) (taken j)) in
    record { fault = first ∙ rest }
