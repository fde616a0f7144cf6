use Rattle.std.proofs.Common.{◌≡◌, ◌∷◌, ◌++◌, [], List, is_some, map, refl, sym, ap, subst, ◌∙◌}
use Rattle.simple_consumer.specs.Sending.{Sending}
use Rattle.worker_router.specs.State.{RouterState, Sink, consumer_of, producer_of, same_id, transport_of}
use Rattle.worker_router.specs.Calls.{change, sink_of, with_consumer, without}
use Rattle.worker_router.specs.Tables.{AreTables, FeedView, outlet_of, outline_of, router_of}
use Rattle.worker_router.proofs.ListLemmas.{self-same}
use Rattle.worker_router.proofs.RouterLemmas.{sink-at, source, source-attach, source-there}
use Rattle.worker_router.proofs.AddLemmas.{are-flags, attach, consumer-added, is-fed, is-free, out-again, when-err, when-ok}
use Rattle.worker_router.proofs.router.WorkerRouter.add_consumer.Goals as goal

pub invariant_of-self-then-is_err : goal.invariant_of-self-then-is_err
invariant_of-self-then-is_err c =
    let sink : Sink = sink_of c.args.transport c.args.id c.args.producer c.args.params.now c.args.mapped.now c.in_ok-flags.flags in
    let made : List Sending → Sink = λ l. record { id = c.args.id; transport = c.args.transport; producer = c.args.producer; flags = c.in_ok-flags.flags; streams = l } in
    let put : c.add.new.self ≡ c.self.inside.consumers ++ sink ∷ [] = c.in_ok-add.ensures.ok ∙ ap (λ s. c.self.inside.consumers ++ s ∷ []) (c.new-consumer.ensures ∙ ap made c.in_ok-streams.ensures) in
    let feeds = when-err c.attach.result (c.attach.new.self ≡ c.self.inside.producers) c.attach.ensures.err c.if-is_err.ensures.value in
    let free = ap is_some (sink-at c.args.self.now c.self.inside.transports c.self.inside.producers c.self.inside.consumers c.self.view_is c.args.id) ∙ is-free c.args.paused (transport_of c.args.self.now c.args.transport) (producer_of c.args.self.now c.args.producer) (is_some (consumer_of c.args.self.now c.args.id)) c.in_ok-flags.flags c.in_ok-flags.ensures.fault in
    let sinks = c.remove.ensures.state ∙ (ap (without (λ s. same_id s.id c.args.id)) put ∙ out-again c.args.id c.self.inside.consumers sink (self-same c.args.id.0) free) in
    subst (λ (both : List FeedView × List Sink). AreTables (map outline_of both.0) (map outlet_of both.1) c.self.inside.ssrcs.entries) (sym (λ j. (feeds j, sinks j))) c.self.invariant

pub returns-then-is_err-clause-err : goal.returns-then-is_err-clause-err
returns-then-is_err-clause-err c =
    let sink : Sink = sink_of c.args.transport c.args.id c.args.producer c.args.params.now c.args.mapped.now c.in_ok-flags.flags in
    let made : List Sending → Sink = λ l. record { id = c.args.id; transport = c.args.transport; producer = c.args.producer; flags = c.in_ok-flags.flags; streams = l } in
    let put : c.add.new.self ≡ c.self.inside.consumers ++ sink ∷ [] = c.in_ok-add.ensures.ok ∙ ap (λ s. c.self.inside.consumers ++ s ∷ []) (c.new-consumer.ensures ∙ ap made c.in_ok-streams.ensures) in
    let feeds = when-err c.attach.result (c.attach.new.self ≡ c.self.inside.producers) c.attach.ensures.err c.if-is_err.ensures.value in
    let free = ap is_some (sink-at c.args.self.now c.self.inside.transports c.self.inside.producers c.self.inside.consumers c.self.view_is c.args.id) ∙ is-free c.args.paused (transport_of c.args.self.now c.args.transport) (producer_of c.args.self.now c.args.producer) (is_some (consumer_of c.args.self.now c.args.id)) c.in_ok-flags.flags c.in_ok-flags.ensures.fault in
    let sinks = c.remove.ensures.state ∙ (ap (without (λ s. same_id s.id c.args.id)) put ∙ out-again c.args.id c.self.inside.consumers sink (self-same c.args.id.0) free) in
    (λ j. router_of c.self.inside.transports (feeds j) (sinks j)) ∙ c.self.view_is

pub invariant_of-self-else-is_err : goal.invariant_of-self-else-is_err
invariant_of-self-else-is_err c =
    let sink : Sink = sink_of c.args.transport c.args.id c.args.producer c.args.params.now c.args.mapped.now c.in_ok-flags.flags in
    let made : List Sending → Sink = λ l. record { id = c.args.id; transport = c.args.transport; producer = c.args.producer; flags = c.in_ok-flags.flags; streams = l } in
    let put : c.add.new.self ≡ c.self.inside.consumers ++ sink ∷ [] = c.in_ok-add.ensures.ok ∙ ap (λ s. c.self.inside.consumers ++ s ∷ []) (c.new-consumer.ensures ∙ ap made c.in_ok-streams.ensures) in
    let feeds = when-ok c.attach.result (c.attach.new.self ≡ change (λ f. same_id f.source.id c.args.producer) (attach c.args.id c.args.transport) c.self.inside.producers) c.attach.ensures.ok c.if-is_err.ensures.value in
    consumer-added c.self.inside.producers c.attach.new.self c.self.inside.consumers c.add.new.self c.self.inside.ssrcs.entries c.self.invariant sink put feeds
    (source-there c.args.self.now c.self.inside.transports c.self.inside.producers c.self.inside.consumers c.self.view_is c.args.producer ∙ is-fed c.args.paused (transport_of c.args.self.now c.args.transport) (producer_of c.args.self.now c.args.producer) (is_some (consumer_of c.args.self.now c.args.id)) c.in_ok-flags.flags c.in_ok-flags.ensures.fault) c.in_ok-add.ensures.different

pub returns-clause-ok : goal.returns-clause-ok
returns-clause-ok c =
    let sink : Sink = sink_of c.args.transport c.args.id c.args.producer c.args.params.now c.args.mapped.now c.in_ok-flags.flags in
    let made : List Sending → Sink = λ l. record { id = c.args.id; transport = c.args.transport; producer = c.args.producer; flags = c.in_ok-flags.flags; streams = l } in
    let put : c.add.new.self ≡ c.self.inside.consumers ++ sink ∷ [] = c.in_ok-add.ensures.ok ∙ ap (λ s. c.self.inside.consumers ++ s ∷ []) (c.new-consumer.ensures ∙ ap made c.in_ok-streams.ensures) in
    let feeds = when-ok c.attach.result (c.attach.new.self ≡ change (λ f. same_id f.source.id c.args.producer) (attach c.args.id c.args.transport) c.self.inside.producers) c.attach.ensures.ok c.if-is_err.ensures.value in
    let sources = ap (map source) feeds ∙ source-attach (λ f. same_id f.source.id c.args.producer) (attach c.args.id c.args.transport) (λ f. refl) c.self.inside.producers in
    let view : router_of c.self.inside.transports c.attach.new.self c.add.new.self ≡ with_consumer c.args.self.now sink =
    (λ j. record { transports = c.self.inside.transports; producers = sources j; consumers = put j }) ∙ ap (λ (q : RouterState). with_consumer q sink) c.self.view_is
    in
    (c.in_ok-flags.flags, are-flags c.args.paused (transport_of c.args.self.now c.args.transport) (producer_of c.args.self.now c.args.producer) (is_some (consumer_of c.args.self.now c.args.id)) c.in_ok-flags.flags c.in_ok-flags.ensures.fault, refl, view)
