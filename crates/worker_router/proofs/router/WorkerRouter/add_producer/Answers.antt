use Rattle.std.proofs.Common.{ℕ, ◌≡◌, ◌∷◌, ◌++◌, ◌&&◌, [], List, Option, Some, cond, find, is_some, refl, ap, ◌∙◌}
use Rattle.rtp_params.specs.Encodings.{is_own}
use Rattle.producer.specs.Ids.{element_id}
use Rattle.producer.specs.Stream.{Stream, stream_of}
use Rattle.worker_router.specs.State.{RouterState, Source, producer_of, same_id, transport_of}
use Rattle.worker_router.specs.Calls.{add_producer_fault, clashes, new_ids, source_of, with_producer}
use Rattle.worker_router.specs.Tables.{FeedView, checked, owner_in, router_of}
use Rattle.worker_router.proofs.ListLemmas.{map-push, ids-are}
use Rattle.worker_router.proofs.RouterLemmas.{clash-is, source, source-there}
use Rattle.worker_router.proofs.AddLemmas.{no-clash, not-taken, producer-added}
use Rattle.worker_router.proofs.router.WorkerRouter.add_producer.Goals as goal

pub add-requires : goal.add-requires
add-requires c =
    ap (λ (g : FeedView). is_some (find (λ (f : FeedView). same_id f.source.id g.source.id) c.self.inside.producers)) c.new-feed.ensures
    ∙ (source-there c.args.self.now c.self.inside.transports c.self.inside.producers c.self.inside.consumers c.self.view_is c.args.id ∙ not-taken (is_some (transport_of c.args.self.now c.args.transport)) (is_some (producer_of c.args.self.now c.args.id)) (clashes c.args.self.now c.args.transport c.args.params.now.encodings) c.in_ok-check_producer.field-0 (c.in_ok-check_producer.ensures ∙ ap (λ es. checked (add_producer_fault c.args.self.now c.args.transport c.args.id es)) c.as_slice-encodings.ensures))

pub invariant_of-self-2 : goal.invariant_of-self-2
invariant_of-self-2 c =
    let made : Stream → FeedView = λ s. record { source = record { id = c.args.id; transport = c.args.transport; stream = s }; consumers = [] } in
    let stream : Stream = stream_of c.args.params.now c.args.mapping.now c.in_ok-producer.producer.ids c.args.paused in
    let put : c.add.new.self ≡ c.self.inside.producers ++ made stream ∷ [] = c.in_ok-add.ensures.ok ∙ ap (λ g. c.self.inside.producers ++ g ∷ []) (c.new-feed.ensures ∙ ap made c.in_ok-producer.ensures.made) in
    let encodings = c.as_slice-encodings.ensures in
    let entries = c.reserve.ensures.entries in
    producer-added c.self.inside.producers c.add.new.self c.self.inside.consumers c.self.inside.ssrcs.entries c.insert_ssrcs.new.ssrcs.entries c.self.invariant (made stream) put refl
    (source-there c.args.self.now c.self.inside.transports c.self.inside.producers c.self.inside.consumers c.self.view_is c.args.id ∙ not-taken (is_some (transport_of c.args.self.now c.args.transport)) (is_some (producer_of c.args.self.now c.args.id)) (clashes c.args.self.now c.args.transport c.args.params.now.encodings) c.in_ok-check_producer.field-0 (c.in_ok-check_producer.ensures ∙ ap (λ es. checked (add_producer_fault c.args.self.now c.args.transport c.args.id es)) c.as_slice-encodings.ensures))
    (clash-is c.args.self.now c.self.inside.transports c.self.inside.producers c.self.inside.consumers c.self.view_is c.self.inside.ssrcs.entries c.self.invariant c.args.transport c.args.params.now.encodings ∙ no-clash (is_some (transport_of c.args.self.now c.args.transport)) (is_some (producer_of c.args.self.now c.args.id)) (clashes c.args.self.now c.args.transport c.args.params.now.encodings) c.in_ok-check_producer.field-0 (c.in_ok-check_producer.ensures ∙ ap (λ es. checked (add_producer_fault c.args.self.now c.args.transport c.args.id es)) c.as_slice-encodings.ensures))
    (λ tr s. c.insert_ssrcs.ensures.table tr s ∙ (λ j. cond (same_id c.args.transport tr && is_own (encodings j) s) (Some c.args.id.0) (owner_in (entries j) tr s)))
    c.in_ok-add.ensures.different c.insert_ssrcs.ensures.different

pub returns-clause-ok : goal.returns-clause-ok
unfolding new_ids
returns-clause-ok c =
    let made : Stream → FeedView = λ s. record { source = record { id = c.args.id; transport = c.args.transport; stream = s }; consumers = [] } in
    let stream : Stream = stream_of c.args.params.now c.args.mapping.now c.in_ok-producer.producer.ids c.args.paused in
    let put : c.add.new.self ≡ c.self.inside.producers ++ made stream ∷ [] = c.in_ok-add.ensures.ok ∙ ap (λ g. c.self.inside.producers ++ g ∷ []) (c.new-feed.ensures ∙ ap made c.in_ok-producer.ensures.made) in
    let view : router_of c.self.inside.transports c.add.new.self c.self.inside.consumers ≡ with_producer c.args.self.now (source_of c.args.transport c.args.id c.args.params.now c.args.mapping.now c.in_ok-producer.producer.ids c.args.paused) =
    ap (λ (l : List FeedView). router_of c.self.inside.transports l c.self.inside.consumers) put
    ∙ (ap (λ (ps : List Source). record { transports = c.self.inside.transports; producers = ps; consumers = c.self.inside.consumers }) (map-push source c.self.inside.producers (made stream))
    ∙ ap (λ (q : RouterState). with_producer q (source_of c.args.transport c.args.id c.args.params.now c.args.mapping.now c.in_ok-producer.producer.ids c.args.paused)) c.self.view_is)
    in
    view
    ∙ ap (λ (ids : List (Option ℕ)). with_producer c.args.self.now (source_of c.args.transport c.args.id c.args.params.now c.args.mapping.now ids c.args.paused))
    (ids-are (element_id c.args.params.now c.args.exts.now) 256 c.in_ok-producer.producer.ids c.in_ok-producer.ensures.places c.in_ok-producer.ensures.ids)
