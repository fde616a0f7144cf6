-- Where a worker asks for a link it asks for nothing else, and waits for the answer; else it waits as it did.
use Rattle.std.proofs.Common.{◌≡◌, ℕ, ◌+◌, List, [], ◌∷◌, ◌++◌, Bool, true, false, not, if◌then◌else◌, nat_lt, map, filter, filter_map, is_some, option_map, Option, Some, None, Result, Ok, Err, refl, ap}
use Rattle.std.specs.Prelude.{IfSome, ⊤}
use Rattle.std.specs.List.{cons_option}
use Rattle.serde_json.specs.Data.{Data}
use Rattle.ms_base.specs.declared.id.Id.{Id}
use Rattle.ms_base.specs.declared.tuple.Tuple.{Tuple}
use Rattle.channel_msgs.specs.Read.{request_of}
use Rattle.channel_msgs.specs.View.{RequestView}
use Rattle.plain_transport.specs.declared.accept.Accept.{Accept}
use Rattle.pipe_consumer.specs.Streams.{passed_by}
use Rattle.rtp_packet.specs.Packet.{Fields}
use Rattle.rtp_params.specs.Readable.{Each}
use Rattle.worker_requests.specs.declared.accepted.Accepted.{Accepted}
use Rattle.worker_requests.specs.declared.asked.Asked.{Asked}
use Rattle.worker_requests.specs.declared.asked.Asked.TheVariants as asked
use Rattle.worker_requests.specs.declared.asked.ProducerIds.{ProducerIds}
use Rattle.worker_requests.specs.declared.asked.TransportIds.{TransportIds}
use Rattle.worker_requests.specs.declared.notice.WorkerNotice.{WorkerNotice}
use Rattle.worker_requests.specs.declared.notice.WorkerNotice.TheVariants.{ProducerClosed, ProducerPaused, ProducerResumed, TupleLearnt}
use Rattle.worker_requests.specs.declared.refusal.Refusal.{Refusal}
use Rattle.worker_requests.specs.declared.refusal.Refusal.TheVariants as refusal
use Rattle.worker_requests.specs.Contents.{plain_content, pipe_content, is_direct, connect_content, produce_content, consume_content}
use Rattle.worker_requests.specs.Methods.{asked_of}
use Rattle.worker_requests.specs.Refusals.{◌>>=◌, or_refused, refused_where}
use Rattle.worker_router.specs.Calls.{differs, clashes, is_to_be_told, is_learnt, remote_at, told_of_transport, told_of_producer}
use Rattle.worker_router.specs.State.{RouterState, Source, consumer_of, consumers_of, producer_of, transport_of}
use Rattle.worker_router.specs.declared.transport.Transport.{Transport}
use Rattle.worker_calls.specs.Requests.{Outgoing, Performed, say, bind, shut, send, notify, after_performed, out_performed, performed, comes_to, after_request, out_request, after_bound, after_bound_of, out_bound, out_bound_of, reply_if, shuts, bind_first, max_link, is_in, is_at, pause_told, pause_producer, standing_router, standing_transport, standing_producer, standing_consumer, free_for_transport}
use Rattle.worker_calls.specs.State.{Worker, Waiting, LinkAt, RouterAt, router_of, link_of, place_of}
use Rattle.worker_calls.specs.declared.place.Place.{Place}
use Rattle.worker_engine.specs.Forwarding.{after_from, out_by}
use Rattle.worker_engine.specs.Packets.{Received, accept_in, after_parsed, after_received, emission_for, emissions_at, emissions_of, heard_at, offer_of, out_parsed, outgoing_for, outgoing_to, parsed, received_direct, received_from, told_learnt}
use Rattle.worker_engine.specs.Run.{after_payload, out_payload, after_request_if, out_request_if}
use Rattle.worker_engine.specs.declared.act.PacketFrom.{PacketFrom}
use Rattle.worker_engine.specs.declared.act.PacketFrom.TheVariants as from
use Rattle.worker_serve.specs.Serving.{is_waiting}

abbrev pub IsNoBind : Outgoing → Type 0
IsNoBind (say bytes) = ⊤
IsNoBind (bind link ip) = ⊥
IsNoBind (shut link) = ⊤
IsNoBind (send link to packet) = ⊤

abbrev pub AreNoBinds : List Outgoing → Type 0
AreNoBinds outs = Each IsNoBind outs

-- what goes out as the worker comes from one state to another
pub data Asks (w v : Worker) (outs : List Outgoing) : Type 0 where
  asks : (link : ℕ) → (ip : List ℕ) → outs ≡ bind link ip ∷ [] → is_waiting v ≡ true → Asks w v outs
  asks_not : AreNoBinds outs → is_waiting v ≡ is_waiting w → Asks w v outs

-- ---- lists in which no link is asked for

no-binds-append : (xs ys : List Outgoing) → AreNoBinds xs → AreNoBinds ys → AreNoBinds (xs ++ ys)
no-binds-append [] ys a b = b
no-binds-append (x ∷ xs) ys a b = (a.0, no-binds-append xs ys a.1 b)

no-binds-map : {A : Type 0} (f : A → Outgoing) → ((a : A) → IsNoBind (f a)) → (xs : List A) → AreNoBinds (map f xs)
no-binds-map f all [] = tt
no-binds-map f all (x ∷ xs) = (all x, no-binds-map f all xs)

no-binds-reply : (id : ℕ) (told : Option Accepted) → AreNoBinds (reply_if id told)
no-binds-reply id None = tt
no-binds-reply id (Some told) = (tt, tt)

-- ---- requests

pub record AsksBy (w : Worker) (id : ℕ) (o : Result Performed Refusal) : Type 0 where
  pub asked : Asks w (after_performed w o) (out_performed id o)

first-fault :
    (w : Worker) (id : ℕ) {A : Type 0} (x : Result A Refusal) {f : A → Result Performed Refusal} → ((a : A) → AsksBy w id (f a)) → AsksBy w id (x >>= f)
first-fault w id (Ok a) next = next a
first-fault w id (Err why) next = record { asked = asks_not (tt, tt) refl }

-- it is accepted, and no link is asked for
accepts : (w : Worker) (id : ℕ) (p : Performed) → is_waiting p.worker ≡ is_waiting w → AreNoBinds p.acts → AsksBy w id (Ok p)
accepts w id p same none = record { asked = asks_not (no-binds-append p.acts (reply_if id p.reply) none (no-binds-reply id p.reply)) same }

-- what is told of a close, and the links that close
no-binds-closed : (f : Id → WorkerNotice) (cs : List Id) (w : Worker) (test : Place → Bool) → AreNoBinds (map (λ c. notify (f c)) cs ++ shuts test w)
no-binds-closed f cs w test =
    no-binds-append (map (λ c. notify (f c)) cs) (shuts test w) (no-binds-map (λ c. notify (f c)) (λ c. tt) cs)
    (no-binds-map (λ (l : LinkAt). shut l.link) (λ l. tt) (filter (λ l. test l.place) w.links))

no-binds-paused : (paused : Bool) (r : RouterState) (p : Source) → AreNoBinds (pause_told paused r p)
no-binds-paused paused r p =
    elim (differs paused p.stream.paused) as (λ b. AreNoBinds (if b then map (λ c. notify (if paused then ProducerPaused c else ProducerResumed c)) (told_of_producer r p.id) else [])) [
      | true ↦ no-binds-map (λ c. notify (if paused then ProducerPaused c else ProducerResumed c)) (λ c. tt) (told_of_producer r p.id)
      | false ↦ tt
    ]

binds-first : (w : Worker) (id : ℕ) (ids : TransportIds) (t : Transport) (ip : List ℕ) → AsksBy w id (bind_first w id ids t ip)
binds-first w id ids t ip =
    first-fault w id (refused_where (not (nat_lt w.binds max_link)) refusal.Link) (λ _. record { asked = asks (w.binds + 1) ip refl refl })

pauses : (w : Worker) (id : ℕ) (paused : Bool) (ids : ProducerIds) → AsksBy w id (pause_producer w paused ids)
pauses w id paused ids =
    first-fault w id (standing_producer w ids) (λ r. first-fault w id (or_refused refusal.Missing (producer_of r.router ids.producer))
    (λ p. accepts w id _ refl (no-binds-paused paused r.router p)))

pub performed-asks : (w : Worker) (id : ℕ) (content : Option Data) (a : Asked) → AsksBy w id (performed w id content a)
unfolding performed
performed-asks w id content (asked.CreateRouter router) = first-fault w id (refused_where (is_some (router_of w router)) refusal.Exists) (λ _. accepts w id _ refl tt)
performed-asks w id content (asked.CloseRouter router) =
    first-fault w id (standing_router w router)
    (λ r. accepts w id _ refl (no-binds-map (λ (l : LinkAt). shut l.link) (λ l. tt) (filter (λ l. is_in router l.place) w.links)))
performed-asks w id content (asked.CreatePlainTransport ids) =
    first-fault w id (free_for_transport w ids) (λ _. first-fault w id (or_refused refusal.Data (plain_content content)) (λ c. binds-first w id ids _ _))
performed-asks w id content (asked.CreatePipeTransport ids) =
    first-fault w id (free_for_transport w ids) (λ _. first-fault w id (or_refused refusal.Data (pipe_content content)) (λ c. binds-first w id ids _ _))
performed-asks w id content (asked.CreateDirectTransport ids) =
    first-fault w id (free_for_transport w ids) (λ _. first-fault w id (refused_where (not (is_direct content)) refusal.Data) (λ _. accepts w id _ refl tt))
performed-asks w id content (asked.CloseTransport ids) =
    first-fault w id (standing_transport w ids)
    (λ r. accepts w id _ refl (no-binds-closed ProducerClosed (told_of_transport r.router ids.transport) w (is_at ids)))
performed-asks w id content (asked.Connect ids) =
    first-fault w id (standing_router w ids.router) (λ r. first-fault w id (or_refused refusal.Missing (transport_of r.router ids.transport))
    (λ t. first-fault w id (or_refused refusal.Data (connect_content content)) (λ to. first-fault w id (refused_where (not (is_to_be_told t.transport)) refusal.State)
    (λ _. accepts w id _ refl tt))))
performed-asks w id content (asked.Produce ids) =
    first-fault w id (standing_router w ids.router) (λ r. first-fault w id (or_refused refusal.Missing (transport_of r.router ids.transport))
    (λ t. first-fault w id (refused_where (is_some (producer_of r.router ids.producer)) refusal.Exists) (λ _. first-fault w id (or_refused refusal.Data (produce_content content))
    (λ c. first-fault w id (refused_where (clashes r.router ids.transport c.params.encodings) refusal.Ssrc) (λ _. accepts w id _ refl tt)))))
performed-asks w id content (asked.Consume ids) =
    first-fault w id (standing_producer w (record { router = ids.router; transport = ids.transport; producer = ids.producer }))
    (λ r. first-fault w id (or_refused refusal.Missing (producer_of r.router ids.producer))
    (λ p. first-fault w id (refused_where (is_some (consumer_of r.router ids.consumer)) refusal.Exists) (λ _. first-fault w id (or_refused refusal.Data (consume_content content))
    (λ c. accepts w id _ refl tt))))
performed-asks w id content (asked.CloseProducer ids) =
    first-fault w id (standing_producer w ids)
    (λ r. accepts w id _ refl (no-binds-map (λ c. notify (ProducerClosed c)) (λ c. tt) (told_of_producer r.router ids.producer)))
performed-asks w id content (asked.PauseProducer ids) = pauses w id true ids
performed-asks w id content (asked.ResumeProducer ids) = pauses w id false ids
performed-asks w id content (asked.CloseConsumer ids) = first-fault w id (standing_consumer w ids) (λ _. accepts w id _ refl tt)
performed-asks w id content (asked.PauseConsumer ids) = first-fault w id (standing_consumer w ids) (λ _. accepts w id _ refl tt)
performed-asks w id content (asked.ResumeConsumer ids) = first-fault w id (standing_consumer w ids) (λ _. accepts w id _ refl tt)

request-asks : (w : Worker) (r : RequestView) → Asks w (after_request w r) (out_request w r)
unfolding comes_to
request-asks w r = (first-fault w r.id (asked_of r) (λ a. performed-asks w r.id r.content a)).asked

pub payload_asks : (w : Worker) (bytes : List ℕ) → Asks w (after_payload w None bytes) (out_payload w None bytes)
payload_asks w bytes =
    elim (request_of bytes) as (λ o. Asks w (after_request_if w o) (out_request_if w o)) [
      | None ↦ asks_not tt refl
      | Some r ↦ request-asks w r
    ]

-- ---- answers

bound-waits : (w : Worker) (b : Option Waiting) (port : Option ℕ) → w.waiting ≡ b → is_waiting (after_bound_of b port w) ≡ false
bound-waits w None port is = ap (λ (o : Option Waiting). is_some o) is
bound-waits w (Some b) None is = refl
bound-waits w (Some b) (Some port) is = refl

pub bound_waits : (w : Worker) (port : Option ℕ) → is_waiting (after_bound w port) ≡ false
bound_waits w port = bound-waits w w.waiting port refl

pub bound_asks_not : (w : Worker) (port : Option ℕ) → AreNoBinds (out_bound w port)
bound_asks_not w port =
    elim w.waiting as (λ b. AreNoBinds (out_bound_of b port)) [
      | None ↦ tt
      | Some b ↦ (tt, tt)
    ]

-- ---- packets

no-bind-to : (link : Option ℕ) (to : Option Tuple) (id : Id) (packet : List ℕ) → IsNoBind (outgoing_to link to id packet)
no-bind-to None to id packet = tt
no-bind-to (Some link) None id packet = tt
no-bind-to (Some link) (Some to) id packet = tt

no-binds-found : {A : Type 0} (f : A → Option Outgoing) → ((a : A) → IfSome (f a) IsNoBind) → (xs : List A) → AreNoBinds (filter_map f xs)
no-binds-found f all [] = tt
no-binds-found f all (x ∷ xs) =
    elim (f x) as (λ o. IfSome o IsNoBind → AreNoBinds (cons_option o (filter_map f xs))) [
      | None ↦ λ p. no-binds-found f all xs
      | Some out ↦ λ p. (p, no-binds-found f all xs)
    ] (all x)

if-mapped : {A B : Type 0} (P : B → Type 0) (f : A → B) → ((a : A) → P (f a)) → (o : Option A) → IfSome (option_map f o) P
if-mapped P f all None = tt
if-mapped P f all (Some a) = all a

emissions-at : (w : Worker) (got : Received) (r : Option RouterAt) → AreNoBinds (emissions_at w got r)
emissions-at w got None = tt
emissions-at w got (Some r) =
    no-binds-found (emission_for w r (offer_of got))
    (λ c. if-mapped IsNoBind (outgoing_for w r c) (no-bind-to (option_map (λ l. l.link) (link_of w (record { router = r.id; transport = c.transport }))) (remote_at r.router c.transport) c.id)
    (passed_by c.streams (offer_of got)))
    (consumers_of r.router got.producer.id)

emissions-of : (w : Worker) (got : Option Received) → AreNoBinds (emissions_of w got)
emissions-of w None = tt
emissions-of w (Some got) = emissions-at w got (router_of w got.router)

learnt-told : (answer : Option Accept) (at : Place) (from : Tuple) → AreNoBinds (told_learnt answer at from)
learnt-told answer at from =
    elim (is_learnt answer) as (λ b. AreNoBinds (if b then notify (TupleLearnt at.transport from) ∷ [] else [])) [
      | true ↦ (tt, tt)
      | false ↦ tt
    ]

received-waits : (w : Worker) (got : Option Received) → is_waiting (after_received w got) ≡ is_waiting w
received-waits w None = refl
received-waits w (Some got) = refl

parsed-asks-not : (w : Worker) (l : Option LinkAt) (from : Tuple) (packet : List ℕ) (f : Option Fields) → AreNoBinds (out_parsed w l from packet f)
parsed-asks-not w None from packet f = tt
parsed-asks-not w (Some l) from packet None = tt
parsed-asks-not w (Some l) from packet (Some f) =
    no-binds-append (told_learnt (accept_in w l.place from) l.place from) (emissions_of (heard_at w l.place from) (received_from w l.place from packet f))
    (learnt-told (accept_in w l.place from) l.place from) (emissions-of (heard_at w l.place from) (received_from w l.place from packet f))

parsed-waits : (w : Worker) (l : Option LinkAt) (from : Tuple) (packet : List ℕ) (f : Option Fields) → is_waiting (after_parsed w l from packet f) ≡ is_waiting w
parsed-waits w None from packet f = refl
parsed-waits w (Some l) from packet None = refl
parsed-waits w (Some l) from packet (Some f) = received-waits (heard_at w l.place from) (received_from w l.place from packet f)

pub packet_asks_not : (w : Worker) (by : PacketFrom) (packet : List ℕ) → AreNoBinds (out_by w by packet)
packet_asks_not w (from.Link link tuple) packet = parsed-asks-not w (place_of w link) tuple packet (parsed packet)
packet_asks_not w (from.Direct id) packet = emissions-of w (received_direct w id packet)

pub packet_waits : (w : Worker) (by : PacketFrom) (packet : List ℕ) → is_waiting (after_from w by packet) ≡ is_waiting w
packet_waits w (from.Link link tuple) packet = parsed-waits w (place_of w link) tuple packet (parsed packet)
packet_waits w (from.Direct id) packet = received-waits w (received_direct w id packet)
