-- What a request comes to: the first reason against it in the order `missing`, `exists`, `data`, `state`, `ssrc`, `link`, or what it makes of
-- the worker, what goes out before its reply, and what the reply tells. This project's own, after mediasoup.
use Rattle.std.specs.Prelude.{ℕ, ◌+◌, ◌==◌, ◌&&◌, ◌||◌, List, [], ◌∷◌, ◌++◌, Bool, true, false, not, map, filter, is_some, nat_lt, if◌then◌else◌, Option, Some, None, option_map, option_and_then, find, Result, Ok, Err}
use Rattle.serde_json.specs.Data.{Data}
use Rattle.ms_base.specs.declared.id.Id.{Id}
use Rattle.ms_base.specs.declared.tuple.Tuple.{Tuple}
use Rattle.channel_msgs.specs.View.{RequestView}
use Rattle.plain_transport.specs.Connection.{unconnected}
use Rattle.rtp_extension.specs.declared.mapped.Flags.{Flags}
use Rattle.rtp_params.specs.Table.{sent_exts}
use Rattle.worker_requests.specs.declared.content.ConsumeContent.{ConsumeContent}
use Rattle.worker_requests.specs.declared.accepted.Accepted.{Accepted}
use Rattle.worker_requests.specs.declared.accepted.Accepted.TheVariants.{Done, Local, Remote, Consumed}
use Rattle.worker_requests.specs.declared.asked.TransportIds.{TransportIds}
use Rattle.worker_requests.specs.declared.asked.ProducerIds.{ProducerIds}
use Rattle.worker_requests.specs.declared.asked.ConsumerIds.{ConsumerIds}
use Rattle.worker_requests.specs.declared.asked.Asked.{Asked}
use Rattle.worker_requests.specs.declared.asked.Asked.TheVariants as asked
use Rattle.worker_requests.specs.declared.notice.WorkerNotice.{WorkerNotice}
use Rattle.worker_requests.specs.declared.notice.WorkerNotice.TheVariants.{ProducerClosed, ProducerPaused, ProducerResumed}
use Rattle.worker_requests.specs.declared.refusal.Refusal.{Refusal}
use Rattle.worker_requests.specs.declared.refusal.Refusal.TheVariants as refusal
use Rattle.worker_requests.specs.Contents.{plain_content, pipe_content, is_direct, connect_content, produce_content, consume_content}
use Rattle.worker_requests.specs.Methods.{asked_of}
use Rattle.worker_requests.specs.Refusals.{or_refused, refused_where, ◌>>=◌}
use Rattle.worker_requests.specs.Said.{answer_payload, notice_payload, produced}
use Rattle.worker_router.specs.State.{RouterState, Source, Sink, nothing_yet, same_id, transport_of, producer_of, consumer_of}
use Rattle.worker_router.specs.Calls.{differs, with_transport, with_producer, with_consumer, clashes, is_to_be_told, connected_to, first_flags_at, new_source, sink_of, with_producer_paused, with_consumer_paused, told_of_transport, told_of_producer, without_transport, without_producer, without_consumer}
use Rattle.worker_router.specs.declared.transport.Transport.{Transport}
use Rattle.worker_router.specs.declared.transport.Transport.TheVariants as transport
use Rattle.worker_calls.specs.State.{RouterAt, Place, LinkAt, ProducerKey, Waiting, Worker, router_of, same_place, change_router}

-- what goes out: a payload on the channel, a socket that is to be opened at an address or to be closed, a packet through a socket
pub data Outgoing : Type 0 where
  say : List ℕ → Outgoing
  bind : (link : ℕ) → (ip : List ℕ) → Outgoing
  shut : (link : ℕ) → Outgoing
  send : (link : ℕ) → (to : Tuple) → List ℕ → Outgoing

-- what an accepted request comes to
pub record Performed : Type 0 where
  pub worker : Worker
  -- what goes out before the reply
  pub acts : List Outgoing
  -- what the reply tells; where a link is to be bound it comes behind that
  pub reply : Option Accepted

abbrev pub done : Worker → Performed
done w = record { worker = w; acts = []; reply = Some Done }

abbrev pub telling : Accepted → Worker → Performed
telling told w = record { worker = w; acts = []; reply = Some told }

abbrev pub notify : WorkerNotice → Outgoing
notify notice = say (notice_payload notice)

-- ---- what must be there: each object that the request names, in the Router that it names

abbrev pub standing_router : Worker → Id → Result RouterAt Refusal
standing_router w id = or_refused refusal.Missing (router_of w id)

abbrev pub standing_transport : Worker → TransportIds → Result RouterAt Refusal
standing_transport w ids = do
  r ← standing_router w ids.router
  _ ← or_refused refusal.Missing (transport_of r.router ids.transport)
  Ok r

abbrev pub standing_producer : Worker → ProducerIds → Result RouterAt Refusal
standing_producer w ids = do
  r ← standing_transport w (record { router = ids.router; transport = ids.transport })
  _ ← or_refused refusal.Missing (producer_of r.router ids.producer)
  Ok r

abbrev pub standing_consumer : Worker → ConsumerIds → Result RouterAt Refusal
standing_consumer w ids = do
  r ← standing_producer w (record { router = ids.router; transport = ids.transport; producer = ids.producer })
  _ ← or_refused refusal.Missing (consumer_of r.router ids.consumer)
  Ok r

-- ---- Routers

abbrev pub create_router : Worker → Id → Result Performed Refusal
create_router w id = do
  _ ← refused_where (is_some (router_of w id)) refusal.Exists
  Ok (done (record w { routers = w.routers ++ record { id = id; router = nothing_yet } ∷ [] }))

abbrev pub is_in : Id → Place → Bool
is_in router place = same_id place.router router

-- the links of some transports close, in order of making
abbrev pub shuts : (Place → Bool) → Worker → List Outgoing
shuts test w = map (λ l. shut l.link) (filter (λ l. test l.place) w.links)

abbrev pub without_router : Worker → Id → Worker
without_router w id = record w {
  routers = filter (λ r. not (same_id r.id id)) w.routers;
  links = filter (λ l. not (is_in id l.place)) w.links;
  directs = filter (λ key. not (same_id key.router id)) w.directs;
}

abbrev pub close_router : Worker → Id → Result Performed Refusal
close_router w id = do
  _ ← standing_router w id
  Ok (record { worker = without_router w id; acts = shuts (is_in id) w; reply = Some Done })

-- ---- transports

abbrev pub place : TransportIds → Place
place ids = record { router = ids.router; transport = ids.transport }

-- a Router in which the id of a new transport is free
abbrev pub free_for_transport : Worker → TransportIds → Result RouterAt Refusal
free_for_transport w ids = do
  r ← standing_router w ids.router
  _ ← refused_where (is_some (transport_of r.router ids.transport)) refusal.Exists
  Ok r

abbrev pub max_link : ℕ
max_link = 4294967295

-- its link is bound first, under the next number
abbrev pub bind_first : Worker → ℕ → TransportIds → Transport → List ℕ → Result Performed Refusal
bind_first w request ids t ip = do
  _ ← refused_where (not (nat_lt w.binds max_link)) refusal.Link
  Ok (record {
    worker = record w {
      binds = w.binds + 1;
      waiting = Some (record { link = w.binds + 1; request = request; place = place ids; transport = t; ip = ip });
    };
    acts = bind (w.binds + 1) ip ∷ [];
    reply = None;
  })

abbrev pub create_plain : Worker → ℕ → Option Data → TransportIds → Result Performed Refusal
create_plain w request content ids = do
  _ ← free_for_transport w ids
  c ← or_refused refusal.Data (plain_content content)
  bind_first w request ids (transport.Plain (unconnected c.comedia)) c.ip

abbrev pub create_pipe : Worker → ℕ → Option Data → TransportIds → Result Performed Refusal
create_pipe w request content ids = do
  _ ← free_for_transport w ids
  c ← or_refused refusal.Data (pipe_content content)
  bind_first w request ids (transport.Pipe None) c.ip

abbrev pub add_transport : Worker → Place → Transport → Worker
add_transport w at t = change_router at.router (λ r. with_transport r at.transport t) w

abbrev pub create_direct : Worker → Option Data → TransportIds → Result Performed Refusal
create_direct w content ids = do
  _ ← free_for_transport w ids
  _ ← refused_where (not (is_direct content)) refusal.Data
  Ok (done (add_transport w (place ids) (transport.Direct (record {}))))

abbrev pub is_at : TransportIds → Place → Bool
is_at ids at = same_place at (place ids)

-- a Producer stands in a Router
abbrev pub has_producer : List RouterAt → Id → Id → Bool
has_producer routers router producer =
    is_some (option_and_then (λ r. producer_of r.router producer) (find (λ r. same_id r.id router) routers))

abbrev pub stands_in : List RouterAt → ProducerKey → Bool
stands_in routers key = has_producer routers key.router key.producer

-- of the direct Producers those that still stand
abbrev pub with_standing : Worker → Worker
with_standing w = record w { directs = filter (stands_in w.routers) w.directs }

abbrev pub close_transport : Worker → TransportIds → Result Performed Refusal
close_transport w ids = do
  r ← standing_transport w ids
  Ok (record {
    worker = with_standing (record (change_router ids.router (λ s. without_transport s ids.transport) w) {
      links = filter (λ l. not (is_at ids l.place)) w.links;
    });
    acts = map (λ c. notify (ProducerClosed c)) (told_of_transport r.router ids.transport) ++ shuts (is_at ids) w;
    reply = Some Done;
  })

abbrev pub connect : Worker → Option Data → TransportIds → Result Performed Refusal
connect w content ids = do
  r ← standing_router w ids.router
  t ← or_refused refusal.Missing (transport_of r.router ids.transport)
  to ← or_refused refusal.Data (connect_content content)
  _ ← refused_where (not (is_to_be_told t.transport)) refusal.State
  Ok (telling (Remote to) (change_router ids.router (λ s. connected_to s ids.transport to) w))

-- ---- Producers

abbrev pub is_direct_transport : Transport → Bool
is_direct_transport (transport.Direct _) = true
is_direct_transport other = false

abbrev pub produce : Worker → Option Data → ProducerIds → Result Performed Refusal
produce w content ids = do
  r ← standing_router w ids.router
  t ← or_refused refusal.Missing (transport_of r.router ids.transport)
  _ ← refused_where (is_some (producer_of r.router ids.producer)) refusal.Exists
  c ← or_refused refusal.Data (produce_content content)
  _ ← refused_where (clashes r.router ids.transport c.params.encodings) refusal.Ssrc
  Ok (telling (produced c.params) (record (change_router ids.router
      (λ s. with_producer s (new_source ids.transport ids.producer c.params c.mapping (sent_exts c.media) c.paused)) w) {
        directs = if is_direct_transport t.transport
            then w.directs ++ record { router = ids.router; producer = ids.producer } ∷ [] else w.directs;
      }))

abbrev pub close_producer : Worker → ProducerIds → Result Performed Refusal
close_producer w ids = do
  r ← standing_producer w ids
  Ok (record {
    worker = with_standing (change_router ids.router (λ s. without_producer s ids.producer) w);
    acts = map (λ c. notify (ProducerClosed c)) (told_of_producer r.router ids.producer);
    reply = Some Done;
  })

-- its Consumers are told where the flag changes
abbrev pub pause_told : Bool → RouterState → Source → List Outgoing
pause_told paused r p =
    if differs paused p.stream.paused
    then map (λ c. notify (if paused then ProducerPaused c else ProducerResumed c)) (told_of_producer r p.id)
    else []

abbrev pub pause_producer : Worker → Bool → ProducerIds → Result Performed Refusal
pause_producer w paused ids = do
  r ← standing_producer w ids
  p ← or_refused refusal.Missing (producer_of r.router ids.producer)
  Ok (record {
    worker = change_router ids.router (λ s. with_producer_paused s ids.producer paused) w;
    acts = pause_told paused r.router p;
    reply = Some Done;
  })

-- ---- Consumers

-- a Consumer that has sent nothing yet begins with the flags of its transport and its Producer
abbrev pub new_sink : ConsumerIds → ConsumeContent → Flags → Sink
new_sink ids c flags = sink_of ids.transport ids.consumer ids.producer c.params (map (λ e. e.ssrc) c.consumable) flags

abbrev pub with_any_sink : Option Sink → RouterState → RouterState
with_any_sink None r = r
with_any_sink (Some c) r = with_consumer r c

abbrev pub with_new_consumer : ConsumerIds → ConsumeContent → RouterState → RouterState
with_new_consumer ids c r = with_any_sink (option_map (new_sink ids c) (first_flags_at r ids.transport ids.producer c.paused)) r

abbrev pub consume : Worker → Option Data → ConsumerIds → Result Performed Refusal
consume w content ids = do
  r ← standing_producer w (record { router = ids.router; transport = ids.transport; producer = ids.producer })
  p ← or_refused refusal.Missing (producer_of r.router ids.producer)
  _ ← refused_where (is_some (consumer_of r.router ids.consumer)) refusal.Exists
  c ← or_refused refusal.Data (consume_content content)
  Ok (telling (Consumed c.paused p.stream.paused) (change_router ids.router (with_new_consumer ids c) w))

abbrev pub close_consumer : Worker → ConsumerIds → Result Performed Refusal
close_consumer w ids = do
  _ ← standing_consumer w ids
  Ok (done (change_router ids.router (λ s. without_consumer s ids.consumer) w))

abbrev pub pause_consumer : Worker → Bool → ConsumerIds → Result Performed Refusal
pause_consumer w paused ids = do
  _ ← standing_consumer w ids
  Ok (done (change_router ids.router (λ s. with_consumer_paused s ids.consumer paused) w))

-- ---- the table

unfoldable pub performed : Worker → ℕ → Option Data → Asked → Result Performed Refusal
performed w request content (asked.CreateRouter id) = create_router w id
performed w request content (asked.CloseRouter id) = close_router w id
performed w request content (asked.CreatePlainTransport ids) = create_plain w request content ids
performed w request content (asked.CreatePipeTransport ids) = create_pipe w request content ids
performed w request content (asked.CreateDirectTransport ids) = create_direct w content ids
performed w request content (asked.CloseTransport ids) = close_transport w ids
performed w request content (asked.Connect ids) = connect w content ids
performed w request content (asked.Produce ids) = produce w content ids
performed w request content (asked.Consume ids) = consume w content ids
performed w request content (asked.CloseProducer ids) = close_producer w ids
performed w request content (asked.PauseProducer ids) = pause_producer w true ids
performed w request content (asked.ResumeProducer ids) = pause_producer w false ids
performed w request content (asked.CloseConsumer ids) = close_consumer w ids
performed w request content (asked.PauseConsumer ids) = pause_consumer w true ids
performed w request content (asked.ResumeConsumer ids) = pause_consumer w false ids

-- what a request comes to: `method` and `internal` come first
unfoldable pub comes_to : Worker → RequestView → Result Performed Refusal
comes_to w r = asked_of r >>= performed w r.id r.content

-- ---- the worker behind a request, and what goes out by it

abbrev pub after_performed : Worker → Result Performed Refusal → Worker
after_performed w (Ok p) = p.worker
after_performed w (Err why) = w

abbrev pub after_request : Worker → RequestView → Worker
after_request w r = after_performed w (comes_to w r)

abbrev pub reply_if : ℕ → Option Accepted → List Outgoing
reply_if request None = []
reply_if request (Some told) = say (answer_payload request (Ok told)) ∷ []

abbrev pub out_performed : ℕ → Result Performed Refusal → List Outgoing
out_performed request (Ok p) = p.acts ++ reply_if request p.reply
out_performed request (Err why) = say (answer_payload request (Err why)) ∷ []

abbrev pub out_request : Worker → RequestView → List Outgoing
out_request w r = out_performed r.id (comes_to w r)

-- ---- a link that was to be bound: its port, or none where that failed

abbrev pub made_bound : Waiting → Worker → Worker
made_bound b w = record (add_transport w b.place b.transport) { links = w.links ++ record { link = b.link; place = b.place } ∷ []; waiting = None }

abbrev pub after_bound_of : Option Waiting → Option ℕ → Worker → Worker
after_bound_of None port w = w
after_bound_of (Some b) None w = record w { waiting = None }
after_bound_of (Some b) (Some port) w = made_bound b w

abbrev pub after_bound : Worker → Option ℕ → Worker
after_bound w port = after_bound_of w.waiting port w

abbrev pub bound_answer : Waiting → Option ℕ → Result Accepted Refusal
bound_answer b None = Err refusal.Link
bound_answer b (Some port) = Ok (Local (record { ip = b.ip; port = port }))

abbrev pub out_bound_of : Option Waiting → Option ℕ → List Outgoing
out_bound_of None port = []
out_bound_of (Some b) port = say (answer_payload b.request (bound_answer b port)) ∷ []

abbrev pub out_bound : Worker → Option ℕ → List Outgoing
out_bound w port = out_bound_of w.waiting port
