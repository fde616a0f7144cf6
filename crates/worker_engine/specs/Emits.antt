-- What the events of a worker are to one of its Consumers, and what it emits by them. This project's own, after mediasoup's Consumers.
use Rattle.std.specs.Prelude.{◌≡◌, ℕ, List, [], ◌∷◌, ◌++◌, ◌&&◌, Bool, true, is_some, find, map, filter_map, if◌then◌else◌, Option, Some, None, option_map, option_and_then, Ok, ⊤}
use Rattle.std.specs.List.{cons_option}
use Rattle.rtp_packet.specs.Packet.{AreBytes, Fields}
use Rattle.ms_base.specs.declared.id.Id.{Id}
use Rattle.ms_base.specs.declared.tuple.Tuple.{Tuple}
use Rattle.channel_msgs.specs.Packet.{packet_in}
use Rattle.channel_msgs.specs.Read.{request_of}
use Rattle.channel_msgs.specs.View.{RequestView}
use Rattle.simple_consumer.specs.Calls.{Call, set_flags, pass}
use Rattle.pipe_consumer.specs.Streams.{passed_by}
use Rattle.worker_requests.specs.declared.asked.Asked.TheVariants as asked
use Rattle.worker_requests.specs.declared.asked.ConsumerIds.{ConsumerIds}
use Rattle.worker_requests.specs.declared.content.ConsumeContent.{ConsumeContent}
use Rattle.worker_requests.specs.Contents.{consume_content}
use Rattle.worker_requests.specs.Methods.{asked_of}
use Rattle.worker_router.specs.State.{TransportAt, Source, Sink, is_connected, same_id, consumer_of, is_of}
use Rattle.worker_calls.specs.State.{LinkAt, RouterAt, Worker, router_of, place_of}
use Rattle.worker_calls.specs.Requests.{Outgoing, new_sink, after_bound, out_bound}
use Rattle.worker_engine.specs.Packets.{Received, parsed, offer_of, accept_in, heard_at, told_learnt, received_direct, received_from, outgoing_for}
use Rattle.worker_engine.specs.Run.{Event, payload, datagram, bound, after_request_if, out_request_if, after}

-- a Consumer by the ids of its Router and of itself
pub record ConsumerKey : Type 0 where
  pub router : Id
  pub consumer : Id

-- the Consumer, where it is there
abbrev pub sink_at : Worker → ConsumerKey → Option Sink
sink_at w key = option_and_then (λ r. consumer_of r.router key.consumer) (router_of w key.router)

-- ---- the packet that an event brings

abbrev pub received_parsed : Worker → Option LinkAt → Tuple → List ℕ → Option Fields → Option Received
received_parsed w (Some l) from packet (Some f) = received_from w l.place from packet f
received_parsed w l from packet f = None

abbrev pub received_payload : Worker → Option (Id × List ℕ) → Option Received
received_payload w (Some p) = received_direct w p.0 p.1
received_payload w None = None

-- what a Producer receives by an event, if one does
abbrev pub received_at : Worker → Event → Option Received
received_at w (payload bytes) = received_payload w (packet_in bytes)
received_at w (datagram link from packet) = received_parsed w (place_of w link) from packet (parsed packet)
received_at w (bound port) = None

-- ---- the request that an event is

abbrev pub request_by : Option (Id × List ℕ) → List ℕ → Option RequestView
request_by (Some p) bytes = None
request_by None bytes = request_of bytes

abbrev pub request_at : Event → Option RequestView
request_at (payload bytes) = request_by (packet_in bytes) bytes
request_at (datagram link from packet) = None
request_at (bound port) = None

-- The event asks for this Consumer: it has the ids and the parameters of what is asked, and its streams are new ones with its flags,
-- of which nothing is numbered.
pub record IsMadeBy (e : Event) (key : ConsumerKey) (c : Sink) : Type 0 where
  pub request : RequestView
  pub ids : ConsumerIds
  pub content : ConsumeContent
  pub is_event : request_at e ≡ Some request
  pub asks : asked_of request ≡ Ok (asked.Consume ids)
  pub has : consume_content request.content ≡ Some content
  pub own_key : key ≡ record { router = ids.router; consumer = ids.consumer }
  pub new : c ≡ new_sink ids content c.flags
  pub paused : c.flags.paused ≡ content.paused

-- ---- all else that an event makes of the worker

abbrev pub settled_parsed : Worker → Option LinkAt → Tuple → Option Fields → Worker
settled_parsed w (Some l) from (Some f) = heard_at w l.place from
settled_parsed w l from f = w

abbrev pub settled_payload : Worker → Option (Id × List ℕ) → List ℕ → Worker
settled_payload w (Some p) bytes = w
settled_payload w None bytes = after_request_if w (request_of bytes)

-- the worker behind an event, before the packet that it brings is passed on: what a request makes of it, or with the tuple that is learnt
abbrev pub settled : Worker → Event → Worker
settled w (payload bytes) = settled_payload w (packet_in bytes) bytes
settled w (datagram link from packet) = settled_parsed w (place_of w link) from (parsed packet)
settled w (bound port) = after_bound w port

-- ---- what an event is to a Consumer

-- the Consumer is one of the Producer that received the packet
abbrev pub is_offered : ConsumerKey → Received → Sink → Bool
is_offered key got c = same_id key.router got.router && is_of got.producer.id c

abbrev pub passes_of : ConsumerKey → Option Received → Sink → List Call
passes_of key None c = []
passes_of key (Some got) c = if is_offered key got c then pass (offer_of got) ∷ [] else []

abbrev pub calls_of : ConsumerKey → Option Received → Option Sink → List Call
calls_of key got None = []
calls_of key got (Some c) = set_flags c.flags ∷ passes_of key got c

-- its flags are those behind the event, and then it is offered the packet that its Producer received
abbrev pub calls_at : Worker → Event → ConsumerKey → List Call
calls_at w e key = calls_of key (received_at w e) (sink_at (after w e) key)

abbrev pub calls_from : Worker → List Event → ConsumerKey → List Call
calls_from w [] key = []
calls_from w (e ∷ es) key = calls_at w e key ++ calls_from (after w e) es key

-- it is there behind each of the events
abbrev pub stays : Worker → List Event → ConsumerKey → Bool
stays w [] key = true
stays w (e ∷ es) key = is_some (sink_at (after w e) key) && stays (after w e) es key

-- ---- its flags

-- its flags are those of its transport and of its Producer, which are there
pub record FlagsAreTheirs (transports : List TransportAt) (producers : List Source) (c : Sink) : Type 0 where
  pub connected : option_map (λ t. is_connected t.transport) (find (λ t. same_id t.id c.transport) transports) ≡ Some c.flags.connected
  pub producer_paused : option_map (λ p. p.stream.paused) (find (λ p. same_id p.id c.producer) producers) ≡ Some c.flags.producer_paused

-- ---- what it emits

abbrev pub emitted_by : ConsumerKey → Option Received → Option Sink → Option (List ℕ)
emitted_by key (Some got) (Some c) = if is_offered key got c then passed_by c.streams (offer_of got) else None
emitted_by key got c = None

-- the packet that it emits by an event, if it does, before it is addressed
abbrev pub emission : Worker → Event → ConsumerKey → Option (List ℕ)
emission w e key = emitted_by key (received_at w e) (sink_at (settled w e) key)

abbrev pub emits_from : Worker → List Event → ConsumerKey → List (List ℕ)
emits_from w [] key = []
emits_from w (e ∷ es) key = cons_option (emission w e key) (emits_from (after w e) es key)

-- ---- what goes out

abbrev pub told_parsed : Worker → Option LinkAt → Tuple → Option Fields → List Outgoing
told_parsed w (Some l) from (Some f) = told_learnt (accept_in w l.place from) l.place from
told_parsed w l from f = []

abbrev pub told_payload : Worker → Option (Id × List ℕ) → List ℕ → List Outgoing
told_payload w (Some p) bytes = []
told_payload w None bytes = out_request_if w (request_of bytes)

-- what goes out by an event beside the packet that it brings
abbrev pub told_at : Worker → Event → List Outgoing
told_at w (payload bytes) = told_payload w (packet_in bytes) bytes
told_at w (datagram link from packet) = told_parsed w (place_of w link) from (parsed packet)
told_at w (bound port) = out_bound w port

-- the Router in which a packet is received by an event
abbrev pub router_at : Worker → Event → Option RouterAt
router_at w e = option_and_then (λ got. router_of (settled w e) got.router) (received_at w e)

abbrev pub key_in : RouterAt → Sink → ConsumerKey
key_in r c = record { router = r.id; consumer = c.id }

-- what the Consumers of a Router emit by an event, each packet addressed, in order of making
abbrev pub emitted_in : Worker → Event → Option RouterAt → List Outgoing
emitted_in w e None = []
emitted_in w e (Some r) = filter_map (λ c. option_map (outgoing_for (settled w e) r c) (emission w e (key_in r c))) r.router.consumers

-- ---- events as they come

-- what comes is bytes
abbrev pub IsOfBytes : Event → Type 0
IsOfBytes (payload bytes) = AreBytes bytes
IsOfBytes (datagram link from packet) = AreBytes packet
IsOfBytes (bound port) = ⊤

-- the SSRCs of which a Consumer that is asked for has streams
abbrev pub ssrcs_of : ConsumeContent → List ℕ
ssrcs_of content = map (λ e. e.ssrc) content.consumable
