-- What becomes of a packet that comes to a worker: the transport by which it came takes it or not, the Producer that it is one of receives
-- it, and each Consumer of that sends on what it passes. This project's own, after mediasoup.
use Rattle.std.specs.Prelude.{ℕ, List, [], ◌∷◌, ◌++◌, length, Bool, true, false, nat_le, filter_map, is_some, if◌then◌else◌, Option, Some, None, option_map, option_and_then}
use Rattle.rtp_packet.specs.Fault.{fault_of}
use Rattle.rtp_packet.specs.Packet.{Fields}
use Rattle.rtp_packet.specs.Reading.{fields_of}
use Rattle.rtp_extension.specs.declared.mapped.Mapped.{Mapped}
use Rattle.ms_base.specs.declared.id.Id.{Id}
use Rattle.ms_base.specs.declared.tuple.Tuple.{Tuple}
use Rattle.channel_msgs.specs.Packet.{packet_payload}
use Rattle.plain_transport.specs.declared.accept.Accept.{Accept}
use Rattle.plain_transport.specs.declared.accept.Accept.TheVariants as accept
use Rattle.simple_consumer.specs.Sending.{Offer, offer}
use Rattle.pipe_consumer.specs.Streams.{passed_by, behind_offer}
use Rattle.worker_requests.specs.declared.notice.WorkerNotice.TheVariants.{TupleLearnt}
use Rattle.worker_router.specs.State.{RouterState, Source, Sink, producer_of, consumers_of, is_of}
use Rattle.worker_router.specs.Calls.{accept_at, behind_accept, is_learnt, remote_at, receives, receiver, change}
use Rattle.worker_calls.specs.declared.place.Place.{Place}
use Rattle.worker_calls.specs.State.{LinkAt, Worker, ProducerKey, RouterAt, router_of, place_of, link_of, direct_of, change_router}
use Rattle.worker_calls.specs.Requests.{Outgoing, say, send, notify}

-- how long a packet may be that a Producer receives
abbrev pub max_packet : ℕ
max_packet = 65535

-- the fields of bytes that are a packet
abbrev pub parsed : List ℕ → Option Fields
parsed bytes = if is_some (fault_of bytes) then None else Some (fields_of bytes)

-- ---- a packet that a Producer receives

pub record Received : Type 0 where
  pub router : Id
  pub producer : Source
  pub mapped : Mapped
  pub packet : List ℕ

-- as its Consumers are offered it
abbrev pub offer_of : Received → Offer
offer_of r = offer r.mapped r.producer.stream.ids r.packet

abbrev pub received_as : Id → List ℕ → Fields → Source → Option Received
received_as router packet f p =
    option_map (λ m. record { router = router; producer = p; mapped = m; packet = packet }) (receives f p)

-- a packet over the limit is none that a Producer receives
abbrev pub if_within : {A : Type 0} → List ℕ → Option A → Option A
if_within packet found = if nat_le (length packet) max_packet then found else None

-- ---- by the channel: for the earliest made direct Producer with the id that it names

abbrev pub received_by_key : Worker → List ℕ → ProducerKey → Fields → Option Received
received_by_key w packet key f =
    option_and_then (λ r. option_and_then (received_as key.router packet f) (producer_of r.router key.producer)) (router_of w key.router)

unfoldable pub received_direct : Worker → Id → List ℕ → Option Received
received_direct w id packet =
    if_within packet (option_and_then (λ f. option_and_then (λ key. received_by_key w packet key f) (direct_of w id)) (parsed packet))

-- ---- by a socket: where the transport takes what comes from the tuple

-- what the transport at a place answers to a packet from a tuple
abbrev pub accept_in : Worker → Place → Tuple → Option Accept
accept_in w at from = option_and_then (λ r. accept_at r.router at.transport from) (router_of w at.router)

-- the worker behind that: a tuple may be learnt
abbrev pub heard_at : Worker → Place → Tuple → Worker
heard_at w at from = change_router at.router (λ r. behind_accept r at.transport from) w

abbrev pub is_taken : Option Accept → Bool
is_taken None = false
is_taken (Some accept.No) = false
is_taken (Some other) = true

abbrev pub received_at_place : Worker → Place → List ℕ → Fields → Option Received
received_at_place w at packet f =
    option_and_then (λ r. option_and_then (received_as at.router packet f) (receiver r.router at.transport f)) (router_of w at.router)

abbrev pub received_if : Bool → Worker → Place → List ℕ → Fields → Option Received
received_if taken w at packet f = if taken then if_within packet (received_at_place w at packet f) else None

-- the notice of a tuple that is learnt
abbrev pub told_learnt : Option Accept → Place → Tuple → List Outgoing
told_learnt answer at from = if is_learnt answer then notify (TupleLearnt at.transport from) ∷ [] else []

-- ---- what its Consumers send on

-- where a Consumer's packet goes: to the other end of its transport, or as a payload for its id
abbrev pub outgoing_to : Option ℕ → Option Tuple → Id → List ℕ → Outgoing
outgoing_to (Some link) (Some to) id packet = send link to packet
outgoing_to link to id packet = say (packet_payload id packet)

abbrev pub outgoing_for : Worker → RouterAt → Sink → List ℕ → Outgoing
outgoing_for w r c packet =
    outgoing_to (option_map (λ l. l.link) (link_of w (record { router = r.id; transport = c.transport }))) (remote_at r.router c.transport) c.id packet

-- what goes out for a Consumer, if it sends the packet on
abbrev pub emission_for : Worker → RouterAt → Offer → Sink → Option Outgoing
emission_for w r o c = option_map (outgoing_for w r c) (passed_by c.streams o)

-- Consumer by Consumer, in order of making
abbrev pub emissions_in : Worker → Received → RouterAt → List Outgoing
emissions_in w got r = filter_map (emission_for w r (offer_of got)) (consumers_of r.router got.producer.id)

abbrev pub emissions_at : Worker → Received → Option RouterAt → List Outgoing
emissions_at w got None = []
emissions_at w got (Some r) = emissions_in w got r

abbrev pub emissions_of : Worker → Option Received → List Outgoing
emissions_of w None = []
emissions_of w (Some got) = emissions_at w got (router_of w got.router)

-- each of them has been offered it
abbrev pub offered_to : Offer → Sink → Sink
offered_to o c = record c { streams = behind_offer c.streams o }

abbrev pub with_offered : Id → Offer → RouterState → RouterState
with_offered producer o r = record r { consumers = change (is_of producer) (offered_to o) r.consumers }

abbrev pub after_received : Worker → Option Received → Worker
after_received w None = w
after_received w (Some got) = change_router got.router (with_offered got.producer.id (offer_of got)) w

-- ---- the whole of it

abbrev pub after_direct : Worker → Id → List ℕ → Worker
after_direct w id packet = after_received w (received_direct w id packet)

abbrev pub out_direct : Worker → Id → List ℕ → List Outgoing
out_direct w id packet = emissions_of w (received_direct w id packet)

-- a packet that the transport takes is received behind what is learnt of it
abbrev pub received_from : Worker → Place → Tuple → List ℕ → Fields → Option Received
received_from w at from packet f = received_if (is_taken (accept_in w at from)) (heard_at w at from) at packet f

abbrev pub after_packet_at : Worker → Place → Tuple → List ℕ → Fields → Worker
after_packet_at w at from packet f = after_received (heard_at w at from) (received_from w at from packet f)

abbrev pub out_packet_at : Worker → Place → Tuple → List ℕ → Fields → List Outgoing
out_packet_at w at from packet f =
    told_learnt (accept_in w at from) at from ++ emissions_of (heard_at w at from) (received_from w at from packet f)

abbrev pub after_parsed : Worker → Option LinkAt → Tuple → List ℕ → Option Fields → Worker
after_parsed w (Some l) from packet (Some f) = after_packet_at w l.place from packet f
after_parsed w l from packet f = w

abbrev pub out_parsed : Worker → Option LinkAt → Tuple → List ℕ → Option Fields → List Outgoing
out_parsed w (Some l) from packet (Some f) = out_packet_at w l.place from packet f
out_parsed w l from packet f = []

-- what doesn't parse, and what comes by a link that is none, is dropped
abbrev pub after_datagram : Worker → ℕ → Tuple → List ℕ → Worker
after_datagram w link from packet = after_parsed w (place_of w link) from packet (parsed packet)

abbrev pub out_datagram : Worker → ℕ → Tuple → List ℕ → List Outgoing
out_datagram w link from packet = out_parsed w (place_of w link) from packet (parsed packet)
