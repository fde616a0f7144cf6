-- What each call makes of a Router, why it is refused, and what it answers. This project's own, after mediasoup.
use Rattle.std.specs.Prelude.{ℕ, List, [], ◌∷◌, ◌++◌, Bool, true, false, not, ◌&&◌, ◌||◌, map, filter, find, is_some, if◌then◌else◌, Option, Some, None, option_map, option_and_then, slice_get, Result, Ok, Err}
use Rattle.std.specs.List.{list_any, range_with_len}
use Rattle.std.specs.Option.{option_map_or}
use Rattle.ms_base.specs.declared.id.Id.{Id}
use Rattle.ms_base.specs.declared.keys.Kind.{Kind}
use Rattle.ms_base.specs.declared.keys.Kind.TheVariants as kind
use Rattle.ms_base.specs.declared.tuple.Tuple.{Tuple}
use Rattle.plain_transport.specs.declared.accept.Accept.{Accept}
use Rattle.plain_transport.specs.declared.accept.Accept.TheVariants as accept
use Rattle.plain_transport.specs.Connection.{connect_fault_of, connected, accept_of, accepted}
use Rattle.inner_transports.specs.Pipe.{piped, takes}
use Rattle.producer.specs.Ids.{element_id}
use Rattle.producer.specs.Stream.{stream_of}
use Rattle.producer.specs.Received.{received}
use Rattle.rtp_extension.specs.declared.mapped.Flags.{Flags}
use Rattle.rtp_extension.specs.declared.mapped.Mapped.{Mapped}
use Rattle.rtp_packet.specs.Packet.{Fields}
use Rattle.rtp_params.specs.declared.encoding.Encoding.{Encoding}
use Rattle.rtp_params.specs.declared.ext.Ext.{Ext}
use Rattle.rtp_params.specs.declared.mapping.Mapping.{Mapping}
use Rattle.rtp_params.specs.declared.params.Params.{Params}
use Rattle.rtp_params.specs.Encodings.{is_own}
use Rattle.simple_consumer.specs.Sending.{Offer, offer}
use Rattle.pipe_consumer.specs.Streams.{streams_of, passed_by, behind_offer, behind_setting}
use Rattle.worker_router.specs.State.{TransportAt, Source, Sink, RouterState, same_id, transport_of, producer_of, consumer_of, consumers_of, is_connected, remote_of, is_on, is_of, goes_over}
use Rattle.worker_router.specs.declared.fault.RouterFault.{RouterFault}
use Rattle.worker_router.specs.declared.fault.RouterFault.TheVariants as fault
use Rattle.worker_router.specs.declared.transport.Transport.{Transport}
use Rattle.worker_router.specs.declared.transport.Transport.TheVariants as transport

-- ---- looking

-- a transport is of a kind
abbrev pub is_of_kind : Kind → Transport → Bool
is_of_kind kind.Plain (transport.Plain _) = true
is_of_kind kind.Pipe (transport.Pipe _) = true
is_of_kind kind.Direct (transport.Direct _) = true
is_of_kind other t = false

abbrev pub has_transport_of : RouterState → Kind → Id → Bool
has_transport_of r k id = option_map_or (λ t. is_of_kind k t.transport) (transport_of r id) false

-- an object of a kind and an id is there
abbrev pub has_object : RouterState → Kind → Id → Bool
has_object r kind.Producer id = is_some (producer_of r id)
has_object r kind.Consumer id = is_some (consumer_of r id)
has_object r k id = has_transport_of r k id

-- the fault of a call whose object isn't there
abbrev pub missing : {A : Type 0} → Option A → Option RouterFault
missing None = Some fault.Missing
missing (Some _) = None

-- what is there, or that it isn't
abbrev pub or_missing : {A : Type 0} → Option A → Result A RouterFault
or_missing None = Err fault.Missing
or_missing (Some a) = Ok a

-- ---- making

abbrev pub add_transport_fault : RouterState → Id → Option RouterFault
add_transport_fault r id = if is_some (transport_of r id) then Some fault.Exists else None

abbrev pub with_transport : RouterState → Id → Transport → RouterState
with_transport r id t = record r { transports = r.transports ++ record { id = id; transport = t } ∷ [] }

-- an encoding of a Producer of the transport has the own SSRC of one of these
abbrev pub clashes : RouterState → Id → List Encoding → Bool
clashes r t encodings =
    list_any (λ p. is_on t p && list_any (λ e. is_own p.stream.params.encodings e.ssrc) encodings) r.producers

abbrev pub add_producer_fault : RouterState → Id → Id → List Encoding → Option RouterFault
add_producer_fault r t id encodings =
    if not (is_some (transport_of r t)) then Some fault.Missing
    else if is_some (producer_of r id) then Some fault.Exists
    else if clashes r t encodings then Some fault.Ssrc
    else None

-- a Producer of what these parameters send, over a transport; `ids` are the new ids of its packets' elements
abbrev pub source_of : Id → Id → Params → Mapping → List (Option ℕ) → Bool → Source
source_of t id params mapping ids paused = record { id = id; transport = t; stream = stream_of params mapping ids paused }

-- for each of 256 ids the new one of the table, where it has one
unfoldable pub new_ids : Params → List Ext → List (Option ℕ)
new_ids params exts = map (element_id params exts) (range_with_len 0 256)

abbrev pub new_source : Id → Id → Params → Mapping → List Ext → Bool → Source
new_source t id params mapping exts paused = source_of t id params mapping (new_ids params exts) paused

abbrev pub with_producer : RouterState → Source → RouterState
with_producer r p = record r { producers = r.producers ++ p ∷ [] }

abbrev pub add_consumer_fault : RouterState → Id → Id → Id → Option RouterFault
add_consumer_fault r t id producer =
    if not (is_some (transport_of r t) && is_some (producer_of r producer)) then Some fault.Missing
    else if is_some (consumer_of r id) then Some fault.Exists
    else None

abbrev pub with_consumer : RouterState → Sink → RouterState
with_consumer r c = record r { consumers = r.consumers ++ c ∷ [] }

-- the flags that a Consumer begins with
abbrev pub first_flags : TransportAt → Source → Bool → Flags
first_flags t p paused = record { connected = is_connected t.transport; paused = paused; producer_paused = p.stream.paused }

-- those of a Consumer of a Producer over a transport, which are there
abbrev pub first_flags_at : RouterState → Id → Id → Bool → Option Flags
first_flags_at r t producer paused =
    option_and_then (λ at. option_map (λ p. first_flags at p paused) (producer_of r producer)) (transport_of r t)

-- a Consumer that has sent nothing yet
abbrev pub sink_of : Id → Id → Id → Params → List ℕ → Flags → Sink
sink_of t id producer params mapped flags =
    record { id = id; transport = t; producer = producer; flags = flags; streams = streams_of params mapped flags }

-- ---- flags

abbrev pub set_flags : Sink → Flags → Sink
set_flags c f = record c { flags = f; streams = behind_setting f c.streams }

-- those for which the test holds are changed
abbrev pub change : {A : Type 0} → (A → Bool) → (A → A) → List A → List A
change test f xs = map (λ x. if test x then f x else x) xs

abbrev pub connect_one : Sink → Sink
connect_one c = set_flags c (record c.flags { connected = true })

abbrev pub pause_one : Bool → Sink → Sink
pause_one paused c = set_flags c (record c.flags { paused = paused })

abbrev pub pause_source_of : Bool → Sink → Sink
pause_source_of paused c = set_flags c (record c.flags { producer_paused = paused })

-- ---- connecting

-- a direct transport isn't told a tuple, and any other once
abbrev pub is_to_be_told : Transport → Bool
is_to_be_told (transport.Plain c) = not (is_some (connect_fault_of c))
is_to_be_told (transport.Pipe remote) = not (is_some remote)
is_to_be_told (transport.Direct _) = false

abbrev pub connect_fault_at : Option TransportAt → Option RouterFault
connect_fault_at None = Some fault.Missing
connect_fault_at (Some t) = if is_to_be_told t.transport then None else Some fault.State

abbrev pub connect_fault : RouterState → Id → Option RouterFault
connect_fault r id = connect_fault_at (transport_of r id)

abbrev pub told : Tuple → Transport → Transport
told to (transport.Plain c) = transport.Plain (connected c to)
told to (transport.Pipe remote) = transport.Pipe (piped remote to)
told to (transport.Direct d) = transport.Direct d

abbrev pub with_connected : Id → RouterState → RouterState
with_connected id r = record r { consumers = change (goes_over id) connect_one r.consumers }

abbrev pub change_transport : Id → (Transport → Transport) → RouterState → RouterState
change_transport id f r =
    record r { transports = change (λ t. same_id t.id id) (λ t. record t { transport = f t.transport }) r.transports }

-- the Consumers of the transport are connected with it
abbrev pub connected_to : RouterState → Id → Tuple → RouterState
connected_to r id to = with_connected id (change_transport id (told to) r)

-- ---- a packet from a tuple

abbrev pub accept_by : Transport → Tuple → Accept
accept_by (transport.Plain c) from = accept_of c from
accept_by (transport.Pipe remote) from = takes remote from
accept_by (transport.Direct _) from = accept.No

abbrev pub heard_from : Tuple → Transport → Transport
heard_from from (transport.Plain c) = transport.Plain (accepted c from)
heard_from from (transport.Pipe remote) = transport.Pipe remote
heard_from from (transport.Direct d) = transport.Direct d

-- what is answered to a packet from a tuple at a transport, if that is there
abbrev pub accept_at : RouterState → Id → Tuple → Option Accept
accept_at r id from = option_map (λ t. accept_by t.transport from) (transport_of r id)

abbrev pub is_learnt : Option Accept → Bool
is_learnt (Some accept.Learnt) = true
is_learnt other = false

-- a tuple that is learnt connects
abbrev pub behind_accept : RouterState → Id → Tuple → RouterState
behind_accept r id from =
    if is_learnt (accept_at r id from) then with_connected id (change_transport id (heard_from from) r) else r

abbrev pub remote_at : RouterState → Id → Option Tuple
remote_at r id = option_and_then (λ t. remote_of t.transport) (transport_of r id)

-- ---- packets

-- what a Producer says of a packet, if it is one of its own
abbrev pub receives : Fields → Source → Option Mapped
receives f p = received p.stream.params p.stream.mapping f

-- the Producer of the transport that a packet is one of
abbrev pub receiver : RouterState → Id → Fields → Option Source
receiver r t f = find (λ p. is_on t p && is_some (receives f p)) r.producers

-- the Consumer at a place among those of a Producer, with its transport
abbrev pub consumer_at : RouterState → Id → ℕ → Option (Id × Id)
consumer_at r producer place = option_map (λ c. (c.id, c.transport)) (slice_get (consumers_of r producer) place)

-- a packet that a Consumer is offered, with the ids of its Producer
abbrev pub offered : RouterState → Sink → Mapped → List ℕ → Option Offer
offered r c m packet = option_map (λ p. offer m p.stream.ids packet) (producer_of r c.producer)

-- what a Consumer writes for it, if it sends it on
abbrev pub passed_for : RouterState → Id → Mapped → List ℕ → Option (List ℕ)
passed_for r id m packet =
    option_and_then (λ c. option_and_then (passed_by c.streams) (offered r c m packet)) (consumer_of r id)

abbrev pub after_offer : Option Offer → Sink → Sink
after_offer None c = c
after_offer (Some o) c = record c { streams = behind_offer c.streams o }

abbrev pub behind_pass : RouterState → Id → Mapped → List ℕ → RouterState
behind_pass r id m packet =
    record r { consumers = change (λ c. same_id c.id id) (λ c. after_offer (offered r c m packet) c) r.consumers }

-- ---- pauses

abbrev pub set_paused : Bool → Source → Source
set_paused paused p = record p { stream = record p.stream { paused = paused } }

-- whether a flag is another than this
abbrev pub differs : Bool → Bool → Bool
differs true flag = not flag
differs false flag = flag

-- whether a pause or a resumption of a Producer changes its flag
abbrev pub pause_changes : RouterState → Id → Bool → Option Bool
pause_changes r id paused = option_map (λ p. differs paused p.stream.paused) (producer_of r id)

-- a Producer's Consumers are told in their flags
abbrev pub with_producer_paused : RouterState → Id → Bool → RouterState
with_producer_paused r id paused =
    record r {
      producers = change (λ p. same_id p.id id) (set_paused paused) r.producers;
      consumers = change (is_of id) (pause_source_of paused) r.consumers;
    }

abbrev pub with_consumer_paused : RouterState → Id → Bool → RouterState
with_consumer_paused r id paused = record r { consumers = change (λ c. same_id c.id id) (pause_one paused) r.consumers }

-- ---- closes

abbrev pub without : {A : Type 0} → (A → Bool) → List A → List A
without test xs = filter (λ x. not (test x)) xs

-- a Consumer's Producer comes in over the transport
abbrev pub comes_by : RouterState → Id → Sink → Bool
comes_by r t c = list_any (λ p. is_on t p && same_id p.id c.producer) r.producers

-- the Consumers that are told of the close of a transport: those of its Producers on other transports
abbrev pub told_of_transport : RouterState → Id → List Id
told_of_transport r t = map (λ c. c.id) (filter (λ c. comes_by r t c && not (goes_over t c)) r.consumers)

-- with a transport its Producers close, their Consumers, and the Consumers on it
abbrev pub without_transport : RouterState → Id → RouterState
without_transport r t = record {
  transports = without (λ x. same_id x.id t) r.transports;
  producers = without (is_on t) r.producers;
  consumers = without (λ c. goes_over t c || comes_by r t c) r.consumers;
}

-- the Consumers that are told of the close of a Producer: all of its own
abbrev pub told_of_producer : RouterState → Id → List Id
told_of_producer r id = map (λ c. c.id) (consumers_of r id)

abbrev pub without_producer : RouterState → Id → RouterState
without_producer r id =
    record r { producers = without (λ p. same_id p.id id) r.producers; consumers = without (is_of id) r.consumers }

abbrev pub without_consumer : RouterState → Id → RouterState
without_consumer r id = record r { consumers = without (λ c. same_id c.id id) r.consumers }
