-- A packet on its way through a worker, step by step. This project's own.
use Rattle.std.specs.Prelude.{◌≡◌, ℕ, ◌<◌, ◌≤◌, List, [], ◌∷◌, length, map, take, Option, Some, None, option_map, option_and_then}
use Rattle.std.specs.List.{cons_option}
use Rattle.rtp_packet.specs.Packet.{Fields, IsPacket}
use Rattle.rtp_extension.specs.declared.mapped.Mapped.{Mapped}
use Rattle.ms_base.specs.declared.id.Id.{Id}
use Rattle.ms_base.specs.declared.tuple.Tuple.{Tuple}
use Rattle.channel_msgs.specs.Packet.{packet_payload}
use Rattle.worker_router.specs.State.{consumers_of}
use Rattle.worker_router.specs.Calls.{remote_at, passed_for, behind_pass}
use Rattle.worker_router.specs.declared.packets.Passed.{Passed}
use Rattle.worker_calls.specs.declared.place.Place.{Place}
use Rattle.worker_calls.specs.State.{Worker, RouterAt, router_of, link_of, change_router}
use Rattle.worker_calls.specs.Requests.{Outgoing, say, send}
use Rattle.worker_engine.specs.declared.act.PacketFrom.{PacketFrom}
use Rattle.worker_engine.specs.declared.act.PacketFrom.TheVariants as from
use Rattle.worker_engine.specs.Packets.{Received, max_packet, outgoing_to, after_received, emissions_of, after_direct, out_direct, after_datagram, out_datagram}

-- the worker behind a packet, and what goes out by it
abbrev pub after_from : Worker → PacketFrom → List ℕ → Worker
after_from w (from.Link link tuple) packet = after_datagram w link tuple packet
after_from w (from.Direct id) packet = after_direct w id packet

abbrev pub out_by : Worker → PacketFrom → List ℕ → List Outgoing
out_by w (from.Link link tuple) packet = out_datagram w link tuple packet
out_by w (from.Direct id) packet = out_direct w id packet

-- a packet that a Producer of a Router received
pub record Incoming : Type 0 where
  pub router : Id
  pub producer : Id
  pub mapped : Mapped
  pub packet : List ℕ

-- it is one within the limit, and what it is mapped to has a payload type
pub record IsIncoming (packet : List ℕ) (f : Fields) (m : Mapped) : Type 0 where
  pub is_packet : IsPacket f packet
  pub limit : length packet ≤ max_packet
  pub payload_type : m.payload_type < 128

abbrev pub incoming_of : Received → Incoming
incoming_of got = record { router = got.router; producer = got.producer.id; mapped = got.mapped; packet = got.packet }

-- ---- one Consumer of the Producer

-- the Consumers in a Router, each with its transport
abbrev pub targets_in : Id → RouterAt → List (Id × Id)
targets_in producer r = map (λ c. (c.id, c.transport)) (consumers_of r.router producer)

abbrev pub targets_of : Id → Option RouterAt → List (Id × Id)
targets_of producer None = []
targets_of producer (Some r) = targets_in producer r

abbrev pub targets : Incoming → Worker → List (Id × Id)
targets i w = targets_of i.producer (router_of w i.router)

-- what it sends on, if it does
abbrev pub passed_one : Incoming → Id → Worker → Option (List ℕ)
passed_one i id w = option_and_then (λ r. passed_for r.router id i.mapped i.packet) (router_of w i.router)

-- the worker behind that
abbrev pub behind_one : Incoming → Id → Worker → Worker
behind_one i id w = change_router i.router (λ r. behind_pass r id i.mapped i.packet) w

-- the other end of a transport
abbrev pub remote_in : Worker → Place → Option Tuple
remote_in w at = option_and_then (λ r. remote_at r.router at.transport) (router_of w at.router)

abbrev pub outgoing_at : Worker → Place → Id → List ℕ → Outgoing
outgoing_at w at id packet = outgoing_to (option_map (λ l. l.link) (link_of w at)) (remote_in w at) id packet

-- what goes out for it
abbrev pub out_one : Incoming → Id × Id → Worker → Option Outgoing
out_one i to w = option_map (outgoing_at w (record { router = i.router; transport = to.1 }) to.0) (passed_one i to.0 w)

-- ---- one after the other

unfoldable pub behind_each : Incoming → List (Id × Id) → Worker → Worker
behind_each i [] w = w
behind_each i (to ∷ more) w = behind_each i more (behind_one i to.0 w)

unfoldable pub out_each : Incoming → List (Id × Id) → Worker → List Outgoing
out_each i [] w = []
out_each i (to ∷ more) w = cons_option (out_one i to w) (out_each i more (behind_one i to.0 w))

-- ---- a packet that is received, or none

abbrev pub behind_served : Option Incoming → Worker → Worker
behind_served None w = w
behind_served (Some i) w = behind_each i (targets i w) w

abbrev pub out_served : Option Incoming → Worker → List Outgoing
out_served None w = []
out_served (Some i) w = out_each i (targets i w) w

-- The packet that is served is what was received: the worker behind it, and what goes out.
pub record Serves (w : Worker) (got : Option Received) (served : Option Incoming) : Type 0 where
  pub state : behind_served served w ≡ after_received w got
  pub outs : out_served served w ≡ emissions_of w got

-- ---- where a packet goes

-- the link and the tuple, where both are there
abbrev pub both : Option ℕ → Option Tuple → Option (ℕ × Tuple)
both (Some link) (Some to) = Some (link, to)
both link to = None

abbrev pub outgoing_by : Option (ℕ × Tuple) → Id → List ℕ → Outgoing
outgoing_by (Some end) id packet = send end.0 end.1 packet
outgoing_by None id packet = say (packet_payload id packet)

abbrev pub end_of : Worker → Place → Option Tuple → Option (ℕ × Tuple)
end_of w at remote = both (option_map (λ l. l.link) (link_of w at)) remote

-- what goes out for a Consumer that has passed on the front of these bytes, if it did
abbrev pub sent_of : Worker → Id → Passed → List ℕ → Option Outgoing
sent_of w router p bytes =
    option_map (λ n. outgoing_to (option_map (λ l. l.link) (link_of w (record { router = router; transport = p.transport }))) p.remote p.consumer (take n bytes)) p.length

abbrev pub listed : {A : Type 0} → Option A → List A
listed None = []
listed (Some x) = x ∷ []
