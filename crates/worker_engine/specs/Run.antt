-- What a worker does at each event, from the state that the events before left, and its whole output. This project's own.
use Rattle.std.specs.Prelude.{ℕ, List, [], ◌∷◌, ◌++◌, Option, Some, None}
use Rattle.ms_base.specs.declared.id.Id.{Id}
use Rattle.ms_base.specs.declared.tuple.Tuple.{Tuple}
use Rattle.channel_msgs.specs.Packet.{packet_in}
use Rattle.channel_msgs.specs.Read.{request_of}
use Rattle.channel_msgs.specs.View.{RequestView}
use Rattle.worker_requests.specs.declared.notice.WorkerNotice.TheVariants.{Running}
use Rattle.worker_calls.specs.State.{Worker, idle}
use Rattle.worker_calls.specs.Requests.{Outgoing, notify, after_request, out_request, after_bound, out_bound}
use Rattle.worker_engine.specs.Packets.{after_direct, out_direct, after_datagram, out_datagram}

-- what a worker hears: a payload on its channel, a datagram that came for a link from a tuple, or the port of the link that waits for it,
-- or none where it couldn't be opened
pub data Event : Type 0 where
  payload : List ℕ → Event
  datagram : (link : ℕ) → (from : Tuple) → List ℕ → Event
  bound : (port : Option ℕ) → Event

-- ---- a payload: a packet for the direct Producer of an id, or a request; any other is dropped

abbrev pub after_request_if : Worker → Option RequestView → Worker
after_request_if w (Some r) = after_request w r
after_request_if w None = w

abbrev pub out_request_if : Worker → Option RequestView → List Outgoing
out_request_if w (Some r) = out_request w r
out_request_if w None = []

abbrev pub after_payload : Worker → Option (Id × List ℕ) → List ℕ → Worker
after_payload w (Some p) bytes = after_direct w p.0 p.1
after_payload w None bytes = after_request_if w (request_of bytes)

abbrev pub out_payload : Worker → Option (Id × List ℕ) → List ℕ → List Outgoing
out_payload w (Some p) bytes = out_direct w p.0 p.1
out_payload w None bytes = out_request_if w (request_of bytes)

-- ---- an event

abbrev pub after : Worker → Event → Worker
after w (payload bytes) = after_payload w (packet_in bytes) bytes
after w (datagram link from bytes) = after_datagram w link from bytes
after w (bound port) = after_bound w port

abbrev pub out : Worker → Event → List Outgoing
out w (payload bytes) = out_payload w (packet_in bytes) bytes
out w (datagram link from bytes) = out_datagram w link from bytes
out w (bound port) = out_bound w port

-- ---- a whole run

abbrev pub after_all : Worker → List Event → Worker
after_all w [] = w
after_all w (e ∷ es) = after_all (after w e) es

-- the state that events leave
abbrev pub worker_after : List Event → Worker
worker_after events = after_all idle events

abbrev pub out_from : Worker → List Event → List Outgoing
out_from w [] = []
out_from w (e ∷ es) = out w e ++ out_from (after w e) es

-- the output of a worker for its events: first it says that it runs
abbrev pub worker_out : List Event → List Outgoing
worker_out events = notify Running ∷ out_from idle events
