-- What stands in a Router of a worker: its transports, its Producers and its Consumers, each list in order of making. This project's
-- own, after mediasoup's classes of these names.
use Rattle.std.specs.Prelude.{List, [], Bool, true, find, filter, is_some, bytes_eq, Option, None}
use Rattle.ms_base.specs.declared.id.Id.{Id}
use Rattle.ms_base.specs.declared.tuple.Tuple.{Tuple}
use Rattle.producer.specs.Stream.{Stream}
use Rattle.rtp_extension.specs.declared.mapped.Flags.{Flags}
use Rattle.simple_consumer.specs.Sending.{Sending}
use Rattle.worker_router.specs.declared.transport.Transport.{Transport}
use Rattle.worker_router.specs.declared.transport.Transport.TheVariants as transport

pub record TransportAt : Type 0 where
  pub id : Id
  pub transport : Transport

-- a stream that comes in over a transport
pub record Source : Type 0 where
  pub id : Id
  pub transport : Id
  pub stream : Stream

-- what is sent on of a Producer over a transport: a stream for each mapped SSRC, of which a simple Consumer has one
pub record Sink : Type 0 where
  pub id : Id
  pub transport : Id
  pub producer : Id
  pub flags : Flags
  pub streams : List Sending

pub record RouterState : Type 0 where
  pub transports : List TransportAt
  pub producers : List Source
  pub consumers : List Sink

abbrev pub nothing_yet : RouterState
nothing_yet = record { transports = []; producers = []; consumers = [] }

abbrev pub same_id : Id → Id → Bool
same_id a b = bytes_eq a.0 b.0

-- ---- the object of an id, if it is there

abbrev pub transport_of : RouterState → Id → Option TransportAt
transport_of r id = find (λ t. same_id t.id id) r.transports

abbrev pub producer_of : RouterState → Id → Option Source
producer_of r id = find (λ p. same_id p.id id) r.producers

abbrev pub consumer_of : RouterState → Id → Option Sink
consumer_of r id = find (λ c. same_id c.id id) r.consumers

-- ---- a transport's other end

-- the tuple to which packets go
abbrev pub remote_of : Transport → Option Tuple
remote_of (transport.Plain c) = c.remote
remote_of (transport.Pipe remote) = remote
remote_of (transport.Direct _) = None

-- a direct transport is always connected, any other once it has a tuple
abbrev pub is_connected : Transport → Bool
is_connected (transport.Direct _) = true
is_connected (transport.Plain c) = is_some c.remote
is_connected (transport.Pipe remote) = is_some remote

-- ---- who belongs to whom

abbrev pub is_on : Id → Source → Bool
is_on transport p = same_id p.transport transport

abbrev pub is_of : Id → Sink → Bool
is_of producer c = same_id c.producer producer

abbrev pub goes_over : Id → Sink → Bool
goes_over transport c = same_id c.transport transport

-- the Consumers of a Producer, in order of making
abbrev pub consumers_of : RouterState → Id → List Sink
consumers_of r producer = filter (is_of producer) r.consumers
