-- Worked rows of the definitions, which compute: the plain transports 1 and 2, of which the second learns its tuple, and the direct
-- one 3; the Producer 11 over the transport 1 with the Consumers 21 and 22 over the transports 1 and 2, and the Producer 12 over the
-- transport 3 with the Consumer 25 over that.
use Rattle.std.specs.Prelude.{ℕ, ◌≡◌, List, [], ◌∷◌, Bool, true, false, codes, map, Some, None, option_map, refl}
use Rattle.ms_base.specs.declared.id.Id.{Id}
use Rattle.ms_base.specs.declared.keys.Kind.TheVariants as kind
use Rattle.ms_base.specs.declared.keys.Media.TheVariants as media
use Rattle.ms_base.specs.declared.tuple.Tuple.{Tuple}
use Rattle.inner_transports.specs.declared.direct.DirectTransport.{DirectTransport}
use Rattle.plain_transport.specs.declared.accept.Accept.TheVariants as accept
use Rattle.plain_transport.specs.Connection.{unconnected}
use Rattle.rtp_packet.specs.Packet.{Fields}
use Rattle.rtp_params.specs.declared.codec.Codec.{Codec}
use Rattle.rtp_params.specs.declared.encoding.Encoding.{Encoding}
use Rattle.rtp_params.specs.declared.mapping.Mapping.{Mapping}
use Rattle.rtp_params.specs.declared.params.Params.{Params}
use Rattle.worker_router.specs.State.{RouterState, Sink, Source, TransportAt}
use Rattle.worker_router.specs.Calls.{accept_at, add_consumer_fault, add_producer_fault, connect_fault, connected_to, consumer_at, has_object, pause_changes, receiver, remote_at, source_of, told_of_producer, told_of_transport, with_producer_paused, without_producer, without_transport}
use Rattle.worker_router.specs.declared.fault.RouterFault.TheVariants as fault
use Rattle.worker_router.specs.declared.transport.Transport.{Transport}
use Rattle.worker_router.specs.declared.transport.Transport.TheVariants as transport

abbrev id : ℕ → Id
id n = record { 0 = n ∷ [] }

abbrev one : Tuple
one = record { ip = 127 ∷ 0 ∷ 0 ∷ 1 ∷ []; port = 5004 }

abbrev encoding : ℕ → Encoding
encoding ssrc = record { ssrc = ssrc; rtx = None }

abbrev opus : Codec
opus = record { media = media.Audio; name = codes "opus"; payload_type = Some 111; clock_rate = 48000; channels = Some 2; parameters = []; feedback = [] }

abbrev params : ℕ → Params
params ssrc = record { codecs = opus ∷ []; exts = []; encodings = encoding ssrc ∷ []; cname = []; reduced_size = true }

abbrev mapping : ℕ → Mapping
mapping ssrc = record { codecs = (111, 100) ∷ []; encodings = (ssrc, 100000000) ∷ [] }

abbrev producer : ℕ → ℕ → ℕ → Source
producer over own ssrc = source_of (id over) (id own) (params ssrc) (mapping ssrc) [] false

abbrev consumer : ℕ → ℕ → ℕ → Bool → Sink
consumer over own of connected = record {
  id = id own;
  transport = id over;
  producer = id of;
  flags = record { connected = connected; paused = false; producer_paused = false };
  streams = [];
}

abbrev at : ℕ → Transport → TransportAt
at own t = record { id = id own; transport = t }

abbrev packet : ℕ → Fields
packet ssrc = record {
  marker = false;
  payload_type = 111;
  seq = 1;
  timestamp = 10;
  ssrc = ssrc;
  csrcs = [];
  extension = None;
  payload = 0xaa ∷ [];
  padding = None;
}

abbrev consumers : RouterState → List Id
consumers r = map (λ c. c.id) r.consumers

module _ (direct : DirectTransport) where
  abbrev router : RouterState
  router = record {
    transports = at 1 (transport.Plain (unconnected false)) ∷ at 2 (transport.Plain (unconnected true)) ∷ at 3 (transport.Direct direct) ∷ [];
    producers = producer 1 11 2222 ∷ producer 3 12 3333 ∷ [];
    consumers = consumer 1 21 11 false ∷ consumer 2 22 11 false ∷ consumer 3 25 12 true ∷ [];
  }

  -- ---- faults

  missing-row : add_producer_fault router (id 4) (id 11) (encoding 2222 ∷ []) ≡ Some fault.Missing
  missing-row = refl

  exists-row : add_producer_fault router (id 1) (id 12) (encoding 2222 ∷ []) ≡ Some fault.Exists
  exists-row = refl

  ssrc-row : add_producer_fault router (id 1) (id 13) (encoding 4444 ∷ encoding 2222 ∷ []) ≡ Some fault.Ssrc
  ssrc-row = refl

  -- the same SSRC on another transport
  other-transport-row : add_producer_fault router (id 2) (id 13) (encoding 2222 ∷ []) ≡ None
  other-transport-row = refl

  no-source-row : add_consumer_fault router (id 1) (id 21) (id 13) ≡ Some fault.Missing
  no-source-row = refl

  -- one that learns its tuple isn't told it, nor a direct one
  learning-row : connect_fault router (id 2) ≡ Some fault.State
  learning-row = refl

  direct-row : connect_fault router (id 3) ≡ Some fault.State
  direct-row = refl

  twice-row : connect_fault (connected_to router (id 1) one) (id 1) ≡ Some fault.State
  twice-row = refl

  -- ---- looking

  kind-row : has_object router kind.Direct (id 3) ≡ true
  kind-row = refl

  other-kind-row : has_object router kind.Plain (id 3) ≡ false
  other-kind-row = refl

  place-row : consumer_at router (id 11) 1 ≡ Some (id 22, id 2)
  place-row = refl

  past-row : consumer_at router (id 12) 1 ≡ None
  past-row = refl

  receiver-row : option_map (λ p. p.id) (receiver router (id 1) (packet 2222)) ≡ Some (id 11)
  receiver-row = refl

  -- one that comes over another transport
  other-receiver-row : receiver router (id 3) (packet 2222) ≡ None
  other-receiver-row = refl

  learnt-row : accept_at router (id 2) one ≡ Some accept.Learnt
  learnt-row = refl

  -- ---- flags

  connected-row : map (λ c. c.flags.connected) (connected_to router (id 1) one).consumers ≡ true ∷ false ∷ true ∷ []
  connected-row = refl

  remote-row : remote_at (connected_to router (id 1) one) (id 1) ≡ Some one
  remote-row = refl

  paused-row : map (λ c. c.flags.producer_paused) (with_producer_paused router (id 11) true).consumers ≡ true ∷ true ∷ false ∷ []
  paused-row = refl

  again-row : pause_changes (with_producer_paused router (id 11) true) (id 11) true ≡ Some false
  again-row = refl

  -- ---- closes

  -- the Consumer over the transport itself isn't told
  told-row : told_of_transport router (id 1) ≡ id 22 ∷ []
  told-row = refl

  left-row : consumers (without_transport router (id 1)) ≡ id 25 ∷ []
  left-row = refl

  over-row : consumers (without_transport router (id 2)) ≡ id 21 ∷ id 25 ∷ []
  over-row = refl

  told-of-producer-row : told_of_producer router (id 11) ≡ id 21 ∷ id 22 ∷ []
  told-of-producer-row = refl

  free-again-row : add_producer_fault (without_producer router (id 11)) (id 1) (id 11) (encoding 2222 ∷ []) ≡ None
  free-again-row = refl
