-- Worked rows for requests one by one, which compute.
use Rattle.std.specs.Prelude.{◌≡◌, ℕ, List, [], ◌∷◌, true, false, codes, Option, Some, None, Result, Ok, Err, refl}
use Rattle.std.specs.Net.Reader.{read_ipv4, read_octet, read_number}
use Rattle.serde_json.specs.Data.{Data, boolean, string, object, member, no_members}
use Rattle.ms_base.specs.declared.id.Id.{Id}
use Rattle.plain_transport.specs.Connection.{unconnected}
use Rattle.producer.specs.Stream.{Stream}
use Rattle.rtp_extension.specs.declared.mapped.Flags.{Flags}
use Rattle.worker_requests.specs.declared.accepted.Accepted.TheVariants.{Done}
use Rattle.worker_requests.specs.declared.asked.TransportIds.{TransportIds}
use Rattle.worker_requests.specs.declared.asked.ProducerIds.{ProducerIds}
use Rattle.worker_requests.specs.declared.notice.WorkerNotice.TheVariants.{ProducerClosed, ProducerPaused}
use Rattle.worker_requests.specs.declared.refusal.Refusal.{Refusal}
use Rattle.worker_requests.specs.declared.refusal.Refusal.TheVariants as refusal
use Rattle.worker_requests.specs.Contents.{plain_in}
use Rattle.worker_requests.specs.Said.{answer_payload}
use Rattle.worker_router.specs.State.{RouterState, TransportAt, Source, Sink, nothing_yet}
use Rattle.worker_router.specs.declared.transport.Transport.{Transport}
use Rattle.worker_router.specs.declared.transport.Transport.TheVariants as transport
use Rattle.worker_calls.specs.State.{RouterAt, Place, LinkAt, Worker, Waiting, idle, direct_of}
use Rattle.worker_calls.specs.Requests.{Outgoing, Performed, say, bind, shut, notify, create_router, create_plain, close_transport, close_router, produce, pause_producer, after_bound, out_bound}

abbrev id : ℕ → Id
id n = record { 0 = n ∷ [] }

abbrev ids : ℕ → TransportIds
ids n = record { router = id 1; transport = id n }

abbrev producer_ids : ℕ → ProducerIds
producer_ids n = record { router = id 1; transport = id n; producer = id 10 }

abbrev link : ℕ → ℕ → LinkAt
link number n = record { link = number; place = record { router = id 1; transport = id n } }

abbrev router : RouterState → RouterAt
router r = record { id = id 1; router = r }

-- ---- a transport whose link is bound first

abbrev content : Option Data
content = Some (object (member (codes "comedia") (boolean true)
    (member (codes "listenIp") (object (member (codes "ip") (string (codes "192.0.2.1")) no_members)) (member (codes "rtcpMux") (boolean true) no_members))))

abbrev empty : Worker
empty = record idle { routers = router nothing_yet ∷ [] }

abbrev waiting : Worker
waiting = record empty {
  binds = 1;
  waiting = Some (record { link = 1; request = 7; place = record { router = id 1; transport = id 2 }; transport = transport.Plain (unconnected true); ip = 192 ∷ 0 ∷ 2 ∷ 1 ∷ [] });
}

-- the reply waits for the link
waits-for-its-link : create_plain empty 7 content (ids 2) ≡ Ok (record { worker = waiting; acts = bind 1 (192 ∷ 0 ∷ 2 ∷ 1 ∷ []) ∷ []; reply = None })
unfolding plain_in read_ipv4 read_octet read_number
waits-for-its-link = refl

stands-once-it-is-bound : after_bound waiting (Some 40000)
    ≡ record empty {
      routers = router (record nothing_yet { transports = record { id = id 2; transport = transport.Plain (unconnected true) } ∷ [] }) ∷ [];
      links = link 1 2 ∷ [];
      binds = 1;
    }
stands-once-it-is-bound = refl

-- a link that can't be bound leaves nothing but its number
bind-fails : after_bound waiting None ≡ record empty { binds = 1 }
bind-fails = refl

bind-fails-and-says-so : out_bound waiting None ≡ say (answer_payload 7 (Err refusal.Link)) ∷ []
bind-fails-and-says-so = refl

-- no number is used twice
no-number-left : create_plain (record empty { binds = 4294967295 }) 7 content (ids 2) ≡ Err refusal.Link
unfolding plain_in read_ipv4 read_octet read_number
no-number-left = refl

-- ---- the first reason counts

exists : create_router empty (id 1) ≡ Err refusal.Exists
exists = refl

missing-comes-before-data : create_plain idle 7 None (ids 2) ≡ Err refusal.Missing
missing-comes-before-data = refl

-- ---- a Producer over the transport 2, with Consumers over 3 and over 2

abbrev transport_at : ℕ → TransportAt
transport_at n = record { id = id n; transport = transport.Pipe None }

abbrev source : Stream → Source
source stream = record { id = id 10; transport = id 2; stream = stream }

abbrev sink : ℕ → ℕ → Flags → Sink
sink n over flags = record { id = id n; transport = id over; producer = id 10; flags = flags; streams = [] }

abbrev full : Stream → Flags → RouterState
full stream flags = record {
  transports = transport_at 2 ∷ transport_at 3 ∷ [];
  producers = source stream ∷ [];
  consumers = sink 20 3 flags ∷ sink 21 2 flags ∷ [];
}

abbrev worker : RouterState → Worker
worker r = record {
  routers = router r ∷ [];
  links = link 1 2 ∷ link 2 3 ∷ [];
  binds = 2;
  waiting = None;
  directs = record { router = id 1; producer = id 10 } ∷ [];
}

exists-comes-before-data : (stream : Stream) (flags : Flags) → produce (worker (full stream flags)) None (producer_ids 2) ≡ Err refusal.Exists
exists-comes-before-data stream flags = refl

missing-comes-before-exists : (stream : Stream) (flags : Flags) → produce (worker (full stream flags)) None (producer_ids 4) ≡ Err refusal.Missing
missing-comes-before-exists stream flags = refl

-- the Consumer on another transport is told, then the socket closes; the Producer isn't found any more
closes-a-transport : (stream : Stream) (flags : Flags) → close_transport (worker (full stream flags)) (ids 2)
    ≡ Ok (record {
      worker = record (worker (record { transports = transport_at 3 ∷ []; producers = []; consumers = [] })) { links = link 2 3 ∷ []; directs = [] };
      acts = notify (ProducerClosed (id 20)) ∷ shut 1 ∷ [];
      reply = Some Done;
    })
closes-a-transport stream flags = refl

closes-a-router : (stream : Stream) (flags : Flags) → close_router (worker (full stream flags)) (id 1)
    ≡ Ok (record { worker = record idle { binds = 2 }; acts = shut 1 ∷ shut 2 ∷ []; reply = Some Done })
closes-a-router stream flags = refl

-- what goes out before the reply
abbrev acts_of : Result Performed Refusal → Option (List Outgoing)
acts_of (Ok p) = Some p.acts
acts_of (Err why) = None

-- a pause that changes nothing tells nobody
pauses-again : (stream : Stream) (flags : Flags) → acts_of (pause_producer (worker (full (record stream { paused = true }) flags)) true (producer_ids 2)) ≡ Some []
pauses-again stream flags = refl

pauses : (stream : Stream) (flags : Flags) → acts_of (pause_producer (worker (full (record stream { paused = false }) flags)) true (producer_ids 2))
    ≡ Some (notify (ProducerPaused (id 20)) ∷ notify (ProducerPaused (id 21)) ∷ [])
pauses stream flags = refl

-- of one id the earliest is found
earliest : direct_of (record idle { directs = record { router = id 2; producer = id 10 } ∷ record { router = id 1; producer = id 10 } ∷ [] }) (id 10)
    ≡ Some (record { router = id 2; producer = id 10 })
earliest = refl
