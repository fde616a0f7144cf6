-- Worked rows of what events are to a Consumer, which compute: in the Router 1 the Consumer 20 of the Producer 10 over the pipe transport 3.
use Rattle.std.specs.Prelude.{◌≡◌, ℕ, [], ◌∷◌, true, false, Some, None, refl}
use Rattle.ms_base.specs.declared.id.Id.{Id}
use Rattle.rtp_extension.specs.declared.mapped.Flags.{Flags}
use Rattle.rtp_extension.specs.declared.mapped.Mapped.{Mapped}
use Rattle.simple_consumer.specs.Calls.{set_flags, pass}
use Rattle.worker_router.specs.State.{Source, Sink}
use Rattle.worker_router.specs.declared.transport.Transport.TheVariants as transport
use Rattle.worker_calls.specs.State.{Worker, idle}
use Rattle.worker_engine.specs.Packets.{Received, offer_of}
use Rattle.worker_engine.specs.Run.{bound}
use Rattle.worker_engine.specs.Emits.{ConsumerKey, sink_at, calls_of, calls_from, stays, emits_from}

abbrev id : ℕ → Id
id n = record { 0 = n ∷ [] }

abbrev key : ℕ → ConsumerKey
key n = record { router = id 1; consumer = id n }

module _ (source : Source) (flags : Flags) (mapped : Mapped) where
  abbrev sink : Sink
  sink = record { id = id 20; transport = id 3; producer = id 10; flags = flags; streams = [] }

  abbrev worker : Worker
  worker = record idle {
    routers = record {
      id = id 1;
      router = record { transports = record { id = id 3; transport = transport.Pipe None } ∷ []; producers = source ∷ []; consumers = sink ∷ [] };
    } ∷ [];
  }

  -- a packet that a Producer of an id in a Router received
  abbrev got : ℕ → ℕ → Received
  got router producer = record { router = id router; producer = record source { id = id producer }; mapped = mapped; packet = [] }

  there-row : sink_at worker (key 20) ≡ Some sink
  there-row = refl

  nobody-row : sink_at worker (key 21) ≡ None
  nobody-row = refl

  -- its own Producer's packet is offered to it behind its flags
  own-row : calls_of (key 20) (Some (got 1 10)) (Some sink) ≡ set_flags flags ∷ pass (offer_of (got 1 10)) ∷ []
  own-row = refl

  other-producer-row : calls_of (key 20) (Some (got 1 11)) (Some sink) ≡ set_flags flags ∷ []
  other-producer-row = refl

  -- a Producer of the same id in another Router
  other-router-row : calls_of (key 20) (Some (got 2 10)) (Some sink) ≡ set_flags flags ∷ []
  other-router-row = refl

  -- a port for which no link waits changes nothing
  port-row : calls_from worker (bound (Some 40000) ∷ bound None ∷ []) (key 20) ≡ set_flags flags ∷ set_flags flags ∷ []
  port-row = refl

  stays-row : stays worker (bound None ∷ []) (key 20) ≡ true
  stays-row = refl

  gone-row : stays worker (bound None ∷ []) (key 21) ≡ false
  gone-row = refl

  silent-row : emits_from worker (bound None ∷ []) (key 20) ≡ []
  silent-row = refl
