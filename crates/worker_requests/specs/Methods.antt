-- The table of a worker's methods, with the ids that `internal` names for each. This project's own, after mediasoup's
-- names of methods.
use Rattle.std.specs.Prelude.{ℕ, List, [], ◌∷◌, codes, bytes_eq, if◌then◌else◌, Option, Result, Ok, Err}
use Rattle.ms_base.specs.declared.id.Id.{Id}
use Rattle.channel_msgs.specs.View.{RequestView}
use Rattle.channel_msgs.specs.declared.message.Ids.{Ids}
use Rattle.worker_requests.specs.declared.asked.TransportIds.{TransportIds}
use Rattle.worker_requests.specs.declared.asked.ProducerIds.{ProducerIds}
use Rattle.worker_requests.specs.declared.asked.ConsumerIds.{ConsumerIds}
use Rattle.worker_requests.specs.declared.asked.Asked.{Asked}
use Rattle.worker_requests.specs.declared.asked.Asked.TheVariants as asked
use Rattle.worker_requests.specs.declared.refusal.Refusal.{Refusal}
use Rattle.worker_requests.specs.declared.refusal.Refusal.TheVariants as refusal
use Rattle.worker_requests.specs.Refusals.{or_refused, ◌>>=◌}

-- ---- the ids of an object and of those above it

-- an id that has to be there
abbrev pub needed : Option Id → Result Id Refusal
needed id = or_refused refusal.Internal id

unfoldable pub router_id : Ids → Result Id Refusal
router_id ids = needed ids.router

unfoldable pub transport_ids : Ids → Result TransportIds Refusal
transport_ids ids = do
  router ← needed ids.router
  transport ← needed ids.transport
  Ok (record { router = router; transport = transport })

unfoldable pub producer_ids : Ids → Result ProducerIds Refusal
producer_ids ids = do
  above ← transport_ids ids
  producer ← needed ids.producer
  Ok (record { router = above.router; transport = above.transport; producer = producer })

unfoldable pub consumer_ids : Ids → Result ConsumerIds Refusal
consumer_ids ids = do
  above ← producer_ids ids
  consumer ← needed ids.consumer
  Ok (record { router = above.router; transport = above.transport; producer = above.producer; consumer = consumer })

-- ---- the table

-- a method's name, and what it asks for by these ids
abbrev pub Row : Type 0
Row = List ℕ × (Ids → Result Asked Refusal)

abbrev pub of_router : (Id → Asked) → Ids → Result Asked Refusal
of_router make ids = router_id ids >>= (λ id. Ok (make id))

abbrev pub of_transport : (TransportIds → Asked) → Ids → Result Asked Refusal
of_transport make ids = transport_ids ids >>= (λ named. Ok (make named))

abbrev pub of_producer : (ProducerIds → Asked) → Ids → Result Asked Refusal
of_producer make ids = producer_ids ids >>= (λ named. Ok (make named))

abbrev pub of_consumer : (ConsumerIds → Asked) → Ids → Result Asked Refusal
of_consumer make ids = consumer_ids ids >>= (λ named. Ok (make named))

unfoldable pub methods : List Row
methods =
    (codes "worker.createRouter", of_router asked.CreateRouter)
    ∷ (codes "router.close", of_router asked.CloseRouter)
    ∷ (codes "router.createPlainTransport", of_transport asked.CreatePlainTransport)
    ∷ (codes "router.createPipeTransport", of_transport asked.CreatePipeTransport)
    ∷ (codes "router.createDirectTransport", of_transport asked.CreateDirectTransport)
    ∷ (codes "transport.close", of_transport asked.CloseTransport)
    ∷ (codes "transport.connect", of_transport asked.Connect)
    ∷ (codes "transport.produce", of_producer asked.Produce)
    ∷ (codes "transport.consume", of_consumer asked.Consume)
    ∷ (codes "producer.close", of_producer asked.CloseProducer)
    ∷ (codes "producer.pause", of_producer asked.PauseProducer)
    ∷ (codes "producer.resume", of_producer asked.ResumeProducer)
    ∷ (codes "consumer.close", of_consumer asked.CloseConsumer)
    ∷ (codes "consumer.pause", of_consumer asked.PauseConsumer)
    ∷ (codes "consumer.resume", of_consumer asked.ResumeConsumer)
    ∷ []

-- what the first row of this name asks for, or `method` where there is none
abbrev pub asked_by : List Row → List ℕ → Ids → Result Asked Refusal
asked_by [] method ids = Err refusal.Method
asked_by (row ∷ rows) method ids = if bytes_eq method row.0 then row.1 ids else asked_by rows method ids

-- what a request asks for: `method` where the table lacks its method, or else `internal` where an id that the row names isn't there
abbrev pub asked_of : RequestView → Result Asked Refusal
asked_of r = asked_by methods r.method r.ids
