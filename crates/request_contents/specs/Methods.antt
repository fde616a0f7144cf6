-- The table of a worker's methods, as a host asks for them: the name of each, and the ids that `internal` names. This
-- project's own, after mediasoup's names of methods.
use Rattle.std.specs.Prelude.{ℕ, List, codes, Some, None}
use Rattle.ms_base.specs.declared.id.Id.{Id}
use Rattle.channel_msgs.specs.declared.message.Ids.{Ids}
use Rattle.worker_requests.specs.declared.asked.Asked.{Asked}
use Rattle.worker_requests.specs.declared.asked.Asked.TheVariants as asked
use Rattle.worker_requests.specs.declared.asked.TransportIds.{TransportIds}
use Rattle.worker_requests.specs.declared.asked.ProducerIds.{ProducerIds}
use Rattle.worker_requests.specs.declared.asked.ConsumerIds.{ConsumerIds}

abbrev pub method_of : Asked → List ℕ
method_of (asked.CreateRouter ids) = codes "worker.createRouter"
method_of (asked.CloseRouter ids) = codes "router.close"
method_of (asked.CreatePlainTransport ids) = codes "router.createPlainTransport"
method_of (asked.CreatePipeTransport ids) = codes "router.createPipeTransport"
method_of (asked.CreateDirectTransport ids) = codes "router.createDirectTransport"
method_of (asked.CloseTransport ids) = codes "transport.close"
method_of (asked.Connect ids) = codes "transport.connect"
method_of (asked.Produce ids) = codes "transport.produce"
method_of (asked.Consume ids) = codes "transport.consume"
method_of (asked.CloseProducer ids) = codes "producer.close"
method_of (asked.PauseProducer ids) = codes "producer.pause"
method_of (asked.ResumeProducer ids) = codes "producer.resume"
method_of (asked.CloseConsumer ids) = codes "consumer.close"
method_of (asked.PauseConsumer ids) = codes "consumer.pause"
method_of (asked.ResumeConsumer ids) = codes "consumer.resume"

-- ---- the ids of an object and of those above it

abbrev pub of_router : Id → Ids
of_router id = record { router = Some id; transport = None; producer = None; consumer = None }

abbrev pub of_transport : TransportIds → Ids
of_transport ids = record { router = Some ids.router; transport = Some ids.transport; producer = None; consumer = None }

abbrev pub of_producer : ProducerIds → Ids
of_producer ids = record { router = Some ids.router; transport = Some ids.transport; producer = Some ids.producer; consumer = None }

abbrev pub of_consumer : ConsumerIds → Ids
of_consumer ids = record { router = Some ids.router; transport = Some ids.transport; producer = Some ids.producer; consumer = Some ids.consumer }

abbrev pub ids_of : Asked → Ids
ids_of (asked.CreateRouter id) = of_router id
ids_of (asked.CloseRouter id) = of_router id
ids_of (asked.CreatePlainTransport ids) = of_transport ids
ids_of (asked.CreatePipeTransport ids) = of_transport ids
ids_of (asked.CreateDirectTransport ids) = of_transport ids
ids_of (asked.CloseTransport ids) = of_transport ids
ids_of (asked.Connect ids) = of_transport ids
ids_of (asked.Produce ids) = of_producer ids
ids_of (asked.Consume ids) = of_consumer ids
ids_of (asked.CloseProducer ids) = of_producer ids
ids_of (asked.PauseProducer ids) = of_producer ids
ids_of (asked.ResumeProducer ids) = of_producer ids
ids_of (asked.CloseConsumer ids) = of_consumer ids
ids_of (asked.PauseConsumer ids) = of_consumer ids
ids_of (asked.ResumeConsumer ids) = of_consumer ids
