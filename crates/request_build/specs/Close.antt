-- The request that closes an object in its worker. This project's own, after mediasoup's methods.
use Rattle.std.specs.Prelude.{List, Option, Some, None, option_and_then, option_map}
use Rattle.ms_base.specs.declared.keys.Kind.{Kind}
use Rattle.ms_base.specs.declared.keys.Kind.TheVariants as kind
use Rattle.object_tree.specs.declared.object.Object.{Object}
use Rattle.object_tree.specs.Objects.{numbered}
use Rattle.worker_requests.specs.declared.asked.Asked.{Asked}
use Rattle.worker_requests.specs.declared.asked.Asked.TheVariants as asked
use Rattle.request_build.specs.Asks.{consumer_ids, producer_ids, transport_ids}
use Rattle.request_build.specs.Known.{above}

-- a Router stands on a Worker, which has no id in it
abbrev pub router_close : List Object → Object → Option Asked
router_close objects router = option_map (λ worker. asked.CloseRouter router.id) (above objects router)

abbrev pub transport_close : List Object → Object → Option Asked
transport_close objects transport = option_map (λ router. asked.CloseTransport (transport_ids router transport)) (above objects transport)

-- with the transport that a stream is on, and the Router above that
abbrev pub on_transport : List Object → Object → (Object → Object → Option Asked) → Option Asked
on_transport objects stream asks =
    option_and_then (λ transport. option_and_then (λ router. asks router transport) (above objects transport)) (above objects stream)

abbrev pub producer_close : List Object → Object → Option Asked
producer_close objects producer = on_transport objects producer (λ router transport. Some (asked.CloseProducer (producer_ids router transport producer)))

abbrev pub consumer_close : List Object → Object → Option Asked
consumer_close objects consumer =
    on_transport objects consumer (λ router transport.
    option_map (λ producer. asked.CloseConsumer (consumer_ids router transport producer consumer)) (option_and_then (numbered objects) consumer.producer))

abbrev pub close_of : List Object → Object → Kind → Option Asked
close_of objects o kind.Worker = None
close_of objects o kind.Router = router_close objects o
close_of objects o kind.Plain = transport_close objects o
close_of objects o kind.Pipe = transport_close objects o
close_of objects o kind.Direct = transport_close objects o
close_of objects o kind.Producer = producer_close objects o
close_of objects o kind.Consumer = consumer_close objects o

-- a Worker is closed by the end of its process
abbrev pub close_asked : List Object → Object → Option Asked
close_asked objects o = close_of objects o o.kind
