-- The transports that have a socket of their own.
use Rattle.std.specs.Prelude.{None}
use Rattle.plain_transport.specs.Connection.{unconnected}
use Rattle.worker_router.specs.declared.transport.Transport.{Transport}
use Rattle.worker_router.specs.declared.transport.Transport.TheVariants as transport
use Rattle.worker_calls.specs.declared.waiting.Socketed.{Socketed}
use Rattle.worker_calls.specs.declared.waiting.Socketed.TheVariants as socketed

-- the transport, before any call
abbrev pub transport_to_be : Socketed → Transport
transport_to_be (socketed.Plain comedia) = transport.Plain (unconnected comedia)
transport_to_be socketed.Pipe = transport.Pipe None
