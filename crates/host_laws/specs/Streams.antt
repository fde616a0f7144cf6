-- What a micro step makes of the streams of all workers. This project's own.
use Rattle.std.specs.Prelude.{List, ◌++◌}
use Rattle.host_model.specs.State.{Stream, stream_of, with_stream}
use Rattle.host_model.specs.Step.{Micro, Comes}

-- bytes that come stand behind all that came before from their worker, and nothing else changes a stream
abbrev pub streams_behind : Micro → List Stream → List Stream
streams_behind (Comes worker bytes) streams = with_stream streams worker (stream_of streams worker ++ bytes)
streams_behind other streams = streams
