use Rattle.std.proofs.Common.{◌≡◌, ◌++◌, map, drop}
use Rattle.std.specs.List.{zip}
use Rattle.pipe_consumer.specs.Streams.{stream_of, streams_of}
use Rattle.pipe_consumer.proofs.streams.new_streams.Given as goal

-- behind those so far stand the streams of what is left
abbrev pub invariant-loop-place : goal.invariant-loop-place
invariant-loop-place l = l.streams.items ++ map (stream_of l.params l.flags) (zip (drop l.place l.mapped) (drop l.place l.params.encodings)) ≡ streams_of l.params l.mapped l.flags
