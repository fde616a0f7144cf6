use Rattle.std.proofs.Common.{◌≡◌, ◌++◌, map, take, drop}
use Rattle.simple_consumer.specs.Sending.{behind_flags}
use Rattle.pipe_consumer.proofs.consumer.PipeConsumer.set_flags.Given as goal

-- the flags are set on the streams so far
abbrev pub invariant-loop-stream : goal.invariant-loop-stream
invariant-loop-stream l = l.stream-items ≡ map (λ s. behind_flags s l.flags) (take l.stream-index l.initial.stream-items) ++ drop l.stream-index l.initial.stream-items
