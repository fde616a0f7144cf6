use Rattle.std.proofs.Common.{rules}
use Rattle.simple_consumer.specs.Sending.{behind_flags}
use Rattle.pipe_consumer.proofs.Mapped.{mapped-next}
use Rattle.pipe_consumer.proofs.consumer.PipeConsumer.set_flags.Goals as goal

pub loop-stream-preserved : goal.loop-stream-preserved
loop-stream-preserved c =
    mapped-next (λ s. behind_flags s c.args.flags) c.deref_mut-stream-items.result.now c.loop-stream.stream-items c.loop-stream.stream-index c.stream-item.result c.set_flags.new.self
    c.loop-stream-test.true c.loop-stream.invariant c.stream-item.is (search rules)
