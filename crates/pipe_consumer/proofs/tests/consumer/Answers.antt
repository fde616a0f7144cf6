use Rattle.std.proofs.Common.{refl}
use Rattle.std.specs.List.{IsDistinct}
use Rattle.pipe_consumer.proofs.tests.consumer.Goals as goal

pub new-requires-clause-different : goal.new-requires-clause-different
unfolding IsDistinct
new-requires-clause-different c = ((refl, tt), (tt, tt))
