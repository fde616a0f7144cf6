use Rattle.std.specs.List.{IsDistinct}
use Rattle.worker_router.proofs.tests.consume.Goals as goal

pub add_consumer-requires-clause-different : goal.add_consumer-requires-clause-different
unfolding IsDistinct
add_consumer-requires-clause-different c = (tt, tt)
