use Rattle.std.proofs.Common.{None, arith}
use Rattle.request_build.specs.Counts.{key_of}
use Rattle.request_build.proofs.CountLemmas.{key-fewer}
use Rattle.request_build.proofs.router_ids.RouterIds.remove.Goals as goal

pub returns-else-times-gt1 : goal.returns-else-times-gt1
returns-else-times-gt1 c = λ other other_id.
    key-fewer (key_of c.args.router c.args.id) c.args.self.now.counts c.remove.new.self None c.remove.ensures.updates
    (omega (arith, c.times-times.ensures)) (key_of other other_id)
