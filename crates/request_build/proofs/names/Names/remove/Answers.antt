use Rattle.std.proofs.Common.{None, arith}
use Rattle.request_build.proofs.CountLemmas.{text-fewer}
use Rattle.request_build.proofs.names.Names.remove.Goals as goal

pub returns-else-times-gt1 : goal.returns-else-times-gt1
returns-else-times-gt1 c = λ other.
    text-fewer c.as_str.result.now c.args.name.now c.as_str.ensures.value c.args.self.now.counts c.remove.new.self None c.remove.ensures.updates
    (omega (arith, c.times-times.ensures)) other
