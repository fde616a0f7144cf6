use Rattle.std.proofs.Common.{Some, is_some, sym, ap}
use Rattle.request_build.proofs.CountLemmas.{text-after}
use Rattle.request_build.proofs.names.Names.put.Goals as goal

pub returns-in-Some : goal.returns-in-Some
returns-in-Some c = λ there other.
    text-after c.as_str.result.now c.args.name.now c.as_str.ensures.value c.args.self.now.counts (c.get_mut.follows.lender c.args.times) (Some c.args.times)
    ((c.get_mut.follows.holds c.args.times).3 (ap is_some (sym c.in-Some.ensures.value))) other
