use Rattle.std.proofs.Common.{Some, is_some, sym, ap}
use Rattle.request_build.specs.Counts.{key_of}
use Rattle.request_build.proofs.CountLemmas.{key-after}
use Rattle.request_build.proofs.router_ids.RouterIds.put.Goals as goal

pub returns-in-Some : goal.returns-in-Some
returns-in-Some c = λ there other other_id.
    key-after (key_of c.args.router c.args.id) c.args.self.now.counts (c.get_mut.follows.lender c.args.times) (Some c.args.times)
    ((c.get_mut.follows.holds c.args.times).3 (ap is_some (sym c.in-Some.ensures.value))) (key_of other other_id)
