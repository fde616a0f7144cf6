use Rattle.std.proofs.Common.{subst}
use Rattle.pending_calls.specs.Pending.{AreNumbered}
use Rattle.pending_calls.proofs.KeptLemmas.{numbered-kept}
use Rattle.pending_calls.proofs.pending.Pending.last.Goals as goal

pub returns-clause-numbered : goal.returns-clause-numbered
returns-clause-numbered c = subst AreNumbered c.self.view_is (numbered-kept c.self.inside.waiting.entries c.self.inside.last c.self.invariant.by_id)
