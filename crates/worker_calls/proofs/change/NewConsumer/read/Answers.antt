use Rattle.std.proofs.Common.{sym, ◌∙◌}
use Rattle.worker_calls.proofs.change.NewConsumer.read.Goals as goal

pub invariant_of-result : goal.invariant_of-result
invariant_of-result c = c.what_is_read_is_whole.ensures.consumed _ c.in-Some.content (sym c.in_ok-content.ensures ∙ c.in-Some.is)
