use Rattle.std.proofs.Common.{sym, ◌∙◌}
use Rattle.worker_calls.proofs.change.NewProducer.read.Goals as goal

pub invariant_of-result : goal.invariant_of-result
invariant_of-result c = c.what_is_read_is_whole.ensures.produced _ c.in-Some.content (sym c.in_ok-content.ensures ∙ c.in-Some.is)
