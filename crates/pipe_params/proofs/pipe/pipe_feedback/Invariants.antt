use Rattle.std.proofs.Common.{◌≡◌, take, filter}
use Rattle.pipe_params.specs.Pipe.{feedback_stays}
use Rattle.pipe_params.proofs.pipe.pipe_feedback.Given as goal

abbrev pub invariant-loop-each : goal.invariant-loop-each
invariant-loop-each l = l.kept.items ≡ filter (feedback_stays l.enable_rtx) (take l.each-index l.feedback)
