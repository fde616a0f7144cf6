use Rattle.std.proofs.Common.{◌≡◌, filter, take}
use Rattle.ortc_map.specs.ConsumerParams.{feedback_stays}
use Rattle.ortc_map.proofs.consumer.kept_feedback.Given as goal

abbrev pub invariant-loop-each : goal.invariant-loop-each
invariant-loop-each l = l.kept.items ≡ filter (feedback_stays l.exts) (take l.each-index l.feedback)
