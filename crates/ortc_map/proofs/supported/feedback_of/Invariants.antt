use Rattle.std.proofs.Common.{◌≡◌, take, map}
use Rattle.ortc_map.specs.Supported.{feedback_of_row}
use Rattle.ortc_map.proofs.supported.feedback_of.Given as goal

abbrev pub invariant-loop-row : goal.invariant-loop-row
invariant-loop-row l = l.feedback.items ≡ map feedback_of_row (take l.row-index l.rows)
