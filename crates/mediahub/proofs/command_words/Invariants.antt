use Rattle.std.proofs.Common.{◌≡◌, ◌++◌, drop, map, string_bytes, length}
use Rattle.std.specs.Vec.Iter.{into_iter_items}
use Rattle.mediahub.proofs.command_words.Given as goal

abbrev pub invariant-loop-word : goal.invariant-loop-word
invariant-loop-word l = map string_bytes (drop 1 (into_iter_items l.fn.args)) ≡ l.words.items ++ map string_bytes (into_iter_items l.rest)

abbrev pub decreases-loop-word : goal.decreases-loop-word
decreases-loop-word l = length (into_iter_items l.rest)
