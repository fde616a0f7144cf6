use Rattle.std.proofs.Common.{◌≡◌, ◌≤◌, ◌*◌, take}
use Rattle.std.specs.List.{sum_by}
use Rattle.request_build.specs.Asks.{ssrcs_for}
use Rattle.request_build.proofs.media.ssrcs_drawn.Given as goal

abbrev pub invariant-loop-encoding : goal.invariant-loop-encoding
invariant-loop-encoding l = (l.count ≡ sum_by ssrcs_for (take l.encoding-index l.encodings)) × (l.count ≤ 2 * l.encoding-index)
