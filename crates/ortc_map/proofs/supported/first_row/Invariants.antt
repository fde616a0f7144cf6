use Rattle.std.proofs.Common.{◌≡◌, drop, map}
use Rattle.std.specs.List.{find}
use Rattle.ortc_map.specs.Matching.{matches}
use Rattle.ortc_map.specs.Supported.{codec_of_row}
use Rattle.ortc_map.proofs.supported.first_row.Given as goal

-- the first of all is the first of those that are left
abbrev pub invariant-loop-row : goal.invariant-loop-row
invariant-loop-row l = find (matches l.codec) (map codec_of_row (drop l.row-index l.rows)) ≡ find (matches l.codec) (map codec_of_row l.rows)
