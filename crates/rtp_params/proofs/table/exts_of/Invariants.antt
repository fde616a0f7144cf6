use Rattle.std.proofs.Common.{◌≡◌, map, take}
use Rattle.rtp_params.specs.Table.{ext_of_row}
use Rattle.rtp_params.proofs.table.exts_of.Given as goal

abbrev pub invariant-loop-row : goal.invariant-loop-row
invariant-loop-row l = l.exts.items ≡ map ext_of_row (take l.row-index l.rows)
