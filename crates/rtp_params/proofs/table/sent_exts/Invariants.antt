use Rattle.std.proofs.Common.{◌≡◌, take, map, filter}
use Rattle.rtp_params.specs.Table.{is_sent_for, ext_of_row}
use Rattle.rtp_params.proofs.table.sent_exts.Given as goal

abbrev pub invariant-loop-row : goal.invariant-loop-row
invariant-loop-row l = l.exts.items ≡ filter (is_sent_for l.media) (map ext_of_row (take l.row-index l.rows))
