use Rattle.std.proofs.Common.{◌≡◌, ◌+◌, ◌≤◌, length}
use Rattle.script_text.specs.Words.{lines}
use Rattle.script_text.specs.Script.{lanes_behind, script_lines, workers_of}
use Rattle.script_text.proofs.Rows.{lanes_from}
use Rattle.script_text.proofs.read.read_lanes.Given as goal

abbrev pub invariant-lines : goal.invariant-lines
invariant-lines l = record {
  same : lanes_behind (script_lines (lines l.text)) ≡ lanes_from l.number l.lanes (script_lines (lines l.rest));
  counted : l.workers ≡ workers_of l.lanes;
  few : l.workers + 2 ≤ l.number;
  room : l.number + length l.rest ≤ length l.text + 2;
}

abbrev pub decreases-lines : goal.decreases-lines
decreases-lines l = length l.rest
