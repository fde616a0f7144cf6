use Rattle.std.proofs.Common.{◌≡◌, ◌+◌, ◌-◌, ◌≤◌, length}
use Rattle.ms_devices.specs.Told.{Tells}
use Rattle.journal_text.specs.Written.{max_journal}
use Rattle.run_top.specs.Reading.{Moves}
use Rattle.run_top.proofs.read.fill.Given as goal

-- what the source no longer holds was added to the text, of which there is at most one byte past the limit
abbrev pub invariant-loop-text : goal.invariant-loop-text
invariant-loop-text g l = record {
  moved : Tells (Moves l.initial.text l.text) (g.S.Source.holds l.initial.source) (g.S.Source.holds l.source);
  still : g.S.Source.faults l.source ≡ g.S.Source.faults l.initial.source;
  few : length l.text ≤ max_journal + 1;
}

abbrev pub decreases-loop-text : goal.decreases-loop-text
decreases-loop-text g l = max_journal + 1 - length l.text
