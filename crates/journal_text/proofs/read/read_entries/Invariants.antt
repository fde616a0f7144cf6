use Rattle.std.proofs.Common.{◌≡◌, ◌+◌, ◌≤◌, length}
use Rattle.script_text.specs.Words.{lines}
use Rattle.journal_text.specs.Reading.{entries_of, with_front}
use Rattle.journal_text.proofs.read.read_entries.Given as goal

abbrev pub invariant-lines : goal.invariant-lines
invariant-lines l =
    (with_front l.entries.items (entries_of l.number (lines l.rest)) ≡ entries_of 2 (lines l.text))
    × (l.number + length l.rest ≤ length l.text + 2)

abbrev pub decreases-lines : goal.decreases-lines
decreases-lines l = length l.rest
