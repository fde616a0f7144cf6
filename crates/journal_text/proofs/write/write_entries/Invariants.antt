use Rattle.std.proofs.Common.{◌≡◌, ◌++◌, take, flat_map}
use Rattle.journal_text.specs.Written.{entry_line}
use Rattle.journal_text.proofs.write.write_entries.Given as goal

abbrev pub invariant-loop-entry : goal.invariant-loop-entry
invariant-loop-entry l = l.into ≡ l.initial.into ++ flat_map entry_line (take l.entry-index l.entries)
