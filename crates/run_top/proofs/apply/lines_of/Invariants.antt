use Rattle.std.proofs.Common.{◌≡◌, take, flat_map}
use Rattle.transcript.specs.Lines.{note_line}
use Rattle.run_top.proofs.apply.lines_of.Given as goal

-- the lines of the notes so far
abbrev pub invariant-loop-note : goal.invariant-loop-note
invariant-loop-note l = l.lines ≡ flat_map note_line (take l.note-index l.notes)
