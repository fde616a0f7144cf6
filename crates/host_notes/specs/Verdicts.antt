-- The verdict of a call, as it is read off the notes: that of its `settled` note. This project's own.
use Rattle.std.specs.Prelude.{List, [], ◌∷◌, Option, Some, None, if◌then◌else◌}
use Rattle.ms_base.specs.Outcome.{verdict_of_outcome}
use Rattle.ms_base.specs.declared.keys.CallKey.{CallKey}
use Rattle.ms_base.specs.declared.outcome.Verdict.{Verdict}
use Rattle.transcript.specs.declared.note.Note.{Note}
use Rattle.transcript.specs.declared.note.Note.TheVariants as note
use Rattle.host_notes.specs.Keys.{same_call}

abbrev pub settled_in : CallKey → Note → Option Verdict
settled_in key (note.Settled call outcome) = if same_call call key then Some (verdict_of_outcome outcome) else None
settled_in key other = None

abbrev pub first_of_two : Option Verdict → Option Verdict → Option Verdict
first_of_two (Some v) rest = Some v
first_of_two None rest = rest

abbrev pub verdict_in : List Note → CallKey → Option Verdict
verdict_in [] key = None
verdict_in (n ∷ ns) key = first_of_two (settled_in key n) (verdict_in ns key)
