-- Worked rows for the line of a note.
use Rattle.std.specs.Prelude.{◌≡◌, List, [], ◌∷◌, ⊤, true, false, codes, map, refl}
use Rattle.std.specs.Char.{encode_utf8}
use Rattle.std.specs.Fmt.{digits}
use Rattle.std.specs.Str.{chars, is_utf8}
use Rattle.hex.specs.Hex.{encode_with}
use Rattle.serde_json.proofs.OnLiterals.{serde_json_on_literals}
use Rattle.ms_base.specs.Id.{id_bytes, id_text}
use Rattle.ms_base.specs.declared.code.Code.TheVariants as code
use Rattle.ms_base.specs.declared.keys.Kind.TheVariants as kind
use Rattle.ms_base.specs.declared.keys.Reason.TheVariants as reason
use Rattle.ms_base.specs.declared.keys.WorkerKey.{WorkerKey}
use Rattle.ms_base.specs.declared.outcome.Outcome.TheVariants as outcome
use Rattle.ms_base.specs.declared.outcome.WorkerError.TheVariants as error
use Rattle.transcript.specs.Lines.{note_line, outcome_words}
use Rattle.transcript.specs.declared.note.Cause.TheVariants as cause
use Rattle.transcript.specs.declared.note.Note.TheVariants as note

-- what a row unfolds to compute
unfoldable on_literals : ⊤
unfolding digits encode_with id_bytes id_text chars encode_utf8 is_utf8 serde_json_on_literals
on_literals = tt

abbrev pub worker : WorkerKey
worker = record { slot = 3; generation = 1 }

pub of_workers : map note_line (
    note.Up worker ∷ note.Gone worker cause.Broken ∷ note.Sent worker (codes "{}") ∷ note.SentRtp worker (record { 0 = id_bytes 7 5 }) (128 ∷ 111 ∷ [])
    ∷ note.Late worker 9 ∷ note.Log worker 87 (104 ∷ 105 ∷ []) ∷ []
    ) ≡ codes "up 3 1\n" ∷ codes "gone 3 1 broken\n" ∷ codes "sent 3 1 {}\n" ∷ codes "sent 3 1 rtp 00000000-0000-4007-8000-000000000005 806f\n"
    ∷ codes "late 3 1 9\n" ∷ codes "log 3 1 W 6869\n" ∷ []
unfolding on_literals
of_workers = refl

pub of_objects : map note_line (
    note.Open (record { 0 = 2 }) kind.Router (codes "r") (record { 0 = id_bytes 7 2 }) ∷ note.Running (codes "w") 1
    ∷ note.Closed (record { 0 = 8 }) (codes "k_b") reason.PipeClose ∷ note.Paused (codes "p") ∷ note.Resumed (codes "p")
    ∷ note.Tuple (codes "t") (record { ip = 10 ∷ 0 ∷ 0 ∷ 1 ∷ []; port = 5004 }) ∷ note.Rtp (codes "c") [] ∷ []
    ) ≡ codes "open 2 router r 00000000-0000-4007-8000-000000000002\n" ∷ codes "running w 1\n"
    ∷ codes "closed 8 k_b pipeclose\n" ∷ codes "paused p\n" ∷ codes "resumed p\n"
    ∷ codes "tuple t 10.0.0.1 5004\n" ∷ codes "rtp c \n" ∷ []
unfolding on_literals
of_objects = refl

pub of_a_call : note_line (note.Settled (record { lane = 1; place = 65 }) (outcome.TypeError code.Slots)) ≡ codes "settled 1 65 typeerror slots\n"
unfolding on_literals
of_a_call = refl

pub outcomes : map outcome_words (
    outcome.Answer true ∷ outcome.Answer false ∷ outcome.Unsupported code.Codecs ∷ outcome.Worker error.Error (codes "a\"b") ∷ outcome.Closed (codes "w") ∷ []
    ) ≡ codes "yes" ∷ codes "no" ∷ codes "unsupported codecs" ∷ codes "worker Error \"a\\\"b\"" ∷ codes "closed w" ∷ []
unfolding on_literals
outcomes = refl
