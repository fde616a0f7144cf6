-- The line of a note. This project's own.
use Rattle.std.specs.Prelude.{ℕ, List, [], ◌∷◌, ◌++◌, Bool, codes, if◌then◌else◌}
use Rattle.hex.specs.Hex.{encode_lower}
use Rattle.serde_json.specs.Data.{string}
use Rattle.serde_json.specs.Written.{compact_text}
use Rattle.ms_base.specs.Code.{code_word}
use Rattle.ms_base.specs.Id.{id_text}
use Rattle.ms_base.specs.Words.{space, line_feed, spaced, worker_words, ip_text}
use Rattle.ms_base.specs.declared.keys.Kind.{Kind}
use Rattle.ms_base.specs.declared.keys.Kind.TheVariants as kind
use Rattle.ms_base.specs.declared.keys.Reason.{Reason}
use Rattle.ms_base.specs.declared.keys.Reason.TheVariants as reason
use Rattle.ms_base.specs.declared.outcome.Outcome.{Outcome}
use Rattle.ms_base.specs.declared.outcome.Outcome.TheVariants as outcome
use Rattle.ms_base.specs.declared.outcome.WorkerError.{WorkerError}
use Rattle.ms_base.specs.declared.outcome.WorkerError.TheVariants as error
use Rattle.transcript.specs.declared.note.Cause.{Cause}
use Rattle.transcript.specs.declared.note.Cause.TheVariants as cause
use Rattle.transcript.specs.declared.note.Note.{Note}
use Rattle.transcript.specs.declared.note.Note.TheVariants as note

abbrev pub kind_word : Kind → List ℕ
kind_word kind.Worker = codes "worker"
kind_word kind.Router = codes "router"
kind_word kind.Plain = codes "plain"
kind_word kind.Pipe = codes "pipe"
kind_word kind.Direct = codes "direct"
kind_word kind.Producer = codes "producer"
kind_word kind.Consumer = codes "consumer"

abbrev pub cause_word : Cause → List ℕ
cause_word cause.End = codes "end"
cause_word cause.Read = codes "read"
cause_word cause.Write = codes "write"
cause_word cause.Start = codes "start"
cause_word cause.Broken = codes "broken"

abbrev pub reason_word : Reason → List ℕ
reason_word reason.Close = codes "close"
reason_word reason.Died = codes "died"
reason_word reason.Stop = codes "stop"
reason_word reason.ProducerClose = codes "producerclose"
reason_word reason.Cleanup = codes "cleanup"
reason_word reason.WorkerClose = codes "workerclose"
reason_word reason.RouterClose = codes "routerclose"
reason_word reason.TransportClose = codes "transportclose"
reason_word reason.PipeClose = codes "pipeclose"

abbrev pub error_word : WorkerError → List ℕ
error_word error.TypeError = codes "TypeError"
error_word error.Error = codes "Error"
error_word error.BadData = codes "BadData"

-- a worker's reason stands as a JSON text in quotes
abbrev pub outcome_words : Outcome → List ℕ
outcome_words outcome.Done = codes "ok"
outcome_words (outcome.Answer answer) = if answer then codes "yes" else codes "no"
outcome_words outcome.NameTaken = codes "nametaken"
outcome_words outcome.NoName = codes "noname"
outcome_words outcome.WrongKind = codes "wrongkind"
outcome_words outcome.InvalidState = codes "invalidstate"
outcome_words (outcome.TypeError c) = codes "typeerror" ++ space ∷ code_word c
outcome_words (outcome.Unsupported c) = codes "unsupported" ++ space ∷ code_word c
outcome_words outcome.IdsSpent = codes "idsspent"
outcome_words outcome.TooBig = codes "toobig"
outcome_words (outcome.Worker e text) = codes "worker" ++ space ∷ error_word e ++ space ∷ compact_text (string text)
outcome_words (outcome.Closed by) = codes "closed" ++ space ∷ by
outcome_words outcome.Missed = codes "missed"

-- the words of a note, without the line feed
abbrev pub note_words : Note → List ℕ
note_words (note.Open serial k name id) = codes "open" ++ spaced serial.0 ++ space ∷ kind_word k ++ space ∷ name ++ space ∷ id_text id.0
note_words (note.Spawn worker) = codes "spawn" ++ worker_words worker
note_words (note.Up worker) = codes "up" ++ worker_words worker
note_words (note.Running name generation) = codes "running " ++ name ++ spaced generation
note_words (note.Gone worker c) = codes "gone" ++ worker_words worker ++ space ∷ cause_word c
note_words (note.Closed serial name r) = codes "closed" ++ spaced serial.0 ++ space ∷ name ++ space ∷ reason_word r
note_words (note.Sent worker payload) = codes "sent" ++ worker_words worker ++ space ∷ payload
note_words (note.SentRtp worker id packet) = codes "sent" ++ worker_words worker ++ codes " rtp " ++ id_text id.0 ++ space ∷ encode_lower packet
note_words (note.Settled call o) = codes "settled" ++ spaced call.lane ++ spaced call.place ++ space ∷ outcome_words o
note_words (note.Paused name) = codes "paused " ++ name
note_words (note.Resumed name) = codes "resumed " ++ name
note_words (note.Tuple name remote) = codes "tuple " ++ name ++ space ∷ ip_text remote.ip ++ spaced remote.port
note_words (note.Rtp name packet) = codes "rtp " ++ name ++ space ∷ encode_lower packet
note_words (note.Late worker id) = codes "late" ++ worker_words worker ++ spaced id
note_words (note.Stray worker) = codes "stray" ++ worker_words worker
note_words (note.Unexpected worker) = codes "unexpected" ++ worker_words worker
note_words (note.Log worker level text) = codes "log" ++ worker_words worker ++ space ∷ level ∷ space ∷ encode_lower text

abbrev pub note_line : Note → List ℕ
note_line n = note_words n ++ line_feed ∷ []
