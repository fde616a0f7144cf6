-- A whole journal: its micro steps, what the host knows and has noted after them, and what is read off the notes.
-- This project's own.
use Rattle.std.specs.Prelude.{ℕ, ◌-◌, List, [], ◌∷◌, ◌++◌, length, map, drop, Bool, not, ◌&&◌, nat_le, if◌then◌else◌, Option, Some, None, flat_map, slice_get}
use Rattle.ms_base.specs.declared.applied.SlotLook.{SlotLook}
use Rattle.ms_base.specs.declared.applied.SlotLook.TheVariants as look
use Rattle.ms_base.specs.declared.keys.WorkerKey.{WorkerKey}
use Rattle.ms_base.specs.declared.entry.Entry.{Entry}
use Rattle.ms_base.specs.declared.entry.Entry.TheVariants as entry
use Rattle.channel_frames.specs.Frames.{new_frames, is_broken}
use Rattle.channel_msgs.specs.Read.{message_of}
use Rattle.transcript.specs.Lines.{note_line}
use Rattle.transcript.specs.declared.note.Note.{Note}
use Rattle.host_model.specs.State.{State, start, Slot, Phase, Wanted, Up, Over, is_up, is_wanted, stream_of}
use Rattle.host_notes.specs.Sent.{sent_of}
use Rattle.host_model.specs.Step.{Micro, Calls, Awaits, Starting, Comes, Says, Breaks, step, steps}

-- The journal of a host: the seed of its ids, and all that it has heard.
pub record Journal : Type 0 where
  pub seed : ℕ
  pub entries : List Entry

-- the journal with one entry more
abbrev pub with_entry : Journal → Entry → Journal
with_entry j e = record j { entries = j.entries ++ e ∷ [] }

-- ---- the micro steps of an entry

-- the stream of a worker breaks with these bytes
abbrev pub breaks_with : List ℕ → List ℕ → Bool
breaks_with stream bytes = is_broken (stream ++ bytes) && not (is_broken stream)

abbrev pub break_behind : WorkerKey → List ℕ → List ℕ → List Micro
break_behind worker stream bytes = if breaks_with stream bytes then Breaks worker ∷ [] else []

-- the bytes come, then each message is said that the stream has beyond those that it had, then it may break
abbrev pub chunk_micros : WorkerKey → List ℕ → List ℕ → List Micro
chunk_micros worker stream bytes =
    Comes worker bytes ∷ (map (λ payload. Says worker (message_of payload)) (new_frames stream bytes) ++ break_behind worker stream bytes)

-- none where the entry doesn't fit, or is not built
abbrev pub micros : State → Entry → List Micro
micros s (entry.Call lane op) = Calls lane op ∷ []
micros s (entry.Await lane name event count) = Awaits lane name event count ∷ []
micros s (entry.Spawned worker up) = if up && is_wanted s.slots worker then Starting worker ∷ [] else []
micros s (entry.Chunk worker bytes) = if is_up s.slots worker then chunk_micros worker (stream_of s.streams worker) bytes else []
micros s other = []

abbrev pub after : State → Entry → State
after s e = steps s (micros s e)

abbrev pub after_all : State → List Entry → State
after_all s [] = s
after_all s (e ∷ es) = after_all (after s e) es

-- what a host knows after a journal
abbrev pub state_of : Journal → State
state_of j = after_all (start j.seed) j.entries

-- what it has noted
abbrev pub notes_of : Journal → List Note
notes_of j = (state_of j).notes

-- the lines of its notes
abbrev pub transcript_of : Journal → List ℕ
transcript_of j = flat_map note_line (notes_of j)

-- ---- the micro steps of a whole journal, each in its moment

pub record Moment : Type 0 where
  pub before : State
  pub micro : Micro
  -- what followed from it
  pub notes : List Note

abbrev pub moment : State → Micro → Moment
moment s m = record { before = s; micro = m; notes = drop (length s.notes) (step s m).notes }

abbrev pub moments : State → List Micro → List Moment
moments s [] = []
moments s (m ∷ ms) = moment s m ∷ moments (step s m) ms

abbrev pub trace_from : State → List Entry → List Moment
trace_from s [] = []
trace_from s (e ∷ es) = moments s (micros s e) ++ trace_from (after s e) es

abbrev pub trace : Journal → List Moment
trace j = trace_from (start j.seed) j.entries

-- ---- the state of a slot

abbrev pub look_at : List Note → WorkerKey → Phase → SlotLook
look_at notes key Wanted = look.Want key.generation
look_at notes key Up = look.Live key.generation (length (sent_of notes key))
look_at notes key (Over died) = look.Over died

abbrev pub looked_at : List Note → Option Slot → SlotLook
looked_at notes None = look.Idle
looked_at notes (Some x) = look_at notes x.key x.phase

-- slots are numbered from 1
abbrev pub slot_look : State → ℕ → SlotLook
slot_look s slot = if nat_le 1 slot then looked_at s.notes (slice_get s.slots (slot - 1)) else look.Idle

-- ---- what contracts see of a host: its journal, and whether it has run out of memory

pub record HostView : Type 0 where
  pub journal : Journal
  pub spent : Bool
