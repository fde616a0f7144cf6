-- What parts of a step do to the code's tables, and what a host keeps beside its journal. This project's own.
use Rattle.std.specs.Prelude.{◌≡◌, ◌≤◌, ◌<◌, ◌+◌, ◌^◌, ℕ, List, map, ◌++◌, ◌&&◌, Bool, false, ⊤, Option, Some, None}
use Rattle.ms_base.specs.declared.id.Id.{Id}
use Rattle.ms_base.specs.declared.keys.Kind.TheVariants as kind
use Rattle.ms_base.specs.declared.keys.Serial.{Serial}
use Rattle.ms_base.specs.declared.keys.WorkerKey.{WorkerKey}
use Rattle.ms_base.specs.declared.entry.Entry.{Entry}
use Rattle.ms_base.specs.declared.entry.Entry.TheVariants as entry
use Rattle.channel_frames.specs.Frames.{rest_of, is_broken}
use Rattle.journal_text.specs.Written.{journal_size, max_journal}
use Rattle.object_tree.specs.declared.object.Object.{Object}
use Rattle.request_build.specs.Known.{IsKnown}
use Rattle.reply_contents.specs.declared.content.Flags.{Flags}
use Rattle.host_model.specs.declared.due.Due.{Due}
use Rattle.host_model.specs.declared.due.Due.TheVariants as due
use Rattle.host_model.specs.Run.{Journal, state_of, notes_of}
use Rattle.host_model.specs.Sound.{IsSound}
use Rattle.host_model.specs.State.{State, Slot, is_up, stream_of}
use Rattle.host_model.specs.Step.{flagged, if_found, object_of, turns_with_its_producer}
use Rattle.host_tables.specs.Kept.{IsKept, IsNew}
use Rattle.host_tables.specs.LookUps.{counted, shown_of}
use Rattle.host_tables.specs.declared.tables.Tables.{Tables}
use Rattle.host_core.specs.Apply.{is_unbuilt_op}
use Rattle.host_core.specs.LookUps.{unread_of}
use Rattle.host_core.specs.declared.readers.Readers.{Readers}

-- it takes each sound state that the tables kept to the one that they keep now
abbrev pub Goes : (State → State) → Tables → Tables → Type 0
Goes part before now = (seed : ℕ) (s : State) → IsSound seed s → IsKept s before → IsKept (part s) now

-- the numbers that the next call draws fit their types
pub record HasRoom (t : Tables) : Type 0 where
  pub known : IsKnown t.kept t.next
  pub calls : (lane : ℕ) → counted t.calls lane + 1 < 2 ^ 32

-- the object that a request is to make can be added to the tree
abbrev pub IsDueNew : List Object → Due → Type 0
IsDueNew objects (due.Opens object keeps) = IsNew objects object
IsDueNew objects (due.Turns paused) = ⊤
IsDueNew objects due.Nothing = ⊤

-- ---- what a worker says

-- the slot of a worker that says something, and whose Worker this is
abbrev pub speaker : Slot → WorkerKey → Serial → Slot
speaker x worker object = record x { key = worker; worker = object }

-- the Producer of a Consumer was paused, or resumed
abbrev pub producer_told : Slot → Id → Bool → State → State
producer_told x id paused s = if_found x (turns_with_its_producer paused) (object_of x kind.Consumer id s) s

-- an object with the flags that were told of it, if they were
abbrev pub flagged_by : Option Flags → Object → Object
flagged_by None o = o
flagged_by (Some flags) o = flagged o flags

-- ---- streams

-- of each stream the rest behind its frames
abbrev pub IsRead : State → Readers → Type 0
IsRead s r = (worker : WorkerKey) → unread_of r worker ≡ rest_of (stream_of s.streams worker)

-- a call that is heard is built, and a chunk breaks no stream
abbrev pub CanHear : Tables → Readers → Entry → Type 0
CanHear t r (entry.Call lane o) = is_unbuilt_op o ≡ false
CanHear t r (entry.Chunk worker bytes) = (is_up t.slots.slots worker && is_broken (unread_of r worker ++ bytes)) ≡ false
CanHear t r other = ⊤

-- ---- a host is a run of its journal

-- all that is known is kept
pub record IsHeld (seed : ℕ) (s : State) (t : Tables) (r : Readers) : Type 0 where
  pub sound : IsSound seed s
  pub kept : IsKept s t
  pub read : IsRead s r

pub record IsRun (j : Journal) (spent : Bool) (size : ℕ) (tables : Tables) (readers : Readers) : Type 0 where
  pub seed_fits : j.seed < 2 ^ 60
  pub size_is : size ≡ journal_size j.seed j.entries
  pub within_limit : size ≤ max_journal
  pub notes_are : tables.notes ≡ notes_of j
  pub slots_show : tables.slots.shown ≡ map shown_of (state_of j).slots
  pub held : spent ≡ false → IsHeld j.seed (state_of j) tables readers
