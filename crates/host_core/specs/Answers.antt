-- What the code has of the answer to a call: as much as is done of it. This project's own.
use Rattle.std.specs.Prelude.{◌≡◌, ◌≤◌, ◌<◌, ℕ, ◌+◌, List, length, false, Option, Some, None, if◌then◌else◌, ⊤}
use Rattle.ms_base.specs.Id.{id_bytes}
use Rattle.ms_base.specs.declared.keys.Kind.TheVariants as kind
use Rattle.ms_base.specs.declared.keys.Serial.{Serial}
use Rattle.ms_base.specs.declared.op.Op.{Op}
use Rattle.channel_frames.specs.Frames.{max_payload}
use Rattle.channel_msgs.specs.View.{RequestView}
use Rattle.pending_calls.specs.Pending.{max_id}
use Rattle.host_notes.specs.Sent.{max_packet}
use Rattle.host_requests.specs.Requests.{last_on}
use Rattle.object_tree.specs.declared.object.Object.{Object}
use Rattle.object_tree.specs.Objects.{is_open}
use Rattle.request_build.specs.Asks as asks
use Rattle.request_build.specs.Built.{max_slots}
use Rattle.request_build.specs.declared.built.Draws.{Draws}
use Rattle.host_model.specs.Answer as model
use Rattle.host_model.specs.declared.due.Due.{Due}
use Rattle.host_model.specs.State.{Slot, Wanted, as_serial}
use Rattle.host_model.specs.Step.{due_by}
use Rattle.host_tables.specs.Kept.{IsNew}
use Rattle.host_tables.specs.declared.tables.Tables.{Tables}
use Rattle.host_core.specs.declared.answer.Course.{Course}
use Rattle.host_core.specs.declared.answer.Course.TheVariants as code
use Rattle.host_core.specs.declared.answer.Placed.{Placed}
use Rattle.host_core.specs.declared.answer.Placed.TheVariants as placed

-- the serial of an object that is open
abbrev pub if_open : Object → Option Serial
if_open o = if is_open o then Some o.serial else None

-- a request of a call, as far as it is kept
pub record IsAsked (o : Op) (under : Serial) (due : Due) (next : Draws) (r : asks.Request) : Type 0 where
  pub under_is : r.under ≡ under
  pub due_is : due_by o r ≡ due
  pub next_is : r.next ≡ next

-- what the code has of an answer to a call is that of this one
abbrev pub IsAnswer : Op → Course → model.Answer → Type 0
IsAnswer o (code.Refuses outcome) a = a ≡ model.Refuses outcome
IsAnswer o (code.AddsWorker name budget) a = a ≡ model.AddsWorker name budget
IsAnswer o (code.Issues channel under due next payload) a = (r : asks.Request) × (a ≡ model.Issues r channel payload) × IsAsked o under due next r
IsAnswer o (code.Closes falls) a = (object : Object) × (a ≡ model.Closes object) × (falls ≡ if_open object)
IsAnswer o (code.Tells told) a = a ≡ model.Tells told
IsAnswer o (code.Sends channel producer packet) a = a ≡ model.Sends channel producer packet

-- its numbers fit
abbrev pub IsDue : Tables → Course → Type 0
IsDue t (code.AddsWorker name budget) = t.kept.slots < max_slots
IsDue t (code.Issues channel under due next payload) = (last_on t.requests channel < max_id) × (length payload ≤ max_payload)
IsDue t (code.Sends channel producer packet) = length packet ≤ max_packet
IsDue t other = ⊤

-- where a request goes, or why it doesn't
abbrev pub placed_as : asks.Request → Placed → model.Answer
placed_as r (placed.Refuses outcome) = model.Refuses outcome
placed_as r (placed.Issues channel payload) = model.Issues r channel payload

abbrev pub IsPlacedDue : Tables → Placed → Type 0
IsPlacedDue t (placed.Refuses outcome) = ⊤
IsPlacedDue t (placed.Issues channel payload) = (last_on t.requests channel < max_id) × (length payload ≤ max_payload)

-- a request without its id
abbrev pub unnumbered : asks.Request → RequestView
unnumbered r = record { id = 0; method = r.method; ids = r.ids; content = r.content }

-- a request with that place
abbrev pub issued_as : Serial → Due → Draws → Placed → Course
issued_as under due next (placed.Refuses outcome) = code.Refuses outcome
issued_as under due next (placed.Issues channel payload) = code.Issues channel under due next payload

-- ---- a Worker

-- the Worker that a call makes, with what is drawn next
abbrev pub worker_of : Draws → List ℕ → Object
worker_of next name =
    record {
      serial = as_serial next.serial;
      name = name;
      id = record { 0 = id_bytes next.seed next.serial };
      kind = kind.Worker;
      parent = None;
      worker = as_serial next.serial;
      producer = None;
      closed = None;
      paused = false;
      producer_paused = false;
      running = false;
      far = None;
    }

-- its slot, behind so many others
abbrev pub slot_of : ℕ → List ℕ → ℕ → Serial → Slot
slot_of before name budget worker =
    record { key = record { slot = before + 1; generation = 1 }; name = name; budget = budget; used = 0; phase = Wanted; worker = worker }

-- it can be added to the tree
abbrev pub IsFree : Tables → Course → Type 0
IsFree t (code.AddsWorker name budget) = IsNew t.tree (worker_of t.next name)
IsFree t other = ⊤
