-- The small changes that a micro step is made of, each with its notes: what settles, opens, turns and goes out. This project's own.
use Rattle.std.specs.Prelude.{ℕ, ◌+◌, List, [], ◌∷◌, ◌++◌, Bool, ◌&&◌, ◌||◌, if◌then◌else◌, Option, Some, None}
use Rattle.std.specs.BTreeMap.{insert_entry}
use Rattle.std.specs.Ordering.{nat_cmp}
use Rattle.ms_base.specs.declared.keys.CallKey.{CallKey}
use Rattle.ms_base.specs.declared.keys.Serial.{Serial}
use Rattle.ms_base.specs.declared.keys.WorkerKey.{WorkerKey}
use Rattle.ms_base.specs.declared.outcome.Outcome.{Outcome}
use Rattle.ms_base.specs.declared.outcome.Outcome.TheVariants as outcome
use Rattle.transcript.specs.declared.note.Note.{Note}
use Rattle.transcript.specs.declared.note.Note.TheVariants as note
use Rattle.object_tree.specs.declared.object.Mark.{Mark}
use Rattle.object_tree.specs.declared.object.Object.{Object}
use Rattle.object_tree.specs.Falls.{is_consumer}
use Rattle.object_tree.specs.Objects.{is_open, marked, numbered, with_mark, with_object}
use Rattle.pending_calls.specs.declared.waiting.Owner.{Owner}
use Rattle.pending_calls.specs.declared.waiting.Owner.TheVariants as owner
use Rattle.request_build.specs.declared.built.Keep.{Keep}
use Rattle.request_build.specs.declared.built.Keep.TheVariants as keep
use Rattle.request_build.specs.Known.{gone}
use Rattle.host_requests.specs.declared.request.Request.{Request}
use Rattle.host_requests.specs.declared.request.Via.TheVariants.{Channel}
use Rattle.host_model.specs.declared.due.Due.{Due}
use Rattle.host_model.specs.State.{State, Tables, issued, with_request}

-- ---- notes

abbrev pub noted : Note → State → State
noted n s = record s { notes = s.notes ++ n ∷ [] }

abbrev pub all_noted : List Note → State → State
all_noted ns s = record s { notes = s.notes ++ ns }

-- ---- calls that settle

-- the names that can't come any more, where a call that was to make them has this outcome
abbrev pub lost : Outcome → List (List ℕ) → List (List ℕ)
lost outcome.Done names = []
lost other names = names

-- a call has come to its outcome, which was to make these names
abbrev pub call_settled : CallKey → Outcome → List (List ℕ) → State → State
call_settled call outcome names s = noted (note.Settled call outcome) (record s { failed = s.failed ++ lost outcome names })

-- nobody waits for a close
abbrev pub owner_settled : Owner → Outcome → List (List ℕ) → State → State
owner_settled (owner.Call call) outcome names s = call_settled call outcome names s
owner_settled (owner.Job call part) outcome names s = s
owner_settled owner.Close outcome names s = s
owner_settled owner.Follow outcome names s = s

-- ---- objects that open

abbrev pub opened : Object → Note
opened o = note.Open o.serial o.kind o.name o.id

-- what is kept of an object that has opened
abbrev pub with_kept : Serial → Keep → Tables → Tables
with_kept serial (keep.Router caps) t = record t { routers = insert_entry nat_cmp t.routers serial.0 caps }
with_kept serial (keep.Producer offer) t = record t { producers = insert_entry nat_cmp t.producers serial.0 offer }
with_kept serial (keep.Consumer params) t = record t { consumers = insert_entry nat_cmp t.consumers serial.0 params }
with_kept serial (keep.Pipe enable_rtx) t = record t { pipes = insert_entry nat_cmp t.pipes serial.0 enable_rtx }
with_kept serial keep.Nothing t = t

-- nothing is kept any more of one that has closed
abbrev pub without : Serial → Tables → Tables
without serial t =
    record {
      routers = gone serial t.routers;
      producers = gone serial t.producers;
      consumers = gone serial t.consumers;
      pipes = gone serial t.pipes;
    }

-- an object stands in the tree, and so much is kept of it
abbrev pub object_opened : Object → Keep → State → State
object_opened o keeps s = noted (opened o) (record s { objects = with_object o s.objects; tables = with_kept o.serial keeps s.tables })

-- ---- pauses

-- a Consumer is quiet while it or its Producer is paused
abbrev pub is_quiet : Object → Bool
is_quiet o = o.paused || (is_consumer o.kind && o.producer_paused)

-- whether an object is quiet is noted where it changes
abbrev pub turn_notes : Object → Object → List Note
turn_notes before after =
    if is_quiet before then (if is_quiet after then [] else note.Resumed after.name ∷ [])
    else (if is_quiet after then note.Paused after.name ∷ [] else [])

abbrev pub turned_from : Option Object → Mark → State → State
turned_from None mark s = s
turned_from (Some o) mark s =
    if is_open o then all_noted (turn_notes o (marked mark o)) (record s { objects = with_mark o.serial mark s.objects }) else s

-- the open object of a serial is paused or resumed, or its Producer is
abbrev pub turned : Serial → Mark → State → State
turned serial mark s = turned_from (numbered s.objects serial) mark s

-- ---- requests that go out

abbrev pub new_request : WorkerKey → ℕ → Owner → Serial → Due → Request Due
new_request channel id owner under due = record { via = Channel channel id; owner = owner; under = under; due = due }

-- a request goes to a worker, with the next id of its channel
abbrev pub request_issued : WorkerKey → Owner → Serial → Due → List ℕ → State → State
request_issued channel owner under due payload s =
    let request : Request Due = new_request channel (issued s.requests channel + 1) owner under due in
    noted (note.Sent channel payload) (record s { requests = with_request request s.requests })
