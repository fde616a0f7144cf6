-- One micro step of the host, as a function from what it knew to what it knows. This project's own, after mediasoup's calls and
-- the notifications of its worker.
use Rattle.std.specs.Prelude.{ℕ, ◌+◌, List, [], ◌∷◌, ◌++◌, length, map, Bool, true, false, not, ◌&&◌, if◌then◌else◌, Option, Some, None, option_map, bytes_eq}
use Rattle.std.specs.List.{list_any}
use Rattle.serde_json.specs.Data.{Data}
use Rattle.ms_base.specs.Id.{id_bytes}
use Rattle.ms_base.specs.declared.id.Id.{Id}
use Rattle.ms_base.specs.declared.keys.CallKey.{CallKey}
use Rattle.ms_base.specs.declared.keys.Event.{Event}
use Rattle.ms_base.specs.declared.keys.Kind.{Kind}
use Rattle.ms_base.specs.declared.keys.Kind.TheVariants as kind
use Rattle.ms_base.specs.declared.keys.Reason.TheVariants as reason
use Rattle.ms_base.specs.declared.keys.Serial.{Serial}
use Rattle.ms_base.specs.declared.keys.WorkerKey.{WorkerKey}
use Rattle.ms_base.specs.declared.op.Op.{Op}
use Rattle.ms_base.specs.declared.op.Op.TheVariants as op
use Rattle.ms_base.specs.declared.outcome.Outcome.{Outcome}
use Rattle.ms_base.specs.declared.outcome.Outcome.TheVariants as outcome
use Rattle.ms_base.specs.declared.outcome.WorkerError.TheVariants as worker_error
use Rattle.ms_base.specs.declared.tuple.Tuple.{Tuple}
use Rattle.channel_msgs.specs.View.{MessageView, reply, notice, log, rtp, AnswerView, accepted, refused}
use Rattle.transcript.specs.declared.note.Note.{Note}
use Rattle.transcript.specs.declared.note.Note.TheVariants as note
use Rattle.object_tree.specs.declared.object.Mark.TheVariants as mark
use Rattle.object_tree.specs.declared.object.Object.{Object}
use Rattle.object_tree.specs.Objects.{is_open, named, numbered, open_with_id, with_mark}
use Rattle.pending_calls.specs.declared.waiting.Owner.TheVariants as owner
use Rattle.request_build.specs.declared.built.Keep.{Keep}
use Rattle.request_build.specs.declared.built.Keep.TheVariants as keep
use Rattle.request_build.specs.Asks as asks
use Rattle.request_build.specs.Columns.{is_there, makes}
use Rattle.request_build.specs.Known.{above}
use Rattle.reply_contents.specs.Contents.{local_tuple, consume_flags}
use Rattle.reply_contents.specs.Notices.{told_of}
use Rattle.reply_contents.specs.declared.content.Flags.{Flags}
use Rattle.reply_contents.specs.declared.notice.Told.{Told}
use Rattle.reply_contents.specs.declared.notice.Told.TheVariants as told
use Rattle.host_awaits.specs.Awaits.{settled_by, times_noted, waiting_by}
use Rattle.host_requests.specs.declared.request.Request.{Request}
use Rattle.host_requests.specs.declared.request.Via.TheVariants.{Start}
use Rattle.host_requests.specs.Requests.{is_on, is_start_of}
use Rattle.host_model.specs.declared.due.Due.{Due}
use Rattle.host_model.specs.declared.due.Due.TheVariants as due
use Rattle.host_model.specs.State.{State, Slot, Wanted, as_serial, is_being_made, names_of, next_call, settled_where, stream_of, up_slot, waiting_for, with_request, with_stream, with_up}
use Rattle.host_model.specs.Answer.{Answer, Refuses, AddsWorker, Issues, Closes, Tells, Sends, answer}
use Rattle.host_model.specs.Changes.{call_settled, noted, object_opened, owner_settled, request_issued, turned}
use Rattle.host_model.specs.Falls.{fallen}

-- What the host may hear in one step.
pub data Micro : Type 0 where
  -- a lane makes a call
  Calls : (lane : ℕ) → (op : Op) → Micro
  -- a lane waits for so many notes of an event, for objects of a name
  Awaits : (lane : ℕ) → (name : List ℕ) → (event : Event) → (count : ℕ) → Micro
  -- a wanted worker was started
  Starting : (worker : WorkerKey) → Micro
  -- bytes come by the channel of a worker
  Comes : (worker : WorkerKey) → (bytes : List ℕ) → Micro
  -- a worker says something; none is a payload that no form of a message reads
  Says : (worker : WorkerKey) → (said : Option MessageView) → Micro
  -- a length over the limit stands in a frame's place
  Breaks : (worker : WorkerKey) → Micro

-- ---- a call

-- the first worker of a new slot
abbrev pub first_worker : List Slot → WorkerKey
first_worker slots = record { slot = length slots + 1; generation = 1 }

abbrev pub new_worker : State → List ℕ → Object
new_worker s name =
    record {
      serial = as_serial s.next.serial;
      name = name;
      id = record { 0 = id_bytes s.next.seed s.next.serial };
      kind = kind.Worker;
      parent = None;
      worker = as_serial s.next.serial;
      producer = None;
      closed = None;
      paused = false;
      producer_paused = false;
      running = false;
      far = None;
    }

abbrev pub new_slot : State → List ℕ → ℕ → Slot
new_slot s name budget =
    record { key = first_worker s.slots; name = name; budget = budget; used = 0; phase = Wanted; worker = as_serial s.next.serial }

-- a call that makes a Worker counts as issued under it
abbrev pub start_request : CallKey → Serial → Request Due
start_request call worker = record { via = Start; owner = owner.Call call; under = worker; due = due.Nothing }

-- a Worker stands in the tree from its call on, and its start is wanted
abbrev pub worker_wanted : CallKey → List ℕ → ℕ → State → State
worker_wanted call name budget s =
    let slot : Slot = new_slot s name budget in
    noted (note.Spawn slot.key)
    (object_opened (new_worker s name) keep.Nothing
    (record s {
      requests = with_request (start_request call slot.worker) s.requests;
      slots = s.slots ++ slot ∷ [];
      next = record s.next { serial = s.next.serial + 1 };
    }))

-- whether a call pauses or resumes
abbrev pub turn_of : Op → Option Bool
turn_of (op.Pause name) = Some true
turn_of (op.Resume name) = Some false
turn_of other = None

abbrev pub due_of : Option Bool → Option Object → Keep → Due
due_of turn (Some object) keeps = due.Opens object keeps
due_of (Some paused) None keeps = due.Turns paused
due_of None None keeps = due.Nothing

-- what the acceptance of a request that a call has asked for does: an object opens, or the one under which it was issued turns
abbrev pub due_by : Op → asks.Request → Due
due_by op r = due_of (turn_of op) r.makes r.keeps

-- a closed object doesn't close again
abbrev pub closed_if_open : Object → State → State
closed_if_open o s = if is_open o then fallen (o.serial ∷ []) reason.Close s else s

-- what a call has come to is done
abbrev pub answered : CallKey → Op → Answer → State → State
answered call op (Refuses outcome) s = call_settled call outcome (makes op) s
answered call op (AddsWorker name budget) s = worker_wanted call name budget s
answered call op (Issues r channel payload) s = request_issued channel (owner.Call call) r.under (due_by op r) payload (record s { next = r.next })
answered call op (Closes object) s = call_settled call outcome.Done [] (closed_if_open object s)
answered call op (Tells told) s = call_settled call (outcome.Answer told) [] s
answered call op (Sends channel producer packet) s = call_settled call outcome.Done [] (noted (note.SentRtp channel producer packet) s)

-- it counts in its lane, refused or not
abbrev pub called : ℕ → Op → State → State
called lane op s =
    let call : CallKey = next_call s.calls lane in answered call op (answer s op) (record s { calls = s.calls ++ call ∷ [] })

-- an await counts in its lane too
abbrev pub awaited : ℕ → List ℕ → Event → ℕ → State → State
awaited lane name event count s =
    let call : CallKey = next_call s.calls lane in
    record s { calls = s.calls ++ call ∷ []; awaits = s.awaits ++ record { key = call; name = name; event = event; count = count } ∷ [] }

-- ---- a start, and bytes of a channel

abbrev pub started : WorkerKey → State → State
started worker s = noted (note.Up worker) (record s { slots = with_up worker s.slots })

abbrev pub bytes_joined : WorkerKey → List ℕ → State → State
bytes_joined worker bytes s = record s { streams = with_stream s.streams worker (stream_of s.streams worker ++ bytes) }

-- ---- a response settles the request of its own id on its own channel

-- with the flags that the worker has told
abbrev pub flagged : Object → Flags → Object
flagged o f = record o { paused = f.paused; producer_paused = f.producer_paused }

-- the object that an accepted request makes; none where the content has not the form that its kind asks for
abbrev pub made : Object → Kind → Option Data → Option Object
made o kind.Plain content = option_map (λ tuple. o) (local_tuple content)
made o kind.Pipe content = option_map (λ tuple. o) (local_tuple content)
made o kind.Consumer content = option_map (flagged o) (consume_flags content)
made o other content = Some o

abbrev pub bad_data : Outcome
bad_data = outcome.Worker worker_error.BadData []

abbrev pub opened_by : Request Due → Keep → Option Object → State → State
opened_by r keeps None s = owner_settled r.owner bad_data (names_of r.due) s
opened_by r keeps (Some o) s = owner_settled r.owner outcome.Done [] (object_opened o keeps s)

abbrev pub accepted_by : Due → Option Data → Request Due → State → State
accepted_by (due.Opens object keeps) content r s = opened_by r keeps (made object object.kind content) s
accepted_by (due.Turns paused) content r s = owner_settled r.owner outcome.Done [] (turned r.under (mark.Paused paused) s)
accepted_by due.Nothing content r s = owner_settled r.owner outcome.Done [] s

abbrev pub settled_with : AnswerView → Request Due → State → State
settled_with (accepted content) r s = accepted_by r.due content r s
settled_with (refused error reason) r s = owner_settled r.owner (outcome.Worker error reason) (names_of r.due) s

abbrev pub replied_to : Option (Request Due) → WorkerKey → ℕ → AnswerView → State → State
replied_to None worker id answer s = noted (note.Late worker id) s
replied_to (Some r) worker id answer s = settled_with answer r (record s { requests = settled_where (is_on worker id) s.requests })

abbrev pub replied : WorkerKey → ℕ → AnswerView → State → State
replied worker id answer s = replied_to (waiting_for (is_on worker id) s.requests) worker id answer s

-- ---- a notice

abbrev pub stray : Slot → State → State
stray x s = noted (note.Stray x.key) s

abbrev pub start_settled : Option (Request Due) → State → State
start_settled None s = s
start_settled (Some r) s = owner_settled r.owner outcome.Done [] s

-- the Worker of a slot is running, and its call settles
abbrev pub ran : Slot → State → State
ran x s =
    start_settled (waiting_for (is_start_of x.worker) s.requests)
    (noted (note.Running x.name x.key.generation)
    (record s { objects = with_mark x.worker mark.Running s.objects; requests = settled_where (is_start_of x.worker) s.requests }))

abbrev pub is_starting : Option Object → Bool
is_starting None = false
is_starting (Some o) = is_open o && not o.running

-- the first counts
abbrev pub says_it_runs : Slot → State → State
says_it_runs x s = if is_starting (numbered s.objects x.worker) then ran x s else stray x s

-- an object of this kind and id, open and of this worker
abbrev pub object_of : Slot → Kind → Id → State → Option Object
object_of x of_kind id s = open_with_id s.objects x.worker of_kind id

abbrev pub if_found : Slot → (Object → State → State) → Option Object → State → State
if_found x change None s = stray x s
if_found x change (Some o) s = change o s

abbrev pub falls_with_its_producer : Object → State → State
falls_with_its_producer o s = fallen (o.serial ∷ []) reason.ProducerClose s

abbrev pub turns_with_its_producer : Bool → Object → State → State
turns_with_its_producer paused o s = turned o.serial (mark.ProducerPaused paused) s

abbrev pub learns : Tuple → Object → State → State
learns tuple o s = noted (note.Tuple o.name tuple) s

abbrev pub noticed : Slot → Told → State → State
noticed x told.Running s = says_it_runs x s
noticed x (told.ProducerClosed id) s = if_found x falls_with_its_producer (object_of x kind.Consumer id s) s
noticed x (told.ProducerPaused id) s = if_found x (turns_with_its_producer true) (object_of x kind.Consumer id s) s
noticed x (told.ProducerResumed id) s = if_found x (turns_with_its_producer false) (object_of x kind.Consumer id s) s
noticed x (told.TupleLearnt id tuple) s = if_found x (learns tuple) (object_of x kind.Plain id s) s
noticed x told.Other s = stray x s

-- ---- a packet of a Consumer on a direct transport

abbrev pub comes_out : List ℕ → Object → State → State
comes_out packet o s = noted (note.Rtp o.name packet) s

abbrev pub packet_told : Slot → List ℕ → Option Object → State → State
packet_told x packet None s = stray x s
packet_told x packet (Some o) s = if is_there kind.Direct (above s.objects o) then comes_out packet o s else stray x s

-- ---- what a worker says, which has the slot

abbrev pub heard : Slot → Option MessageView → State → State
heard x None s = noted (note.Unexpected x.key) s
heard x (Some (reply r)) s = replied x.key r.id r.answer s
heard x (Some (notice n)) s = noticed x (told_of n) s
heard x (Some (log level text)) s = noted (note.Log x.key level text) s
heard x (Some (rtp id packet)) s = packet_told x packet (object_of x kind.Consumer id s) s

-- a worker that isn't up says nothing
abbrev pub heard_by : Option Slot → Option MessageView → State → State
heard_by None said s = s
heard_by (Some x) said s = heard x said s

-- ---- what is heard, whatever it is

-- A break ends nothing yet: no journal with one is built.
abbrev pub hear : State → Micro → State
hear s (Calls lane op) = called lane op s
hear s (Awaits lane name event count) = awaited lane name event count s
hear s (Starting worker) = started worker s
hear s (Comes worker bytes) = bytes_joined worker bytes s
hear s (Says worker said) = heard_by (up_slot s.slots worker) said s
hear s (Breaks worker) = s

-- ---- awaits settle last

abbrev pub is_given_up : State → List ℕ → Option Object → Bool
is_given_up s name None = not (is_being_made s.requests name) && list_any (bytes_eq name) s.failed
is_given_up s name (Some o) = not (is_open o)

-- no note comes any more for a name: its latest object is closed, or it has neither an object nor a pending call, and a call that
-- was to make one has come to another outcome than Done
abbrev pub is_hopeless : State → List ℕ → Bool
is_hopeless s name = is_given_up s name (named s.objects name)

abbrev pub settled_note : CallKey × Outcome → Note
settled_note e = note.Settled e.0 e.1

abbrev pub settle_awaits : State → State
settle_awaits s =
    let times : List ℕ → Event → ℕ = times_noted s.notes in
    record s {
      notes = s.notes ++ map settled_note (settled_by times (is_hopeless s) s.awaits);
      awaits = waiting_by times (is_hopeless s) s.awaits;
    }

-- ---- one micro step, and several

abbrev pub step : State → Micro → State
step s m = settle_awaits (hear s m)

abbrev pub steps : State → List Micro → State
steps s [] = s
steps s (m ∷ ms) = steps (step s m) ms
