-- What a micro step is made of: small changes of what the host knows, each told once. Between two of them something may be in
-- hand: calls that were entered and came to nothing yet, requests that were taken out and are still to be dealt with, and a
-- start that is still to be done.
use Rattle.std.proofs.Common.{◌≡◌, ◌<◌, ℕ, ◌+◌, List, [], ◌∷◌, ◌++◌, length, map, nat_le, nat_lt, Bool, true, false, cond, Option, Some, None, Result, Ok, Err, refl}
use Rattle.std.specs.Bool.{⊤}
use Rattle.std.specs.List.{AllByRecursion, filter}
use Rattle.std.specs.Option.{option_and_then, option_map}
use Rattle.std.proofs.lemmas.Bool.{ltb-true, leb-false}
use Rattle.serde_json.specs.Data.{Data}
use Rattle.ms_base.specs.declared.id.Id.{Id}
use Rattle.ms_base.specs.declared.keys.CallKey.{CallKey}
use Rattle.ms_base.specs.declared.keys.Event.{Event}
use Rattle.ms_base.specs.declared.keys.Kind.{Kind}
use Rattle.ms_base.specs.declared.keys.Kind.TheVariants as kind
use Rattle.ms_base.specs.declared.keys.Reason.{Reason}
use Rattle.ms_base.specs.declared.keys.Reason.TheVariants as reason
use Rattle.ms_base.specs.declared.keys.Serial.{Serial}
use Rattle.ms_base.specs.declared.keys.WorkerKey.{WorkerKey}
use Rattle.ms_base.specs.declared.op.Op.{Op}
use Rattle.ms_base.specs.declared.op.Op.TheVariants as op
use Rattle.ms_base.specs.declared.outcome.Outcome.{Outcome}
use Rattle.ms_base.specs.declared.outcome.Outcome.TheVariants as outcome
use Rattle.ms_base.specs.declared.tuple.Tuple.{Tuple}
use Rattle.channel_frames.specs.Frames.{max_payload}
use Rattle.channel_msgs.specs.Read.{max_id}
use Rattle.channel_msgs.specs.View.{MessageView, reply, notice, log, rtp, AnswerView, accepted, refused}
use Rattle.transcript.specs.declared.note.Note.{Note}
use Rattle.transcript.specs.declared.note.Note.TheVariants as note
use Rattle.object_tree.specs.declared.object.Mark.{Mark}
use Rattle.object_tree.specs.declared.object.Mark.TheVariants as mark
use Rattle.object_tree.specs.declared.object.Object.{Object}
use Rattle.object_tree.specs.Falls.{falls, is_among}
use Rattle.object_tree.specs.Objects.{is_open, marked, named, numbered, with_mark}
use Rattle.pending_calls.specs.declared.waiting.Owner.TheVariants as owner
use Rattle.request_build.specs.declared.built.BuildFault.{BuildFault}
use Rattle.request_build.specs.declared.built.BuildFault.TheVariants as fault
use Rattle.request_build.specs.declared.built.Keep.{Keep}
use Rattle.request_build.specs.Asks as asks
use Rattle.request_build.specs.Asks.{Built, Ask, Own}
use Rattle.request_build.specs.Built.{built}
use Rattle.request_build.specs.Close.{close_asked}
use Rattle.request_build.specs.Columns.{is_there, makes}
use Rattle.request_build.specs.Known.{above}
use Rattle.reply_contents.specs.Contents.{local_tuple, consume_flags}
use Rattle.reply_contents.specs.Notices.{told_of}
use Rattle.reply_contents.specs.declared.content.Flags.{Flags}
use Rattle.reply_contents.specs.declared.notice.Told.{Told}
use Rattle.reply_contents.specs.declared.notice.Told.TheVariants as told
use Rattle.request_contents.specs.Methods.{ids_of, method_of}
use Rattle.worker_requests.specs.declared.asked.Asked.{Asked}
use Rattle.host_awaits.specs.declared.entered.Await.{Await}
use Rattle.host_requests.specs.declared.request.Request.{Request}
use Rattle.host_requests.specs.Requests.{is_on, is_start_of, is_under}
use Rattle.host_model.specs.declared.due.Due.{Due}
use Rattle.host_model.specs.declared.due.Due.TheVariants as due
use Rattle.host_model.specs.State.{State, Slot, Stream, channel_of, issued, names_of, next_call, settled_where, stream_of, up_slot, waiting, waiting_for, with_stream, with_up}
use Rattle.host_model.specs.Answer.{Answer, Refuses, AddsWorker, Issues, Closes, Tells, Sends, answer, answered_by, asked, asked_payload, channel_to, closes, known, on_channel, own, payload_of, sends, sends_by, tells, unless_long}
use Rattle.host_model.specs.Changes.{all_noted, call_settled, is_quiet, noted, object_opened, owner_settled, request_issued, turn_notes, turned, turned_from}
use Rattle.host_model.specs.Falls.{all_closed, close_sent, close_sent_by, close_sent_to, close_sent_under, closes_sent, fallen, is_known, name_of, objects_closed, request_closed, requests_closed}
use Rattle.host_model.specs.Step.{Micro, Calls, Awaits, Starting, Comes, Says, Breaks, accepted_by, answered, awaited, called, comes_out, due_by, flagged, heard, heard_by, hear, if_found, is_starting, made, noticed, object_of, opened_by, packet_told, ran, replied_to, settle_awaits, settled_with, start_settled, step, worker_wanted}
use Rattle.host_model.proofs.Objects.{IsAlike, KeepsLinks, alike-itself}

-- ---- what is in hand

pub record Going : Type 0 where
  pub calls : List CallKey
  pub taken : List (Request Due)
  pub starts : List WorkerKey
  pub state : State

abbrev pub going : List CallKey → List (Request Due) → State → Going
going calls taken s = record { calls = calls; taken = taken; starts = []; state = s }

-- nothing is in hand
abbrev pub at_rest : State → Going
at_rest s = going [] [] s

-- a worker is to be started
abbrev pub starting : State → WorkerKey → Going
starting s worker = record (at_rest s) { starts = worker ∷ [] }

-- a note that says neither that a call has settled, nor that an object has opened or closed, nor that a request went to a
-- worker
abbrev pub IsPlain : Note → Type 0
IsPlain (note.Settled call outcome) = ⊥
IsPlain (note.Open serial kind name id) = ⊥
IsPlain (note.Closed serial name reason) = ⊥
IsPlain (note.Sent worker payload) = ⊥
IsPlain other = ⊤

-- the request, of which nothing is due any more
abbrev pub done : Request Due → Request Due
done r = record r { due = due.Nothing }

-- what a request is found by: its id on its channel, or the Worker that starts
pub data Key : Type 0 where
  reply_to : (worker : WorkerKey) → (id : ℕ) → Key
  start_of : (worker : Serial) → Key

abbrev pub has_key : Key → Request Due → Bool
has_key (reply_to worker id) r = is_on worker id r
has_key (start_of worker) r = is_start_of worker r

-- A request that a call comes to, with the next id of its channel.
pub record IsAsked (s : State) (op : Op) (r : asks.Request) (channel : WorkerKey) (payload : List ℕ) : Type 0 where
  pub built_is : built (known s) op ≡ Ok (Ask r)
  pub ids_left : issued s.requests channel < max_id
  pub written : payload ≡ asked_payload r (issued s.requests channel + 1)

-- the objects and slots have fallen, and the requests under them are settled
abbrev pub fallen_with : List Serial → Reason → State → State
fallen_with roots reason s =
    record (objects_closed (falls s.objects roots) roots reason s) { requests = settled_where (is_under (falls s.objects roots)) s.requests }

pub data Change : Going → Going → Type 0 where
  still : {g : Going} → Change g g
  both : {g h i : Going} → Change g h → Change h i → Change g i
  notes : {calls : List CallKey} {taken : List (Request Due)} {s : State} (ns : List Note) → AllByRecursion IsPlain ns
      → Change (going calls taken s) (going calls taken (all_noted ns s))
  slots : {s : State} (worker : WorkerKey) → Change (starting s worker) (at_rest (record s { slots = with_up worker s.slots }))
  streams : {calls : List CallKey} {taken : List (Request Due)} {s : State} (xs : List Stream) → Change (going calls taken s) (going calls taken (record s { streams = xs }))
  settles_call : {calls : List CallKey} {taken : List (Request Due)} {s : State} (call : CallKey) (outcome : Outcome) (names : List (List ℕ))
      → Change (going (call ∷ calls) taken s) (going calls taken (call_settled call outcome names s))
  awaits : {calls : List CallKey} {taken : List (Request Due)} {s : State} (a : Await)
      → Change (going (a.key ∷ calls) taken s) (going calls taken (record s { awaits = s.awaits ++ a ∷ [] }))
  asks_by : {calls : List CallKey} {taken : List (Request Due)} {s : State} (call : CallKey) (op : Op) (r : asks.Request) (channel : WorkerKey) (payload : List ℕ)
      → IsAsked s op r channel payload
      → Change (going (call ∷ calls) taken s) (going calls taken (request_issued channel (owner.Call call) r.under (due_by op r) payload (record s { next = r.next })))
  wants : {calls : List CallKey} {taken : List (Request Due)} {s : State} (call : CallKey) (name : List ℕ) (budget : ℕ)
      → Change (going (call ∷ calls) taken s) (going calls taken (worker_wanted call name budget s))
  asks_to_close : {calls : List CallKey} {taken : List (Request Due)} {s : State} (channel : WorkerKey) (parent : Serial) (asked : Asked) → issued s.requests channel < max_id
      → Change (going calls taken s)
      (going calls taken (request_issued channel owner.Close parent due.Nothing (payload_of (method_of asked) (ids_of asked) None (issued s.requests channel + 1)) s))
  takes : {calls : List CallKey} {taken : List (Request Due)} {s : State} (key : Key) (r : Request Due) → waiting_for (has_key key) s.requests ≡ Some r
      → Change (going calls taken s) (going calls (r ∷ taken) (record s { requests = settled_where (has_key key) s.requests }))
  takes_none : {calls : List CallKey} {taken : List (Request Due)} {s : State} (key : Key) → waiting_for (has_key key) s.requests ≡ None
      → Change (going calls taken s) (going calls taken (record s { requests = settled_where (has_key key) s.requests }))
  opens : {calls : List CallKey} {taken : List (Request Due)} {s : State} (r : Request Due) (object : Object) (keeps : Keep) (o : Object) → r.due ≡ due.Opens object keeps
      → IsAlike object o → o.closed ≡ object.closed → Change (going calls (r ∷ taken) s) (going calls (done r ∷ taken) (object_opened o keeps s))
  settles_taken : {calls : List CallKey} {taken : List (Request Due)} {s : State} (r : Request Due) (outcome : Outcome) (names : List (List ℕ))
      → Change (going calls (r ∷ taken) s) (going calls taken (owner_settled r.owner outcome names s))
  marks : {calls : List CallKey} {taken : List (Request Due)} {s : State} (serial : Serial) (m : Mark) → KeepsLinks m
      → Change (going calls taken s) (going calls taken (record s { objects = with_mark serial m s.objects }))
  falls_with : {calls : List CallKey} {s : State} (roots : List Serial) (why : Reason)
      → Change (going calls [] s) (going calls (map done (filter (is_under (falls s.objects roots)) (waiting s.requests))) (fallen_with roots why s))
  settles_awaits : {calls : List CallKey} {taken : List (Request Due)} {s : State} → Change (going calls taken s) (going calls taken (settle_awaits s))

-- ---- how a micro step begins: a call or an await is entered, and is in hand, or a start is

abbrev pub entering : State → ℕ → Going
entering s lane = going (next_call s.calls lane ∷ []) [] (record s { calls = s.calls ++ next_call s.calls lane ∷ [] })

-- no lane does it
abbrev pub IsQuiet : Micro → Type 0
IsQuiet (Calls lane op) = ⊥
IsQuiet (Awaits lane name event count) = ⊥
IsQuiet other = ⊤

pub data Entered (s : State) : Micro → Going → Type 0 where
  by_call : (lane : ℕ) (op : Op) → Entered s (Calls lane op) (entering s lane)
  by_await : (lane : ℕ) (name : List ℕ) (event : Event) (count : ℕ) → Entered s (Awaits lane name event count) (entering s lane)
  by_start : (worker : WorkerKey) → Entered s (Starting worker) (starting s worker)
  quietly : (m : Micro) → IsQuiet m → Entered s m (at_rest s)

-- what holds then
pub once-entered : (P : Going → Type 0) (s : State) → ((lane : ℕ) → P (entering s lane)) → ((worker : WorkerKey) → P (starting s worker)) → P (at_rest s) → (m : Micro) (g : Going)
    → Entered s m g → P g
once-entered P s here begins rest m g (by_call lane op) = here lane
once-entered P s here begins rest m g (by_await lane name event count) = here lane
once-entered P s here begins rest m g (by_start worker) = begins worker
once-entered P s here begins rest m g (quietly n q) = rest

-- a micro step: how it begins, and what it goes on to
pub record Steps (s : State) (m : Micro) (t : State) : Type 0 where
  pub start : Going
  pub entered : Entered s m start
  pub change : Change start (at_rest t)

-- ---- falls

all_closed-is : (calls : List CallKey) (rs : List (Request Due)) (s : State) → Change (going calls (map done rs) s) (going calls [] (all_closed rs s))
all_closed-is calls [] s = still
all_closed-is calls (r ∷ rs) s =
    both (settles_taken (done r) (outcome.Closed (name_of s.objects r.under)) (names_of r.due)) (all_closed-is calls rs (request_closed r s))

module _ (calls : List CallKey) where
  if-ids_left : (channel : WorkerKey) (asked : Asked) (parent : Serial) (s : State) (b : Bool) → nat_lt (issued s.requests channel) max_id ≡ b
      → Change (going calls [] s)
      (going calls []
      (cond b (request_issued channel owner.Close parent due.Nothing (payload_of (method_of asked) (ids_of asked) None (issued s.requests channel + 1)) s) s))
  if-ids_left channel asked parent s true e = asks_to_close channel parent asked (ltb-true (issued s.requests channel) max_id e)
  if-ids_left channel asked parent s false e = still

  sent_by-is : (channel : Option WorkerKey) (asked : Option Asked) (parent : Serial) (s : State) → Change (going calls [] s) (going calls [] (close_sent_by channel asked parent s))
  sent_by-is (Some channel) (Some asked) parent s = if-ids_left channel asked parent s (nat_lt (issued s.requests channel) max_id) refl
  sent_by-is (Some channel) None parent s = still
  sent_by-is None asked parent s = still

  unless-closed : (b : Bool) (s t : State) → Change (going calls [] s) (going calls [] t) → Change (going calls [] s) (going calls [] (cond b s t))
  unless-closed true s t h = still
  unless-closed false s t h = h

  sent_under-is : (parent : Option Serial) (fallen : List Serial) (o : Object) (s : State) → Change (going calls [] s) (going calls [] (close_sent_under parent fallen o s))
  sent_under-is None fallen o s = still
  sent_under-is (Some parent) fallen o s =
      unless-closed (is_among fallen parent) s (close_sent_by (channel_of s.slots o.worker) (close_asked s.objects o) parent s)
      (sent_by-is (channel_of s.slots o.worker) (close_asked s.objects o) parent s)

  sent_to-is : (o : Option Object) (fallen : List Serial) (s : State) → Change (going calls [] s) (going calls [] (close_sent_to o fallen s))
  sent_to-is None fallen s = still
  sent_to-is (Some o) fallen s = sent_under-is o.parent fallen o s

  closes-are_sent : (fallen roots : List Serial) (why : Reason) (serials : List Serial) (s : State) → Change (going calls [] s) (going calls [] (closes_sent fallen roots why serials s))
  closes-are_sent fallen roots why [] s = still
  closes-are_sent fallen roots why (serial ∷ serials) s =
      both (unless-closed (is_known why roots serial) s (close_sent_to (numbered s.objects serial) fallen s) (sent_to-is (numbered s.objects serial) fallen s))
      (closes-are_sent fallen roots why serials (close_sent fallen roots why serial s))

  pub fallen-is : (roots : List Serial) (why : Reason) (s : State) → Change (going calls [] s) (going calls [] (fallen roots why s))
  fallen-is roots why s =
      let down : List Serial = falls s.objects roots in
      both (falls_with roots why)
      (both (all_closed-is calls (filter (is_under down) (waiting s.requests)) (fallen_with roots why s))
      (closes-are_sent down roots why down (requests_closed down (objects_closed down roots why s))))

  closed-is : (b : Bool) (serial : Serial) (s : State) → Change (going calls [] s) (going calls [] (cond b (fallen (serial ∷ []) reason.Close s) s))
  closed-is true serial s = fallen-is (serial ∷ []) reason.Close s
  closed-is false serial s = still

-- ---- calls

-- what is known of an answer
abbrev pub IsFrom : State → Op → Answer → Type 0
IsFrom s op (Issues r channel payload) = IsAsked s op r channel payload
IsFrom s op other = ⊤

module _ (s : State) (op : Op) where
  long-from : (r : asks.Request) (channel : WorkerKey) (payload : List ℕ) (b : Bool) → IsAsked s op r channel payload
      → IsFrom s op (cond b (Refuses outcome.TooBig) (Issues r channel payload))
  long-from r channel payload true h = tt
  long-from r channel payload false h = h

  spent-from : (r : asks.Request) (channel : WorkerKey) (b : Bool) → nat_le max_id (issued s.requests channel) ≡ b → built (known s) op ≡ Ok (Ask r)
      → IsFrom s op (cond b (Refuses outcome.IdsSpent) (unless_long r channel (asked_payload r (issued s.requests channel + 1))))
  spent-from r channel true e h = tt
  spent-from r channel false e h =
      let payload = asked_payload r (issued s.requests channel + 1) in
      long-from r channel payload (nat_lt max_payload (length payload))
      (record { built_is = h; ids_left = leb-false max_id (issued s.requests channel) e; written = refl })

  channel-from : (r : asks.Request) (channel : Option WorkerKey) → built (known s) op ≡ Ok (Ask r) → IsFrom s op (on_channel s r channel)
  channel-from r None h = tt
  channel-from r (Some channel) h = spent-from r channel (nat_le max_id (issued s.requests channel)) refl h

  closes-from : (o : Option Object) → IsFrom s op (closes o)
  closes-from None = tt
  closes-from (Some o) = tt

  tells-from : (b : Option Bool) → IsFrom s op (tells b)
  tells-from None = tt
  tells-from (Some b) = tt

  sends_by-from : (producer : Id) (packet : List ℕ) (channel : Option WorkerKey) → IsFrom s op (sends_by producer packet channel)
  sends_by-from producer packet None = tt
  sends_by-from producer packet (Some channel) = tt

  sends-from : (packet : List ℕ) (o : Option Object) → IsFrom s op (sends s packet o)
  sends-from packet None = tt
  sends-from packet (Some o) = sends_by-from o.id packet (channel_to s o)

own-from : (s : State) (asked own_op : Op) (b : Option Bool) → IsFrom s asked (own s own_op b)
own-from s asked (op.Worker name budget) b = tt
own-from s asked (op.Close name) b = closes-from s asked (named s.objects name)
own-from s asked (op.Send producer packet) b = sends-from s asked packet (named s.objects producer)
own-from s asked other b = tells-from s asked b

pub answered-from : (s : State) (op : Op) (b : Result Built BuildFault) → built (known s) op ≡ b → IsFrom s op (answered_by s op b)
answered-from s op (Err (fault.Refused outcome)) e = tt
answered-from s op (Err fault.NoMemory) e = tt
answered-from s op (Ok (Ask r)) e = channel-from s op r (option_and_then (channel_to s) (numbered s.objects r.under)) e
answered-from s op (Ok (Own told)) e = own-from s op op told

-- the call is in hand
answered-is : (s : State) (call : CallKey) (op : Op) (a : Answer) → IsFrom s op a → Change (going (call ∷ []) [] s) (at_rest (answered call op a s))
answered-is s call op (Refuses outcome) h = settles_call call outcome (makes op)
answered-is s call op (AddsWorker name budget) h = wants call name budget
answered-is s call op (Issues r channel payload) h = asks_by call op r channel payload h
answered-is s call op (Closes object) h = both (closed-is (call ∷ []) (is_open object) object.serial s) (settles_call call outcome.Done [])
answered-is s call op (Tells told) h = settles_call call (outcome.Answer told) []
answered-is s call op (Sends channel producer packet) h = both (notes (note.SentRtp channel producer packet ∷ []) (tt, tt)) (settles_call call outcome.Done [])

-- no answer looks at the calls
pub from-entered : (s : State) (calls : List CallKey) (op : Op) (a : Answer) → IsFrom s op a → IsFrom (record s { calls = calls }) op a
from-entered s calls op (Refuses outcome) h = tt
from-entered s calls op (AddsWorker name budget) h = tt
from-entered s calls op (Issues r channel payload) h = record { built_is = h.built_is; ids_left = h.ids_left; written = h.written }
from-entered s calls op (Closes object) h = tt
from-entered s calls op (Tells told) h = tt
from-entered s calls op (Sends channel producer packet) h = tt

called-is : (s : State) (lane : ℕ) (op : Op) → Change (entering s lane) (at_rest (called lane op s))
called-is s lane op =
    let call = next_call s.calls lane in
    answered-is (record s { calls = s.calls ++ call ∷ [] }) call op (answer s op)
    (from-entered s (s.calls ++ call ∷ []) op (answer s op) (answered-from s op (built (known s) op) refl))

awaited-is : (s : State) (lane : ℕ) (name : List ℕ) (event : Event) (count : ℕ) → Change (entering s lane) (at_rest (awaited lane name event count s))
awaited-is s lane name event count = awaits (record { key = next_call s.calls lane; name = name; event = event; count = count })

-- ---- what a worker says

module _ (s : State) where
  one-noted : (n : Note) → IsPlain n → Change (at_rest s) (at_rest (noted n s))
  one-noted n h = notes (n ∷ []) (h, tt)

-- the object that is made is the one that was due, but for its flags
pub record IsMade (object o : Object) : Type 0 where
  pub alike : IsAlike object o
  pub opened : o.closed ≡ object.closed

abbrev pub IsMadeIfAny : Object → Option Object → Type 0
IsMadeIfAny object None = ⊤
IsMadeIfAny object (Some o) = IsMade object o

made-itself : (object : Object) → IsMade object object
made-itself object = record { alike = alike-itself object; opened = refl }

made-by-tuple : (object : Object) (tuple : Option Tuple) → IsMadeIfAny object (option_map (λ t. object) tuple)
made-by-tuple object None = tt
made-by-tuple object (Some tuple) = made-itself object

made-by-flags : (object : Object) (f : Option Flags) → IsMadeIfAny object (option_map (flagged object) f)
made-by-flags object None = tt
made-by-flags object (Some f) = record { alike = record { serial = refl; id = refl; kind = refl; parent = refl; name = refl; far = refl; worker = refl; producer = refl }; opened = refl }

pub made-is : (object : Object) (k : Kind) (content : Option Data) → IsMadeIfAny object (made object k content)
made-is object kind.Plain content = made-by-tuple object (local_tuple content)
made-is object kind.Pipe content = made-by-tuple object (local_tuple content)
made-is object kind.Consumer content = made-by-flags object (consume_flags content)
made-is object kind.Worker content = made-itself object
made-is object kind.Router content = made-itself object
made-is object kind.Direct content = made-itself object
made-is object kind.Producer content = made-itself object

turn-plain : (before after : Object) (b c : Bool)
    → AllByRecursion IsPlain (cond b (cond c [] (note.Resumed after.name ∷ [])) (cond c (note.Paused after.name ∷ []) []))
turn-plain before after true true = tt
turn-plain before after true false = (tt, tt)
turn-plain before after false true = (tt, tt)
turn-plain before after false false = tt

module _ (taken : List (Request Due)) where
  turned_from-is : (s : State) (serial : Serial) (m : Mark) → KeepsLinks m → (o : Option Object) → Change (going [] taken s) (going [] taken (turned_from o m s))
  turned_from-is s serial m keeps None = still
  turned_from-is s serial m keeps (Some o) = at (is_open o)
    where
      at : (b : Bool) → Change (going [] taken s) (going [] taken (cond b (all_noted (turn_notes o (marked m o)) (record s { objects = with_mark o.serial m s.objects })) s))
      at true = both (marks o.serial m keeps) (notes (turn_notes o (marked m o)) (turn-plain o (marked m o) (is_quiet o) (is_quiet (marked m o))))
      at false = still

  turned-is : (s : State) (serial : Serial) (m : Mark) → KeepsLinks m → Change (going [] taken s) (going [] taken (turned serial m s))
  turned-is s serial m keeps = turned_from-is s serial m keeps (numbered s.objects serial)

-- ---- a reply

opened_by-is : (s : State) (r : Request Due) (object : Object) (keeps : Keep) → r.due ≡ due.Opens object keeps → (o : Option Object) → IsMadeIfAny object o
    → Change (going [] (r ∷ []) s) (at_rest (opened_by r keeps o s))
opened_by-is s r object keeps is None h = settles_taken r _ (names_of r.due)
opened_by-is s r object keeps is (Some o) h = both (opens r object keeps o is h.alike h.opened) (settles_taken (done r) outcome.Done [])

accepted_by-is : (s : State) (r : Request Due) (content : Option Data) (d : Due) → r.due ≡ d → Change (going [] (r ∷ []) s) (at_rest (accepted_by d content r s))
accepted_by-is s r content (due.Opens object keeps) is = opened_by-is s r object keeps is (made object object.kind content) (made-is object object.kind content)
accepted_by-is s r content (due.Turns paused) is = both (turned-is (r ∷ []) s r.under (mark.Paused paused) tt) (settles_taken r outcome.Done [])
accepted_by-is s r content due.Nothing is = settles_taken r outcome.Done []

settled_with-is : (s : State) (r : Request Due) (a : AnswerView) → Change (going [] (r ∷ []) s) (at_rest (settled_with a r s))
settled_with-is s r (accepted content) = accepted_by-is s r content r.due refl
settled_with-is s r (refused error why) = settles_taken r (outcome.Worker error why) (names_of r.due)

replied-is : (s : State) (worker : WorkerKey) (id : ℕ) (a : AnswerView) (r : Option (Request Due)) → waiting_for (has_key (reply_to worker id)) s.requests ≡ r
    → Change (at_rest s) (at_rest (replied_to r worker id a s))
replied-is s worker id a None e = one-noted s (note.Late worker id) tt
replied-is s worker id a (Some r) e =
    both (takes (reply_to worker id) r e) (settled_with-is (record s { requests = settled_where (has_key (reply_to worker id)) s.requests }) r a)

-- ---- a notice

stray-is : (s : State) (x : Slot) → Change (at_rest s) (at_rest (noted (note.Stray x.key) s))
stray-is s x = one-noted s (note.Stray x.key) tt

start-is : (s : State) (x : Slot) (r : Option (Request Due)) → waiting_for (has_key (start_of x.worker)) s.requests ≡ r
    → Change (at_rest s)
    (at_rest
    (start_settled r
    (noted (note.Running x.name x.key.generation)
    (record s { objects = with_mark x.worker mark.Running s.objects; requests = settled_where (is_start_of x.worker) s.requests }))))
start-is s x None e = both (takes_none (start_of x.worker) e) (both (marks x.worker mark.Running tt) (notes (note.Running x.name x.key.generation ∷ []) (tt, tt)))
start-is s x (Some r) e =
    both (takes (start_of x.worker) r e)
    (both (marks x.worker mark.Running tt) (both (notes (note.Running x.name x.key.generation ∷ []) (tt, tt)) (settles_taken r outcome.Done [])))

says_it_runs-is : (s : State) (x : Slot) (b : Bool) → Change (at_rest s) (at_rest (cond b (ran x s) (noted (note.Stray x.key) s)))
says_it_runs-is s x true = start-is s x (waiting_for (is_start_of x.worker) s.requests) refl
says_it_runs-is s x false = stray-is s x

if_found-is : (s : State) (x : Slot) (change : Object → State → State) → ((o : Object) → Change (at_rest s) (at_rest (change o s))) → (o : Option Object)
    → Change (at_rest s) (at_rest (if_found x change o s))
if_found-is s x change h None = stray-is s x
if_found-is s x change h (Some o) = h o

noticed-is : (s : State) (x : Slot) (t : Told) → Change (at_rest s) (at_rest (noticed x t s))
noticed-is s x told.Running = says_it_runs-is s x (is_starting (numbered s.objects x.worker))
noticed-is s x (told.ProducerClosed id) = if_found-is s x _ (λ o. fallen-is [] (o.serial ∷ []) reason.ProducerClose s) (object_of x kind.Consumer id s)
noticed-is s x (told.ProducerPaused id) = if_found-is s x _ (λ o. turned-is [] s o.serial (mark.ProducerPaused true) tt) (object_of x kind.Consumer id s)
noticed-is s x (told.ProducerResumed id) = if_found-is s x _ (λ o. turned-is [] s o.serial (mark.ProducerPaused false) tt) (object_of x kind.Consumer id s)
noticed-is s x (told.TupleLearnt id tuple) = if_found-is s x _ (λ o. one-noted s (note.Tuple o.name tuple) tt) (object_of x kind.Plain id s)
noticed-is s x told.Other = stray-is s x

packet-is : (s : State) (x : Slot) (packet : List ℕ) (o : Option Object) → Change (at_rest s) (at_rest (packet_told x packet o s))
packet-is s x packet None = stray-is s x
packet-is s x packet (Some o) = at (is_there kind.Direct (above s.objects o))
  where
    at : (b : Bool) → Change (at_rest s) (at_rest (cond b (comes_out packet o s) (noted (note.Stray x.key) s)))
    at true = one-noted s (note.Rtp o.name packet) tt
    at false = stray-is s x

heard-is : (s : State) (x : Slot) (said : Option MessageView) → Change (at_rest s) (at_rest (heard x said s))
heard-is s x None = one-noted s (note.Unexpected x.key) tt
heard-is s x (Some (reply r)) = replied-is s x.key r.id r.answer (waiting_for (is_on x.key r.id) s.requests) refl
heard-is s x (Some (notice n)) = noticed-is s x (told_of n)
heard-is s x (Some (log level text)) = one-noted s (note.Log x.key level text) tt
heard-is s x (Some (rtp id packet)) = packet-is s x packet (object_of x kind.Consumer id s)

heard_by-is : (s : State) (x : Option Slot) (said : Option MessageView) → Change (at_rest s) (at_rest (heard_by x said s))
heard_by-is s None said = still
heard_by-is s (Some x) said = heard-is s x said

-- ---- each micro step

quiet-steps : (s : State) (m : Micro) → IsQuiet m → Change (at_rest s) (at_rest (hear s m)) → Steps s m (hear s m)
quiet-steps s m q change = record { start = at_rest s; entered = quietly m q; change = change }

hear-is : (s : State) (m : Micro) → Steps s m (hear s m)
hear-is s (Calls lane op) = record { start = entering s lane; entered = by_call lane op; change = called-is s lane op }
hear-is s (Awaits lane name event count) = record { start = entering s lane; entered = by_await lane name event count; change = awaited-is s lane name event count }
hear-is s (Starting worker) = record { start = starting s worker; entered = by_start worker; change = both (slots worker) (notes (note.Up worker ∷ []) (tt, tt)) }
hear-is s (Comes worker bytes) = quiet-steps s (Comes worker bytes) tt (streams (with_stream s.streams worker (stream_of s.streams worker ++ bytes)))
hear-is s (Says worker said) = quiet-steps s (Says worker said) tt (heard_by-is s (up_slot s.slots worker) said)
hear-is s (Breaks worker) = quiet-steps s (Breaks worker) tt still

pub step-is : (s : State) (m : Micro) → Steps s m (step s m)
step-is s m = let heard_is = hear-is s m in record { start = heard_is.start; entered = heard_is.entered; change = both heard_is.change settles_awaits }
