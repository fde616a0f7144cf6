-- What falls, in its three parts: the objects close, what waits under them settles, and their workers are asked to close them.
-- This project's own, after mediasoup's close events.
use Rattle.std.specs.Prelude.{ℕ, ◌+◌, List, [], ◌∷◌, filter, flat_map, map, Bool, true, false, nat_lt, if◌then◌else◌, Option, Some, None}
use Rattle.ms_base.specs.declared.keys.Reason.{Reason}
use Rattle.ms_base.specs.declared.keys.Reason.TheVariants as reason
use Rattle.ms_base.specs.declared.keys.Serial.{Serial}
use Rattle.ms_base.specs.declared.keys.WorkerKey.{WorkerKey}
use Rattle.ms_base.specs.declared.outcome.Outcome.TheVariants as outcome
use Rattle.channel_msgs.specs.Read.{max_id}
use Rattle.transcript.specs.declared.note.Note.{Note}
use Rattle.transcript.specs.declared.note.Note.TheVariants as note
use Rattle.object_tree.specs.declared.object.Object.{Object}
use Rattle.object_tree.specs.Falls.{falls, is_among, with_closed}
use Rattle.object_tree.specs.Objects.{numbered}
use Rattle.pending_calls.specs.declared.waiting.Owner.TheVariants as owner
use Rattle.request_build.specs.Close.{close_asked}
use Rattle.request_contents.specs.Methods.{ids_of, method_of}
use Rattle.worker_requests.specs.declared.asked.Asked.{Asked}
use Rattle.host_requests.specs.declared.request.Request.{Request}
use Rattle.host_requests.specs.Requests.{is_under}
use Rattle.host_model.specs.declared.due.Due.{Due}
use Rattle.host_model.specs.declared.due.Due.TheVariants as due
use Rattle.host_model.specs.State.{State, Slot, Over, Tables, channel_of, issued, names_of, settled_where, waiting}
use Rattle.host_model.specs.Answer.{payload_of}
use Rattle.host_model.specs.Changes.{all_noted, owner_settled, request_issued, without}

-- ---- the objects close

abbrev pub closed_for : Object → Option Reason → List Note
closed_for o None = []
closed_for o (Some reason) = note.Closed o.serial o.name reason ∷ []

abbrev pub closed_note : Option Object → List Note
closed_note None = []
closed_note (Some o) = closed_for o o.closed

-- one for each, in order of serial
abbrev pub closed_notes : List Object → List Serial → List Note
closed_notes objects fallen = flat_map (λ serial. closed_note (numbered objects serial)) fallen

-- nothing is kept of them any more
abbrev pub all_without : List Serial → Tables → Tables
all_without [] t = t
all_without (serial ∷ serials) t = all_without serials (without serial t)

abbrev pub is_death : Reason → Bool
is_death reason.Died = true
is_death other = false

-- a slot whose Worker falls is over
abbrev pub over_if : List Serial → Reason → Slot → Slot
over_if fallen reason x = record x { phase = if is_among fallen x.worker then Over (is_death reason) else x.phase }

abbrev pub with_over : List Serial → Reason → List Slot → List Slot
with_over fallen reason slots = map (over_if fallen reason) slots

abbrev pub objects_closed : List Serial → List Serial → Reason → State → State
objects_closed fallen roots reason s =
    all_noted (closed_notes (with_closed fallen roots reason s.objects) fallen)
    (record s { objects = with_closed fallen roots reason s.objects; tables = all_without fallen s.tables; slots = with_over fallen reason s.slots })

-- ---- what waits under them settles, in order of issue

abbrev pub name_or_none : Option Object → List ℕ
name_or_none None = []
name_or_none (Some o) = o.name

abbrev pub name_of : List Object → Serial → List ℕ
name_of objects serial = name_or_none (numbered objects serial)

abbrev pub request_closed : Request Due → State → State
request_closed r s = owner_settled r.owner (outcome.Closed (name_of s.objects r.under)) (names_of r.due) s

abbrev pub all_closed : List (Request Due) → State → State
all_closed [] s = s
all_closed (r ∷ rs) s = all_closed rs (request_closed r s)

abbrev pub requests_closed : List Serial → State → State
requests_closed fallen s =
    all_closed (filter (is_under fallen) (waiting s.requests)) (record s { requests = settled_where (is_under fallen) s.requests })

-- ---- their workers are asked to close them, in order of serial

-- the worker knows of the close of a Consumer that it has told of itself
abbrev pub is_known : Reason → List Serial → Serial → Bool
is_known reason.ProducerClose roots serial = is_among roots serial
is_known other roots serial = false

abbrev pub close_sent_by : Option WorkerKey → Option Asked → Serial → State → State
close_sent_by (Some channel) (Some asked) parent s =
    if nat_lt (issued s.requests channel) max_id
    then request_issued channel owner.Close parent due.Nothing (payload_of (method_of asked) (ids_of asked) None (issued s.requests channel + 1)) s
    else s
close_sent_by (Some channel) None parent s = s
close_sent_by None asked parent s = s

abbrev pub close_sent_under : Option Serial → List Serial → Object → State → State
close_sent_under None fallen o s = s
close_sent_under (Some parent) fallen o s =
    if is_among fallen parent then s else close_sent_by (channel_of s.slots o.worker) (close_asked s.objects o) parent s

abbrev pub close_sent_to : Option Object → List Serial → State → State
close_sent_to None fallen s = s
close_sent_to (Some o) fallen s = close_sent_under o.parent fallen o s

-- one for an object that falls while its parent stands, unless its worker knows, isn't up or has no id left
abbrev pub close_sent : List Serial → List Serial → Reason → Serial → State → State
close_sent fallen roots reason serial s = if is_known reason roots serial then s else close_sent_to (numbered s.objects serial) fallen s

abbrev pub closes_sent : List Serial → List Serial → Reason → List Serial → State → State
closes_sent fallen roots reason [] s = s
closes_sent fallen roots reason (serial ∷ serials) s = closes_sent fallen roots reason serials (close_sent fallen roots reason serial s)

-- ---- all of it

abbrev pub closed_with : List Serial → List Serial → Reason → State → State
closed_with fallen roots reason s = closes_sent fallen roots reason fallen (requests_closed fallen (objects_closed fallen roots reason s))

-- the roots fall, with all that a link leads to
abbrev pub fallen : List Serial → Reason → State → State
fallen roots reason s = closed_with (falls s.objects roots) roots reason s
