-- The request that closes a fallen object, of what is looked up for it. This project's own.
use Rattle.std.specs.Prelude.{ℕ, ◌+◌, List, if◌then◌else◌, nat_lt, Option, Some, None, option_and_then}
use Rattle.ms_base.specs.declared.keys.Serial.{Serial}
use Rattle.ms_base.specs.declared.keys.WorkerKey.{WorkerKey}
use Rattle.object_tree.specs.declared.object.Object.{Object}
use Rattle.object_tree.specs.Falls.{is_among}
use Rattle.object_tree.specs.Objects.{numbered}
use Rattle.pending_calls.specs.Pending.{max_id}
use Rattle.pending_calls.specs.declared.waiting.Owner.TheVariants as owner
use Rattle.request_build.specs.Close.{close_asked}
use Rattle.request_contents.specs.Methods.{ids_of, method_of}
use Rattle.worker_requests.specs.declared.asked.Asked.{Asked}
use Rattle.host_model.specs.declared.due.Due.TheVariants as due
use Rattle.host_model.specs.Answer.{payload_of}
use Rattle.host_model.specs.Changes.{request_issued}
use Rattle.host_model.specs.State.{Slot, State, channel_of}
use Rattle.host_core.specs.declared.fall.Close.{Close}

-- with the next id of its channel, if one is left
abbrev pub close_by : (WorkerKey → ℕ) → Serial → WorkerKey → Asked → Option Close
close_by lasts parent channel asked =
    if nat_lt (lasts channel) max_id
    then Some (record { channel = channel; id = lasts channel + 1; parent = parent; asked = asked })
    else None

abbrev pub close_on : List Object → (WorkerKey → ℕ) → Object → Serial → WorkerKey → Option Close
close_on objects lasts o parent channel = option_and_then (close_by lasts parent channel) (close_asked objects o)

-- its parent stands, and its worker is up
abbrev pub close_under : List Object → List Slot → (WorkerKey → ℕ) → List Serial → Object → Serial → Option Close
close_under objects slots lasts fallen o parent =
    if is_among fallen parent then None else option_and_then (close_on objects lasts o parent) (channel_of slots o.worker)

abbrev pub close_of : List Object → List Slot → (WorkerKey → ℕ) → List Serial → Object → Option Close
close_of objects slots lasts fallen o = option_and_then (close_under objects slots lasts fallen o) o.parent

abbrev pub close_in : List Object → List Slot → (WorkerKey → ℕ) → List Serial → Serial → Option Close
close_in objects slots lasts fallen serial = option_and_then (close_of objects slots lasts fallen) (numbered objects serial)

-- it goes to the worker
abbrev pub close_issued : Option Close → State → State
close_issued None s = s
close_issued (Some c) s = request_issued c.channel owner.Close c.parent due.Nothing (payload_of (method_of c.asked) (ids_of c.asked) None c.id) s
