-- What acts are, and how long what is said by one can be.
use Rattle.std.specs.Prelude.{◌≤◌, List, [], Bool, length, map, if◌then◌else◌, ⊤}
use Rattle.ms_base.specs.declared.id.Id.{Id}
use Rattle.worker_requests.specs.declared.notice.WorkerNotice.{WorkerNotice}
use Rattle.worker_requests.specs.declared.notice.WorkerNotice.TheVariants.{ProducerClosed, ProducerPaused, ProducerResumed}
use Rattle.worker_requests.specs.Said.{max_said}
use Rattle.worker_router.specs.Calls.{differs}
use Rattle.worker_calls.specs.declared.act.Act.{Act}
use Rattle.worker_calls.specs.declared.act.Act.TheVariants.{Say, Bind, Shut}
use Rattle.worker_calls.specs.declared.acts.Event.{Event}
use Rattle.worker_calls.specs.declared.acts.Event.TheVariants as event
use Rattle.worker_calls.specs.Requests.{Outgoing, say, bind, shut, send, notify}

-- what an act is
abbrev pub outgoing : Act → Outgoing
outgoing (Say payload) = say payload
outgoing (Bind link ip) = bind link ip
outgoing (Shut link) = shut link

-- a payload that is said fits into a frame of the channel
abbrev pub IsShort : Outgoing → Type 0
IsShort (say payload) = length payload ≤ max_said
IsShort (bind link ip) = ⊤
IsShort (shut link) = ⊤
IsShort (send link to packet) = ⊤

abbrev pub event_notice : Event → Id → WorkerNotice
event_notice event.Closed consumer = ProducerClosed consumer
event_notice event.Paused consumer = ProducerPaused consumer
event_notice event.Resumed consumer = ProducerResumed consumer

abbrev pub pause_event : Bool → Event
pause_event paused = if paused then event.Paused else event.Resumed

-- what goes out where a Producer's flag is set to `paused`, and these Consumers are told where it changes
abbrev pub pause_acts : Bool → Bool → List Id → List Outgoing
pause_acts paused was_paused consumers =
    if differs paused was_paused then map (λ c. notify (event_notice (pause_event paused) c)) consumers else []
