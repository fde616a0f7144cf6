-- What a call comes to: its first refusal, a start, a request to a worker, or an answer at once. This project's own, after the
-- table of calls.
use Rattle.std.specs.Prelude.{ℕ, ◌+◌, List, length, Bool, nat_le, nat_lt, if◌then◌else◌, Option, Some, None, option_and_then, Result, Ok, Err}
use Rattle.serde_json.specs.Data.{Data}
use Rattle.serde_json.specs.Written.{compact_text}
use Rattle.ms_base.specs.declared.id.Id.{Id}
use Rattle.ms_base.specs.declared.keys.WorkerKey.{WorkerKey}
use Rattle.ms_base.specs.declared.op.Op.{Op}
use Rattle.ms_base.specs.declared.op.Op.TheVariants as op
use Rattle.ms_base.specs.declared.outcome.Outcome.{Outcome}
use Rattle.ms_base.specs.declared.outcome.Outcome.TheVariants as outcome
use Rattle.channel_frames.specs.Frames.{max_payload}
use Rattle.channel_msgs.specs.Json.{request_json}
use Rattle.channel_msgs.specs.Read.{max_id}
use Rattle.channel_msgs.specs.declared.message.Ids.{Ids}
use Rattle.object_tree.specs.declared.object.Object.{Object}
use Rattle.object_tree.specs.Objects.{named, numbered}
use Rattle.request_build.specs.declared.built.BuildFault.{BuildFault}
use Rattle.request_build.specs.declared.built.BuildFault.TheVariants as fault
use Rattle.request_build.specs.Asks as asks
use Rattle.request_build.specs.Asks.{Built, Ask, Own}
use Rattle.request_build.specs.Built.{built}
use Rattle.request_build.specs.Known.{Known}
use Rattle.host_model.specs.State.{State, channel_of, is_being_made, is_being_offered, issued}

-- what a call is answered from
abbrev pub known : State → Known
known s =
    record {
      objects = s.objects;
      routers = s.tables.routers;
      producers = s.tables.producers;
      consumers = s.tables.consumers;
      pipes = s.tables.pipes;
      is_named = is_being_made s.requests;
      is_asked = is_being_offered s.requests;
      slots = length s.slots;
      stopped = s.stopped;
      next = s.next;
    }

-- ---- what is asked of a worker

-- the payload of a request with an id
abbrev pub payload_of : List ℕ → Ids → Option Data → ℕ → List ℕ
payload_of method ids content id = compact_text (request_json (record { id = id; method = method; ids = ids; content = content }))

-- the payload of what was asked for
abbrev pub asked_payload : asks.Request → ℕ → List ℕ
asked_payload r id = payload_of r.method r.ids r.content id

pub data Answer : Type 0 where
  Refuses : (outcome : Outcome) → Answer
  -- a Worker stands in the tree at once, and its start is wanted
  AddsWorker : (name : List ℕ) → (budget : ℕ) → Answer
  -- a request goes out on a channel with the next id of that, and this is its payload
  Issues : (request : asks.Request) → (channel : WorkerKey) → (payload : List ℕ) → Answer
  -- an object closes, if it is open
  Closes : (object : Object) → Answer
  Tells : (answer : Bool) → Answer
  -- a packet goes to a worker, for a Producer
  Sends : (channel : WorkerKey) → (producer : Id) → (packet : List ℕ) → Answer

-- ---- the channel that it goes by

-- that of an object's worker, while it is up
abbrev pub channel_to : State → Object → Option WorkerKey
channel_to s o = channel_of s.slots o.worker

abbrev pub unless_long : asks.Request → WorkerKey → List ℕ → Answer
unless_long r channel payload = if nat_lt max_payload (length payload) then Refuses outcome.TooBig else Issues r channel payload

-- the id is 1 more than the number of requests before it on the channel
abbrev pub unless_spent : asks.Request → WorkerKey → ℕ → Answer
unless_spent r channel before = if nat_le max_id before then Refuses outcome.IdsSpent else unless_long r channel (asked_payload r (before + 1))

-- a Worker whose process isn't up takes nothing
abbrev pub on_channel : State → asks.Request → Option WorkerKey → Answer
on_channel s r None = Refuses outcome.InvalidState
on_channel s r (Some channel) = unless_spent r channel (issued s.requests channel)

abbrev pub asked : State → asks.Request → Answer
asked s r = on_channel s r (option_and_then (channel_to s) (numbered s.objects r.under))

abbrev pub sends_by : Id → List ℕ → Option WorkerKey → Answer
sends_by producer packet None = Refuses outcome.InvalidState
sends_by producer packet (Some channel) = Sends channel producer packet

-- ---- calls that ask nothing of a worker

abbrev pub closes : Option Object → Answer
closes None = Refuses outcome.NoName
closes (Some object) = Closes object

abbrev pub sends : State → List ℕ → Option Object → Answer
sends s packet None = Refuses outcome.NoName
sends s packet (Some producer) = sends_by producer.id packet (channel_to s producer)

abbrev pub tells : Option Bool → Answer
tells None = Refuses outcome.InvalidState
tells (Some answer) = Tells answer

-- A call that pipes a Producer to another Router is not built yet, and none is entered.
abbrev pub own : State → Op → Option Bool → Answer
own s (op.Worker name budget) told = AddsWorker name budget
own s (op.Close name) told = closes (named s.objects name)
own s (op.Send producer packet) told = sends s packet (named s.objects producer)
own s other told = tells told

-- ---- all of it

abbrev pub answered_by : State → Op → Result Built BuildFault → Answer
answered_by s op (Err (fault.Refused outcome)) = Refuses outcome
-- no rule runs out of memory
answered_by s op (Err fault.NoMemory) = Refuses outcome.InvalidState
answered_by s op (Ok (Ask r)) = asked s r
answered_by s op (Ok (Own told)) = own s op told

abbrev pub answer : State → Op → Answer
answer s op = answered_by s op (built (known s) op)

abbrev pub refusal_in : Answer → Option Outcome
refusal_in (Refuses outcome) = Some outcome
refusal_in other = None

-- the first refusal that a call meets
abbrev pub first_refusal : State → Op → Option Outcome
first_refusal s op = refusal_in (answer s op)
