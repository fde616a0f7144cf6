-- How the calls that were made on an outbox stand to those that were to be made (this project's own).
use Rattle.std.specs.Prelude.{◌≡◌, ◌≤◌, ℕ, length, List, [], ◌∷◌, ◌++◌, true, false, map, Option, Some, None, Result, Ok, Err, OnOk, ⊤}
use Rattle.ms_devices.specs.Causes.{Rose}
use Rattle.ms_devices.specs.declared.events.OutCall.{OutCall}
use Rattle.ms_devices.specs.declared.events.OutCall.TheVariants as call
use Rattle.channel_frames.specs.Frames.{max_payload}
use Rattle.worker_calls.specs.Acts.{outgoing}
use Rattle.worker_calls.specs.Requests.{after_bound, out_bound}
use Rattle.worker_calls.specs.State.{Worker}
use Rattle.worker_calls.specs.declared.act.Act.{Act}
use Rattle.worker_calls.specs.declared.act.Act.TheVariants as act
use Rattle.worker_engine.specs.Outside.{call_of, unanswered}
use Rattle.worker_engine.specs.Run.{Event, after_all, out_from}
use Rattle.worker_serve.specs.Serving.{AreHeard, answers_in, is_waiting}
use Rattle.worker_serve.specs.declared.carry_out.Asked.{Asked}
use Rattle.worker_serve.specs.declared.fault.ServeFault.{ServeFault}
use Rattle.worker_serve.specs.declared.fault.ServeFault.TheVariants as fault

-- ---- what is to be sent

-- what goes out at events
abbrev pub calls_from : Worker → List Event → List OutCall
calls_from w events = map call_of (out_from w events)

-- the call by which an act is carried out, where it doesn't fail
abbrev pub act_call : Act → OutCall
act_call a = call_of (outgoing a)

-- nothing is answered to it, and its payload is within the limit
abbrev pub IsSayable : Act → Type 0
IsSayable (act.Say bytes) = length bytes ≤ max_payload
IsSayable (act.Bind link ip) = ⊥
IsSayable (act.Shut link) = ⊤

-- the link that acts ask for
abbrev pub asked_in : List Act → Option Asked
asked_in (act.Bind link ip ∷ more) = Some (record { link = link; ip = ip })
asked_in other = None

-- ---- what was sent of it

-- one of the calls failed, the last that was made
pub record StopsAtAFault (whole calls : List OutCall) : Type 0 where
  pub made : List OutCall
  pub bytes : List ℕ
  pub later : List OutCall
  pub whole_is : whole ≡ made ++ call.Channel bytes false ∷ later
  pub calls_are : calls ≡ made ++ call.Channel bytes true ∷ []

-- the calls that were made are the first of the whole
abbrev pub IsFront : List OutCall → List OutCall → Type 0
IsFront whole calls = (later : List OutCall) × (whole ≡ calls ++ later)

abbrev pub IsNoBreak : ServeFault → Type 0
IsNoBreak fault.Write = ⊤
IsNoBreak (fault.TooLong place told) = ⊥
IsNoBreak fault.NoMemory = ⊤

-- where a fault ended it: a break is found once all is sent
abbrev pub SentTo : ServeFault → List OutCall → List OutCall → Type 0
SentTo fault.Write whole calls = StopsAtAFault whole calls
SentTo (fault.TooLong place length) whole calls = calls ≡ whole
SentTo fault.NoMemory whole calls = IsFront whole calls

-- by how it ended
abbrev pub SentBy : {T : Type 0} → Result T ServeFault → List OutCall → List OutCall → Type 0
SentBy (Ok x) whole calls = calls ≡ whole
SentBy (Err f) whole calls = SentTo f whole calls

-- and no call for a link is among them
pub record Goes {T : Type 0} (result : Result T ServeFault) (whole calls : List OutCall) : Type 0 where
  pub sent : SentBy result whole (map unanswered calls)
  pub no_answers : answers_in calls ≡ []

-- such calls were made behind others
abbrev pub AddsBy : (List OutCall → Type 0) → List OutCall → List OutCall → Type 0
AddsBy relation made all = (calls : List OutCall) × (all ≡ made ++ calls) × relation calls

-- ---- what was served

-- A link was asked for at the address, and its answer heard by the worker.
pub record Opens {T : Type 0} (result : Result T ServeFault) (w : Worker) (asked : Asked) (left : Worker) (calls : List OutCall) : Type 0 where
  pub port : Option ℕ
  pub later : List OutCall
  pub calls_are : calls ≡ call.Bind asked.link asked.ip port ∷ later
  pub state : OnOk result (left ≡ after_bound w port)
  pub goes : Goes result (map call_of (out_bound w port)) later

-- A worker has heard what was given and is left in another state, which waits for nothing, and these calls are what went out.
pub record Serves (w : Worker) (given : List Event) (left : Worker) (calls : List OutCall) : Type 0 where
  pub events : List Event
  pub heard : AreHeard w given calls events
  pub state : left ≡ after_all w events
  pub answered : is_waiting left ≡ false
  pub sent : map unanswered calls ≡ calls_from w events

-- It has heard the first of what was given, and a fault cut off what went out.
pub record IsCut (f : ServeFault) (w : Worker) (given : List Event) (calls : List OutCall) : Type 0 where
  pub events : List Event
  pub first : List Event
  pub rest : List Event
  pub given_is : given ≡ first ++ rest
  pub heard : AreHeard w first calls events
  pub sent : SentTo f (calls_from w events) (map unanswered calls)

-- where a fault ended it: a break is found once all is served
abbrev pub ServedTo : ServeFault → Worker → List Event → List OutCall → Type 0
ServedTo fault.Write w given calls = IsCut fault.Write w given calls
ServedTo (fault.TooLong place length) w given calls = (left : Worker) × Serves w given left calls
ServedTo fault.NoMemory w given calls = IsCut fault.NoMemory w given calls

-- by how it ended, where the worker waited for nothing
abbrev pub ServedBy : {T : Type 0} → Result T ServeFault → Worker → List Event → Worker → List OutCall → Type 0
ServedBy (Ok x) w given left calls = is_waiting w ≡ false → Serves w given left calls
ServedBy (Err f) w given left calls = is_waiting w ≡ false → ServedTo f w given calls

-- ---- the counts of faults

-- the count of the channel's faults, where a fault ended it
abbrev pub CountsTo : ServeFault → ℕ → ℕ → Type 0
CountsTo fault.Write before now = Rose before now
CountsTo (fault.TooLong place length) before now = now ≡ before
CountsTo fault.NoMemory before now = now ≡ before

-- by how it ended
abbrev pub CountsBy : {T : Type 0} → Result T ServeFault → ℕ → ℕ → Type 0
CountsBy (Ok x) before now = now ≡ before
CountsBy (Err f) before now = CountsTo f before now
