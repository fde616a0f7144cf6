-- What a worker has served: what its inbox gave, what its outbox answered, and the calls that this comes to on its outbox (this project's
-- own).
use Rattle.std.specs.Prelude.{◌≡◌, ◌≤◌, ℕ, List, [], ◌∷◌, ◌++◌, Bool, true, false, not, is_some, map, Option, ⊤}
use Rattle.std.specs.List.{list_any}
use Rattle.channel_frames.specs.Frames.{new_frames, is_broken}
use Rattle.ms_devices.specs.Told.{Tells}
use Rattle.ms_devices.specs.declared.events.GivenEvent.{GivenEvent}
use Rattle.ms_devices.specs.declared.events.GivenEvent.TheVariants as given
use Rattle.ms_devices.specs.declared.events.OutCall.{OutCall}
use Rattle.ms_devices.specs.declared.events.OutCall.TheVariants as call
use Rattle.worker_calls.specs.State.{Worker, idle}
use Rattle.worker_engine.specs.Outside.{call_of, unanswered}
use Rattle.worker_engine.specs.Run.{Event, payload, datagram, bound, after, worker_after, worker_out}

-- ---- what was given

-- the bytes of the channel, in one stream
abbrev pub stream_of : List GivenEvent → List ℕ
stream_of [] = []
stream_of (given.Channel bytes ∷ later) = bytes ++ stream_of later
stream_of (given.Datagram link from packet ∷ later) = stream_of later
stream_of (given.End ∷ later) = stream_of later

-- What the inbox gave, where this of the stream has come before: the payloads that the stream has beyond those that it had, and
-- datagrams, in the order in which they came.
abbrev pub events_behind : List ℕ → List GivenEvent → List Event
events_behind stream [] = []
events_behind stream (given.Channel bytes ∷ later) = map payload (new_frames stream bytes) ++ events_behind (stream ++ bytes) later
events_behind stream (given.Datagram link from packet ∷ later) = datagram link from packet ∷ events_behind stream later
events_behind stream (given.End ∷ later) = events_behind stream later

abbrev pub events_of : List GivenEvent → List Event
events_of events = events_behind [] events

-- ---- what a worker hears: that, and what its outbox answers where it asks for a link

abbrev pub is_bound : Event → Bool
is_bound (payload bytes) = false
is_bound (datagram link from packet) = false
is_bound (bound port) = true

-- what the inbox gave of it
abbrev pub given_in : List Event → List Event
given_in [] = []
given_in (payload bytes ∷ later) = payload bytes ∷ given_in later
given_in (datagram link from packet ∷ later) = datagram link from packet ∷ given_in later
given_in (bound port ∷ later) = given_in later

-- the answers that it heard
abbrev pub ports_in : List Event → List (Option ℕ)
ports_in [] = []
ports_in (payload bytes ∷ later) = ports_in later
ports_in (datagram link from packet ∷ later) = ports_in later
ports_in (bound port ∷ later) = port ∷ ports_in later

-- the answers that the outbox gave where it was to open a link: a port, or none where that failed
abbrev pub answers_in : List OutCall → List (Option ℕ)
answers_in [] = []
answers_in (call.Bind link ip port ∷ later) = port ∷ answers_in later
answers_in (call.Shut link ∷ later) = answers_in later
answers_in (call.Channel bytes failed ∷ later) = answers_in later
answers_in (call.Datagram link to packet failed ∷ later) = answers_in later

abbrev pub is_waiting : Worker → Bool
is_waiting w = is_some w.waiting

-- An answer comes directly behind each event that leaves the worker waiting for it, and nowhere else. It may not have come yet.
abbrev pub IsAnswered : Worker → List Event → Type 0
IsAnswered w [] = ⊤
IsAnswered w (event ∷ later) = (is_bound event ≡ is_waiting w) × IsAnswered (after w event) later

-- The worker in this state heard these events: what was given, and the answers that these calls have.
pub record AreHeard (w : Worker) (given : List Event) (calls : List OutCall) (events : List Event) : Type 0 where
  pub given_is : given_in events ≡ given
  pub answers_are : ports_in events ≡ answers_in calls
  pub in_step : IsAnswered w events

-- ---- what it comes to

-- the calls on the outbox that the output of a worker is; they tell no answer
abbrev pub output_calls : List Event → List OutCall
output_calls events = map call_of (worker_out events)

-- ---- what inbox and outbox tell

pub record WorkerOutside : Type 0 where
  -- the events that the inbox gave
  pub given : Option (List GivenEvent)
  -- its faults
  pub read_faults : ℕ
  -- the calls on the outbox
  pub calls : Option (List OutCall)
  -- the faults of its channel, and of its links
  pub channel_faults : ℕ
  pub link_faults : ℕ

-- Of what was given since, whatever the outbox tells; and of that and the calls made since.
abbrev pub Since : (List GivenEvent → Type 0) → (List GivenEvent → List OutCall → Type 0) → WorkerOutside → WorkerOutside → Type 0
Since of_events of_calls before now =
    Tells (λ had has. (events : List GivenEvent) × (has ≡ had ++ events) × of_events events
    × Tells (λ made all. (calls : List OutCall) × (all ≡ made ++ calls) × of_calls events calls) before.calls now.calls) before.given now.given

-- the channel's stream isn't broken
abbrev pub IsUnbroken : List GivenEvent → Type 0
IsUnbroken events = is_broken (stream_of events) ≡ false

-- it isn't, and the end was given last
pub record IsToTheEnd (events : List GivenEvent) : Type 0 where
  pub unbroken : is_broken (stream_of events) ≡ false
  pub ended : (before : List GivenEvent) × (events ≡ before ++ given.End ∷ [])

-- it is broken
abbrev pub IsToABreak : List GivenEvent → Type 0
IsToABreak events = is_broken (stream_of events) ≡ true

-- of what was given nothing is said
abbrev pub IsAny : List GivenEvent → Type 0
IsAny events = ⊤

-- All that was given was heard, with an answer to each call for a link, and the calls are the output of that: a datagram that failed counts
-- as sent.
pub record IsOutput (given : List GivenEvent) (calls : List OutCall) : Type 0 where
  pub events : List Event
  pub heard : AreHeard idle (events_of given) calls events
  pub answered : is_waiting (worker_after events) ≡ false
  pub output : map unanswered calls ≡ output_calls events

-- The first of what was given was heard, with the answers that came.
pub record IsBegun (given : List GivenEvent) (calls : List OutCall) (events : List Event) : Type 0 where
  pub first : List Event
  pub rest : List Event
  pub given_is : events_of given ≡ first ++ rest
  pub heard : AreHeard idle first calls events

-- The calls are the first of the output of that, and then one on the channel that failed.
pub record IsCutByAFault (given : List GivenEvent) (calls : List OutCall) : Type 0 where
  pub events : List Event
  pub begun : IsBegun given calls events
  pub made : List OutCall
  pub bytes : List ℕ
  pub later : List OutCall
  pub output : output_calls events ≡ made ++ call.Channel bytes false ∷ later
  pub calls_are : map unanswered calls ≡ made ++ call.Channel bytes true ∷ []

-- The calls are the first of the output of that.
pub record IsCutShort (given : List GivenEvent) (calls : List OutCall) : Type 0 where
  pub events : List Event
  pub begun : IsBegun given calls events
  pub later : List OutCall
  pub output : output_calls events ≡ map unanswered calls ++ later

-- ---- the faults of links

abbrev pub is_failed_on_a_link : OutCall → Bool
is_failed_on_a_link (call.Bind link ip port) = not (is_some port)
is_failed_on_a_link (call.Shut link) = false
is_failed_on_a_link (call.Channel bytes failed) = false
is_failed_on_a_link (call.Datagram link to packet failed) = failed

-- Their count never falls, and rises with none but calls for a link and datagrams that failed.
pub record IsOfLinks (links later : ℕ) (before now : Option (List OutCall)) : Type 0 where
  pub never_falls : links ≤ later
  pub still : Tells (λ made all. (calls : List OutCall) × (all ≡ made ++ calls) × (list_any is_failed_on_a_link calls ≡ false → later ≡ links)) before now
