-- What lanes wait for, and what that comes to. This project's own.
use Rattle.std.specs.Prelude.{ℕ, ◌+◌, List, [], ◌∷◌, Bool, false, ◌&&◌, nat_eq, nat_le, if◌then◌else◌, Option, Some, None}
use Rattle.std.specs.Str.{bytes_eq}
use Rattle.ms_base.specs.declared.keys.CallKey.{CallKey}
use Rattle.ms_base.specs.declared.keys.Event.{Event}
use Rattle.ms_base.specs.declared.keys.Event.TheVariants as event
use Rattle.ms_base.specs.declared.outcome.Outcome.{Outcome}
use Rattle.ms_base.specs.declared.outcome.Outcome.TheVariants as outcome
use Rattle.transcript.specs.declared.note.Note.{Note}
use Rattle.transcript.specs.declared.note.Note.TheVariants as note
use Rattle.host_awaits.specs.declared.entered.Await.{Await}

-- the name and the event that a note is of
abbrev pub event_of : Note → Option (List ℕ × Event)
event_of (note.Running name generation) = Some (name, event.Running)
event_of (note.Open serial kind name id) = Some (name, event.Opened)
event_of (note.Closed serial name reason) = Some (name, event.Closed)
event_of (note.Paused name) = Some (name, event.Paused)
event_of (note.Resumed name) = Some (name, event.Resumed)
event_of (note.Tuple name remote) = Some (name, event.Tuple)
event_of (note.Rtp name packet) = Some (name, event.Rtp)
event_of other = None

-- events by numbers of their own
abbrev pub number_of : Event → ℕ
number_of event.Running = 0
number_of event.Opened = 1
number_of event.Closed = 2
number_of event.Paused = 3
number_of event.Resumed = 4
number_of event.Tuple = 5
number_of event.Rtp = 6

abbrev pub same_event : Event → Event → Bool
same_event a b = nat_eq (number_of a) (number_of b)

abbrev pub is_event : List ℕ → Event → Option (List ℕ × Event) → Bool
is_event name wanted None = false
is_event name wanted (Some of) = bytes_eq of.0 name && same_event of.1 wanted

-- a note of this event for an object of this name
abbrev pub counts : List ℕ → Event → Note → Bool
counts name wanted n = is_event name wanted (event_of n)

abbrev pub is_named : List ℕ → Option (List ℕ × Event) → Bool
is_named name None = false
is_named name (Some of) = bytes_eq of.0 name

-- a note of some event for an object of this name
abbrev pub tells_of : List ℕ → Note → Bool
tells_of name n = is_named name (event_of n)

-- how many notes there are of this event for objects of this name
abbrev pub times_noted : List Note → List ℕ → Event → ℕ
times_noted [] name wanted = 0
times_noted (n ∷ ns) name wanted = (if counts name wanted n then 1 else 0) + times_noted ns name wanted

-- what an await comes to, where it settles: done where there are so many notes, or else missed where its name is hopeless
abbrev pub outcome_of : (List ℕ → Event → ℕ) → (List ℕ → Bool) → Await → Option Outcome
outcome_of times hopeless a = if nat_le a.count (times a.name a.event) then Some outcome.Done else if hopeless a.name then Some outcome.Missed else None

abbrev pub settled_before : CallKey → Option Outcome → List (CallKey × Outcome) → List (CallKey × Outcome)
settled_before key None others = others
settled_before key (Some o) others = (key, o) ∷ others

-- the awaits that settle, in order, with what each comes to
abbrev pub settled_by : (List ℕ → Event → ℕ) → (List ℕ → Bool) → List Await → List (CallKey × Outcome)
settled_by times hopeless [] = []
settled_by times hopeless (a ∷ others) = settled_before a.key (outcome_of times hopeless a) (settled_by times hopeless others)

abbrev pub waiting_before : Await → Option Outcome → List Await → List Await
waiting_before a None others = a ∷ others
waiting_before a (Some o) others = others

-- the awaits that go on waiting, in order
abbrev pub waiting_by : (List ℕ → Event → ℕ) → (List ℕ → Bool) → List Await → List Await
waiting_by times hopeless [] = []
waiting_by times hopeless (a ∷ others) = waiting_before a (outcome_of times hopeless a) (waiting_by times hopeless others)
