-- The inbox and the outbox in memory, as contracts see them (this project's own).
use Rattle.std.specs.Prelude.{◌≡◌, ℕ, zero, suc, ◌+◌, ◌-◌, ◌^◌, ◌<◌, ◌≤◌, min, Bool, true, false, if◌then◌else◌, List, [], ◌∷◌, length, map, take, drop, All, Option, None, ⊤}
use Rattle.std.specs.List.{flat_map}
use Rattle.ms_devices.specs.declared.events.MemEvent.{MemEvent}
use Rattle.ms_devices.specs.declared.events.MemEvent.TheVariants as memory
use Rattle.ms_devices.specs.declared.events.GivenEvent.{GivenEvent}
use Rattle.ms_devices.specs.declared.events.GivenEvent.TheVariants as given
use Rattle.ms_devices.specs.declared.events.OutCall.{OutCall}
use Rattle.ms_devices.specs.declared.events.TheConstants.{EVENT_BYTES}
use Rattle.ms_devices.specs.Memory.{Calls, next_fails}
use Rattle.ms_devices.specs.Outside.{has_ended}

-- at most so many pieces of the bytes, each but the last as long as an event may be
unfoldable pub pieces_within : ℕ → List ℕ → List (List ℕ)
pieces_within zero bytes = []
pieces_within (suc n) [] = []
pieces_within (suc n) (b ∷ bytes) = take EVENT_BYTES (b ∷ bytes) ∷ pieces_within n (drop EVENT_BYTES (b ∷ bytes))

-- the bytes in pieces, each but the last as long as an event may be; no piece is empty
abbrev pub pieces : List ℕ → List (List ℕ)
pieces bytes = pieces_within (length bytes) bytes

-- what is given of an event: bytes of the channel in pieces, a datagram cut
abbrev pub events_of : MemEvent → List GivenEvent
events_of (memory.Channel bytes) = map given.Channel (pieces bytes)
events_of (memory.Datagram link from packet) = given.Datagram link from (take EVENT_BYTES packet) ∷ []

-- what is given of a list of events, before the end
abbrev pub given_of : List MemEvent → List GivenEvent
given_of events = flat_map events_of events

-- an inbox: the events that it will give, before its end; those that it gave, or `None` where it tells no more
pub record InboxState : Type 0 where
  pub left : List GivenEvent
  pub given : Option (List GivenEvent)
  pub calls : Calls

-- an event has at most 65,536 bytes, and one of the channel has at least one
abbrev pub IsFitEvent : GivenEvent → Type 0
IsFitEvent (given.Channel bytes) = (0 < length bytes) × (length bytes ≤ EVENT_BYTES)
IsFitEvent (given.Datagram link from packet) = length packet ≤ EVENT_BYTES
IsFitEvent given.End = ⊤

-- the events of an inbox, so many of which were given: no end is left, and nothing is once the end was given
pub record IsInbox (events : List GivenEvent) (given_count : ℕ) : Type 0 where
  pub within : given_count ≤ length events
  pub fit : All IsFitEvent events
  pub before_end : has_ended (drop given_count events) ≡ false
  pub behind_end : has_ended (take given_count events) ≡ true → given_count ≡ length events

-- the first of the events that are left, or the end
abbrev pub next_event : List GivenEvent → GivenEvent
next_event [] = given.End
next_event (event ∷ events) = event

-- an outbox: the answers to the next `bind` calls, `None` for one that fails; the calls that were made on it, or
-- `None` where it tells no more; the calls that are to fail, over all that can; and its two counts of faults
pub record OutboxState : Type 0 where
  pub answers : List (Option ℕ)
  pub told : Option (List OutCall)
  pub calls : Calls
  pub channel_faults : ℕ
  pub link_faults : ℕ

-- the first answer, or `None` where none is left
abbrev pub first_answer : List (Option ℕ) → Option ℕ
first_answer [] = None
first_answer (port ∷ answers) = port

-- what the next `bind` is answered: nothing where it is to fail by its number
abbrev pub bind_answer : OutboxState → Option ℕ
bind_answer outbox = if next_fails outbox.calls then None else first_answer outbox.answers

-- the answers left behind the next `bind`: one that is to fail by its number takes none
abbrev pub answers_left : OutboxState → List (Option ℕ)
answers_left outbox = if next_fails outbox.calls then outbox.answers else drop 1 outbox.answers

-- a count of faults behind a call: it stands still at the end of a 64-bit type
abbrev pub counted : ℕ → Bool → ℕ
counted count failed = if failed then min (count + 1) (2 ^ 64 - 1) else count
