-- What passes between a worker and its outside (this project's own). What an inbox tells is the list of the events
-- that it gave, each with its bytes, as values of `GivenEvent`: the end is one of them. What an outbox tells is the
-- list of the calls that were made on it, each with its answer, as values of `OutCall`. Bytes are lists of numbers.
use Rattle.std.specs.Prelude.{ℕ, ◌<◌, ◌≤◌, Bool, true, false, List, take, ⊤}
use Rattle.std.specs.List.{list_any}
use Rattle.ms_devices.specs.declared.events.InEvent.{InEvent}
use Rattle.ms_devices.specs.declared.events.InEvent.TheVariants as answer
use Rattle.ms_devices.specs.declared.events.GivenEvent.{GivenEvent}
use Rattle.ms_devices.specs.declared.events.GivenEvent.TheVariants as given
use Rattle.ms_devices.specs.declared.events.TheConstants.{EVENT_BYTES}

-- an answer has at most 65,536 bytes with it, and one of the channel has at least one
abbrev pub IsFit : InEvent → Type 0
IsFit (answer.Channel len) = (0 < len) × (len ≤ EVENT_BYTES)
IsFit (answer.Datagram link from len) = len ≤ EVENT_BYTES
IsFit answer.End = ⊤

-- how many bytes come with an answer
abbrev pub event_len : InEvent → ℕ
event_len (answer.Channel len) = len
event_len (answer.Datagram link from len) = len
event_len answer.End = 0

-- the event that an answer is, with its bytes: the first ones of the place
abbrev pub event_of : InEvent → List ℕ → GivenEvent
event_of (answer.Channel len) place = given.Channel (take len place)
event_of (answer.Datagram link from len) place = given.Datagram link from (take len place)
event_of answer.End place = given.End

abbrev pub is_end : GivenEvent → Bool
is_end given.End = true
is_end (given.Channel bytes) = false
is_end (given.Datagram link from packet) = false

-- whether the end was given
abbrev pub has_ended : List GivenEvent → Bool
has_ended events = list_any is_end events
