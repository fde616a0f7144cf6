-- What a worker hears of its channel's stream, as far as it was given (this project's own).
use Rattle.std.specs.Prelude.{◌≡◌, ◌≤◌, ℕ, List, [], ◌∷◌, ◌++◌, true, false, map, ⊤}
use Rattle.channel_frames.specs.Frames.{frames, new_frames, rest_of, is_broken, break_place, break_length, begins_too_long, told_length}
use Rattle.channel_frames.specs.Reading.{Reading, drained, max_place, told_place, unstarted, with_piece}
use Rattle.ms_devices.specs.declared.events.GivenEvent.{GivenEvent}
use Rattle.ms_devices.specs.declared.events.GivenEvent.TheVariants as given
use Rattle.worker_engine.specs.Run.{Event, payload, datagram}
use Rattle.worker_serve.specs.declared.fault.ServeFault.{ServeFault}
use Rattle.worker_serve.specs.declared.fault.ServeFault.TheVariants as fault

-- the bytes of the channel that an event brings
abbrev pub channel_bytes : GivenEvent → List ℕ
channel_bytes (given.Channel bytes) = bytes
channel_bytes (given.Datagram link from packet) = []
channel_bytes given.End = []

-- the events of the worker that an event comes to, where these bytes of the stream are unread
abbrev pub events_at : List ℕ → GivenEvent → List Event
events_at unread (given.Channel bytes) = map payload (frames (unread ++ bytes))
events_at unread (given.Datagram link from packet) = datagram link from packet ∷ []
events_at unread given.End = []

-- A reader has handed out all payloads of a stream, which isn't broken.
pub record IsReadTo (reader : Reading) (stream : List ℕ) : Type 0 where
  pub none_left : frames reader.unread ≡ []
  pub same : drained reader ≡ drained (with_piece unstarted stream)
  pub unbroken : is_broken stream ≡ false

-- the break of a stream, as it is told
pub record IsBreakOf (stream : List ℕ) (place told : ℕ) : Type 0 where
  pub broken : is_broken stream ≡ true
  pub place_is : place ≡ told_place (break_place stream)
  pub length_is : told ≡ break_length stream

-- the break that a reader answers, once all payloads were handed out
pub record IsBreakAt (reader : Reading) (place told : ℕ) : Type 0 where
  pub none_left : frames reader.unread ≡ []
  pub broken : is_broken reader.unread ≡ true
  pub place_is : place ≡ reader.place
  pub length_is : told ≡ break_length reader.unread
  pub fits : place ≤ max_place

-- a fault that tells a break tells that of the stream
abbrev pub IsTrueOf : List ℕ → ServeFault → Type 0
IsTrueOf stream (fault.TooLong place told) = IsBreakOf stream place told
IsTrueOf stream fault.Write = ⊤
IsTrueOf stream fault.NoMemory = ⊤

-- the same, where all payloads are handed out then
abbrev pub IsTrueOfDrained : Reading → ServeFault → Type 0
IsTrueOfDrained left (fault.TooLong place told) =
    (begins_too_long left.unread ≡ true) × (place ≡ left.place) × (told ≡ told_length left.unread)
IsTrueOfDrained left fault.Write = ⊤
IsTrueOfDrained left fault.NoMemory = ⊤

-- the frames of a stream that goes on, and of what is left of it
pub record FrameLaws : Type 0 where
  pub fresh : (first later : List ℕ) → new_frames first later ≡ frames (rest_of first ++ later)
  pub no_frames : (stream : List ℕ) → frames stream ≡ [] → rest_of stream ≡ stream
  pub none : frames [] ≡ []
  pub no_rest : rest_of [] ≡ []
