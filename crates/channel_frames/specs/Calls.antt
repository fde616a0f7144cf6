-- Lists of calls of a reader of frames: what they feed, what they are answered, and what they leave.
use Rattle.std.specs.Prelude.{ℕ, List, [], ◌∷◌, ◌++◌, Option, Some, None, Result, Ok, Err}
use Rattle.channel_frames.specs.Reading.{Reading, with_piece, answer_of, left_of}
use Rattle.channel_frames.specs.declared.fault.FrameFault.{FrameFault}

pub data Call : Type 0 where
  -- a further piece of the stream is fed
  feed : List ℕ → Call
  -- the next payload is asked for
  next : Call

-- all bytes that are fed, in one stream
abbrev pub bytes_fed : List Call → List ℕ
bytes_fed [] = []
bytes_fed (feed piece ∷ calls) = piece ++ bytes_fed calls
bytes_fed (next ∷ calls) = bytes_fed calls

-- what is left behind the calls
abbrev pub state_after : Reading → List Call → Reading
state_after r [] = r
state_after r (feed piece ∷ calls) = state_after (with_piece r piece) calls
state_after r (next ∷ calls) = state_after (left_of r) calls

-- the payload that an answer hands out, in front of others
abbrev pub handed_before : Result (Option (List ℕ)) FrameFault → List (List ℕ) → List (List ℕ)
handed_before (Ok (Some payload)) later = payload ∷ later
handed_before (Ok None) later = later
handed_before (Err fault) later = later

-- all payloads that are handed out, in order
abbrev pub handed_out : Reading → List Call → List (List ℕ)
handed_out r [] = []
handed_out r (feed piece ∷ calls) = handed_out (with_piece r piece) calls
handed_out r (next ∷ calls) = handed_before (answer_of r) (handed_out (left_of r) calls)
