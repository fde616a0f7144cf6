-- What holds of every stream, and of every list of calls of a reader of frames.
use Rattle.std.specs.Prelude.{◌≡◌, ◌≤◌, ◌<◌, ◌↔◌, ℕ, List, [], ◌++◌, length, take, slice_index, true, false, None, Ok, Err, flat_map, All}
use Rattle.channel_frames.specs.Frames.{max_payload, frame, frames, rest_of, is_broken, break_place, break_length, BeginsWith, Splits}
use Rattle.channel_frames.specs.Reading.{Reading, told_place, unstarted, with_piece, answer_of, left_of}
use Rattle.channel_frames.specs.Calls.{Call, bytes_fed, state_after, handed_out}
use Rattle.channel_frames.specs.declared.fault.FrameFault.TheVariants as fault

-- However a stream is read as frames of payloads within the limit from its start, these are the first of its
-- frames: so there are no more of them than it has frames.
abbrev pub FramesAreTheMost : Type 0
FramesAreTheMost =
    (stream : List ℕ) (payloads : List (List ℕ)) (behind : List ℕ) → BeginsWith stream payloads behind →
    (length payloads ≤ length (frames stream)) × (payloads ≡ take (length payloads) (frames stream))

-- the frames of a stream of bytes stand at its start, and the rest stands behind them
abbrev pub FramesSplitTheStream : Type 0
FramesSplitTheStream = (stream : List ℕ) → ((place : ℕ) → slice_index stream place < 256) → Splits stream (frames stream) (rest_of stream)

-- no other payloads and rest are such a split
abbrev pub FramesAreTheOnlySplit : Type 0
FramesAreTheOnlySplit =
    (stream : List ℕ) (payloads : List (List ℕ)) (rest : List ℕ) → Splits stream payloads rest →
    (payloads ≡ frames stream) × (rest ≡ rest_of stream)

-- the payloads whose frames were written read back, and what stands behind them is read as a stream of its own
pub record ReadsBack (payloads : List (List ℕ)) (later : List ℕ) : Type 0 where
  pub frames_back : frames (flat_map frame payloads ++ later) ≡ payloads ++ frames later
  pub rest_back : rest_of (flat_map frame payloads ++ later) ≡ rest_of later

abbrev pub WrittenFramesReadBack : Type 0
WrittenFramesReadBack =
    (payloads : List (List ℕ)) (later : List ℕ) → All (λ payload. length payload ≤ max_payload) payloads → ReadsBack payloads later

-- behind a broken stream nothing that comes later counts
pub record StaysBroken (stream later : List ℕ) : Type 0 where
  pub payloads : frames (stream ++ later) ≡ frames stream
  pub broken : is_broken (stream ++ later) ≡ true
  pub place : break_place (stream ++ later) ≡ break_place stream
  pub told : break_length (stream ++ later) ≡ break_length stream

-- so a reader that answers a break answers it from then on
abbrev pub BreakIsTheLastAnswer : Type 0
BreakIsTheLastAnswer =
    (r : Reading) (place told : ℕ) → answer_of r ≡ Err (fault.TooLong place told) →
    (left_of r ≡ r) × ((piece : List ℕ) → answer_of (with_piece r piece) ≡ Err (fault.TooLong place told))

-- What a list of calls of a new reader has handed out are the first frames of all bytes that were fed, and the unread bytes have
-- the others, and the same rest.
pub record HandsOut (calls : List Call) : Type 0 where
  pub first : frames (bytes_fed calls) ≡ handed_out unstarted calls ++ frames (state_after unstarted calls).unread
  pub rest : rest_of (state_after unstarted calls).unread ≡ rest_of (bytes_fed calls)
  pub place : (state_after unstarted calls).place ≡ told_place (length (flat_map frame (handed_out unstarted calls)))

-- None is answered exactly where all frames were handed out, and the stream isn't broken.
abbrev pub NoneIsTheEnd : Type 0
NoneIsTheEnd =
    (calls : List Call) → (answer_of (state_after unstarted calls) ≡ Ok None)
    ↔ ((handed_out unstarted calls ≡ frames (bytes_fed calls)) × (is_broken (bytes_fed calls) ≡ false))

-- A break is answered exactly where all frames were handed out and the stream is broken, and it is the stream's.
abbrev pub BreakIsOfTheStream : Type 0
BreakIsOfTheStream =
    (calls : List Call) (place told : ℕ) → (answer_of (state_after unstarted calls) ≡ Err (fault.TooLong place told))
    ↔ (
    (handed_out unstarted calls ≡ frames (bytes_fed calls))
    × (is_broken (bytes_fed calls) ≡ true)
    × (place ≡ told_place (break_place (bytes_fed calls)))
    × (told ≡ break_length (bytes_fed calls))
    )

-- Where the stream was cut into pieces, and when payloads were asked for, has no part in it: once all payloads were handed out, they
-- and what is left are the same.
abbrev pub CutsDontMatter : Type 0
CutsDontMatter =
    (calls others : List Call) → bytes_fed calls ≡ bytes_fed others
    → frames (state_after unstarted calls).unread ≡ [] → frames (state_after unstarted others).unread ≡ []
    → (handed_out unstarted calls ≡ handed_out unstarted others) × (state_after unstarted calls ≡ state_after unstarted others)
