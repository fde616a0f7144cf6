-- What a reader of frames has of its stream, and what its calls make of that. This project's own.
use Rattle.std.specs.Prelude.{ℕ, ◌+◌, List, [], ◌∷◌, ◌++◌, length, drop, min, if◌then◌else◌, Option, Some, None, Result, Ok, Err}
use Rattle.channel_frames.specs.Frames.{frames, rest_of, is_broken, break_place, break_length}
use Rattle.channel_frames.specs.declared.fault.FrameFault.{FrameFault}
use Rattle.channel_frames.specs.declared.fault.FrameFault.TheVariants as fault

pub record Reading : Type 0 where
  -- how many bytes of the stream were handed out, by frames: the place of the unread bytes, told as below
  pub place : ℕ
  -- the bytes that came behind these
  pub unread : List ℕ

-- the greatest place that is told: a greater one is told as this
abbrev pub max_place : ℕ
max_place = 18446744073709551615

abbrev pub told_place : ℕ → ℕ
told_place place = min place max_place

-- of a stream of which nothing came
abbrev pub unstarted : Reading
unstarted = record { place = 0; unread = [] }

-- a further piece of the stream came
abbrev pub with_piece : Reading → List ℕ → Reading
with_piece r piece = record { place = r.place; unread = r.unread ++ piece }

-- the frame of the first payload was handed out
abbrev pub without_frame : Reading → List ℕ → Reading
without_frame r payload = record { place = told_place (r.place + (4 + length payload)); unread = drop (4 + length payload) r.unread }

-- what is answered when the next payload is asked for: the first of the unread bytes. Where they have none, it is the
-- break, if there is one.
abbrev pub answer_by : Reading → List (List ℕ) → Result (Option (List ℕ)) FrameFault
answer_by r [] = if is_broken r.unread then Err (fault.TooLong r.place (break_length r.unread)) else Ok None
answer_by r (payload ∷ later) = Ok (Some payload)

abbrev pub answer_of : Reading → Result (Option (List ℕ)) FrameFault
answer_of r = answer_by r (frames r.unread)

-- and what is left then
abbrev pub left_by : Reading → List (List ℕ) → Reading
left_by r [] = r
left_by r (payload ∷ later) = without_frame r payload

abbrev pub left_of : Reading → Reading
left_of r = left_by r (frames r.unread)

-- what is left once all payloads were handed out
abbrev pub drained : Reading → Reading
drained r = record { place = told_place (r.place + break_place r.unread); unread = rest_of r.unread }
