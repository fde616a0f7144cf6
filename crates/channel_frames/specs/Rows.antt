-- Worked rows: what streams and calls of a reader come to.
use Rattle.std.specs.Prelude.{◌≡◌, List, ℕ, [], ◌∷◌, ◌++◌, true, false, Ok, Err, None, codes, take, refl}
use Rattle.channel_frames.specs.Frames.{frame, frames, rest_of, is_broken, break_place, break_length, new_frames, frames_within, rest_within}
use Rattle.channel_frames.specs.Reading.{unstarted, without_frame, answer_of}
use Rattle.channel_frames.specs.Calls.{Call, feed, next, state_after, handed_out}
use Rattle.channel_frames.specs.declared.fault.FrameFault.TheVariants as fault

pub of_a_notice : take 7 (frame (codes "{\"event\":\"running\",\"targetId\":\"worker\"}")) ≡ 0x27 ∷ 0 ∷ 0 ∷ 0 ∷ codes "{\"e"
of_a_notice = refl

-- payloads of one, no and two bytes, and a length that is cut off
abbrev pub three : List ℕ
three = 1 ∷ 0 ∷ 0 ∷ 0 ∷ 7 ∷ 0 ∷ 0 ∷ 0 ∷ 0 ∷ 2 ∷ 0 ∷ 0 ∷ 0 ∷ 8 ∷ 9 ∷ 3 ∷ 0 ∷ 0 ∷ []

pub frames_of_three : frames three ≡ (7 ∷ []) ∷ [] ∷ (8 ∷ 9 ∷ []) ∷ []
unfolding frames_within
frames_of_three = refl

pub rest_of_three : rest_of three ≡ 3 ∷ 0 ∷ 0 ∷ []
unfolding rest_within
rest_of_three = refl

pub three_goes_on : new_frames three (0 ∷ 1 ∷ 2 ∷ 3 ∷ 4 ∷ []) ≡ (1 ∷ 2 ∷ 3 ∷ []) ∷ []
unfolding frames_within
three_goes_on = refl

-- a payload at the limit is waited for
pub at_the_limit : is_broken (0 ∷ 0 ∷ 0x40 ∷ 0 ∷ []) ≡ false
unfolding rest_within
at_the_limit = refl

-- a length over the limit behind an empty payload
abbrev pub over_the_limit : List ℕ
over_the_limit = 0 ∷ 0 ∷ 0 ∷ 0 ∷ 1 ∷ 0 ∷ 0x40 ∷ 0 ∷ 9 ∷ []

pub breaks : is_broken over_the_limit ≡ true
unfolding rest_within
breaks = refl

pub breaks_at : break_place over_the_limit ≡ 4
unfolding frames_within
breaks_at = refl

pub breaks_by : break_length over_the_limit ≡ 4194305
unfolding rest_within
breaks_by = refl

-- pieces cut within a length, with payloads asked for in between
abbrev pub calls : List Call
calls = feed (1 ∷ 0 ∷ []) ∷ next ∷ feed (0 ∷ 0 ∷ 7 ∷ 0 ∷ 0 ∷ 0 ∷ 0 ∷ 1 ∷ []) ∷ next ∷ feed (0 ∷ 0x40 ∷ 0 ∷ 9 ∷ []) ∷ []

pub handed : handed_out unstarted calls ≡ (7 ∷ []) ∷ []
unfolding frames_within rest_within
handed = refl

pub handed_with_more : handed_out unstarted (calls ++ next ∷ next ∷ next ∷ []) ≡ (7 ∷ []) ∷ [] ∷ []
unfolding frames_within rest_within
handed_with_more = refl

pub answers_the_break : answer_of (state_after unstarted (calls ++ next ∷ [])) ≡ Err (fault.TooLong 9 4194305)
unfolding frames_within rest_within
answers_the_break = refl

pub waits : answer_of (state_after unstarted (feed (2 ∷ 0 ∷ 0 ∷ 0 ∷ 1 ∷ []) ∷ [])) ≡ Ok None
unfolding frames_within rest_within
waits = refl

-- the greatest place that is told
pub stands_still : (without_frame (record { place = 18446744073709551610; unread = three }) (7 ∷ [])).place ≡ 18446744073709551615
stands_still = refl
