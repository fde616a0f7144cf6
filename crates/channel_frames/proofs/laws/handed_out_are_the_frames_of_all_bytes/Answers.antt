use Rattle.channel_frames.proofs.CallLemmas.{hands_out, none_is_the_end, break_is_of_the_stream, cuts}
use Rattle.channel_frames.proofs.laws.handed_out_are_the_frames_of_all_bytes.Goals as goal

pub returns-clause-first : goal.returns-clause-first
returns-clause-first c = hands_out

pub returns-clause-none : goal.returns-clause-none
returns-clause-none c = none_is_the_end

pub returns-clause-too_long : goal.returns-clause-too_long
returns-clause-too_long c = break_is_of_the_stream

pub returns-clause-cuts : goal.returns-clause-cuts
returns-clause-cuts c = cuts
