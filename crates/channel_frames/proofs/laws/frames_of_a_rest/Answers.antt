use Rattle.std.proofs.Common.{[]}
use Rattle.channel_frames.proofs.FramesLemmas.{frames-none, rest_of-none, no_frame-rest_of}
use Rattle.channel_frames.proofs.BreakLemmas.{frames-rest_of, rest_of-rest_of, length-parts, begins-no_frames, rest_of-no_frames, empty-begins}
use Rattle.channel_frames.proofs.laws.frames_of_a_rest.Goals as goal

pub returns-clause-begins : goal.returns-clause-begins
returns-clause-begins c = no_frame-rest_of

pub returns-clause-payloads : goal.returns-clause-payloads
returns-clause-payloads c = frames-rest_of

pub returns-clause-rest : goal.returns-clause-rest
returns-clause-rest c = rest_of-rest_of

pub returns-clause-length : goal.returns-clause-length
returns-clause-length c = length-parts

pub returns-clause-no_frames : goal.returns-clause-no_frames
returns-clause-no_frames c = λ stream h. (begins-no_frames stream h, rest_of-no_frames stream h)

pub returns-clause-no_frame : goal.returns-clause-no_frame
returns-clause-no_frame c = λ stream f. (frames-none stream f, rest_of-none stream f)

pub returns-clause-empty : goal.returns-clause-empty
returns-clause-empty c = (frames-none [] empty-begins, rest_of-none [] empty-begins)
