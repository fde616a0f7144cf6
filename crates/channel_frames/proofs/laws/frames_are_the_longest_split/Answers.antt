use Rattle.channel_frames.proofs.SplitLemmas.{at_most, splits-frames, splits-only}
use Rattle.channel_frames.proofs.laws.frames_are_the_longest_split.Goals as goal

pub returns-clause-most : goal.returns-clause-most
returns-clause-most c = at_most

pub returns-clause-split : goal.returns-clause-split
returns-clause-split c = splits-frames

pub returns-clause-only : goal.returns-clause-only
returns-clause-only c = splits-only
