use Rattle.std.proofs.Common.{◌≡◌, length}
use Rattle.channel_frames.specs.Frames.{rest_of}
use Rattle.channel_frames.proofs.parts.rest_of.Given as goal

abbrev pub invariant-loop-payload : goal.invariant-loop-payload
invariant-loop-payload l = rest_of l.rest ≡ rest_of l.stream

abbrev pub decreases-loop-payload : goal.decreases-loop-payload
decreases-loop-payload l = length l.rest
