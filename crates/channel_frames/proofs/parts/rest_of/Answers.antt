use Rattle.std.proofs.Common.{length, sym, ◌∙◌}
use Rattle.channel_frames.proofs.FramesLemmas.{rest_of-none}
use Rattle.channel_frames.proofs.Front.{next-rest}
use Rattle.channel_frames.proofs.parts.rest_of.Goals as goal

pub loop-payload-preserved : goal.loop-payload-preserved
loop-payload-preserved c =
    next-rest c.loop-payload.rest.now (length c.in-Some.payload.now) c.args.stream.now c.in-Some.ensures.0 c.in-Some.ensures.2 c.loop-payload.invariant

pub returns : goal.returns
returns c = sym (rest_of-none c.loop-payload.rest.now c.in_default.ensures) ∙ c.loop-payload.invariant
