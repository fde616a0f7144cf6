use Rattle.channel_frames.proofs.Front.{new_frames-at_most}
use Rattle.channel_frames.proofs.laws.new_frames_take_a_byte_each.Goals as goal

pub returns : goal.returns
returns c = new_frames-at_most
