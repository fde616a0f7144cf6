use Rattle.channel_frames.proofs.SplitLemmas.{reads_back}
use Rattle.channel_frames.proofs.laws.written_frames_read_back.Goals as goal

pub returns : goal.returns
returns c = reads_back
