use Rattle.rtp_extension.proofs.Packets.{rewritten_len}
use Rattle.rtp_extension.proofs.laws.rewritten_is_no_longer.Goals as goal

pub returns : goal.returns
returns c = rewritten_len
