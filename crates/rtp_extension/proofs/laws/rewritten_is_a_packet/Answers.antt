use Rattle.rtp_extension.proofs.Packets.{is_rewritten}
use Rattle.rtp_extension.proofs.laws.rewritten_is_a_packet.Goals as goal

pub returns : goal.returns
returns c = is_rewritten
