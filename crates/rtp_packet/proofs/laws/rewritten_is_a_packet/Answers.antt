use Rattle.rtp_packet.proofs.Rewritten.{packet_rewritten}
use Rattle.rtp_packet.proofs.laws.rewritten_is_a_packet.Goals as goal

pub returns : goal.returns
returns c bytes fields seq ssrc payload_type s r t is = packet_rewritten fields bytes seq ssrc payload_type s r t is
