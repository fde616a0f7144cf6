use Rattle.rtp_packet.proofs.Bits.{bit_four}
use Rattle.rtp_packet.proofs.header.has_extension.Goals as goal

pub returns : goal.returns
returns c = bit_four c.args.first
