use Rattle.rtp_packet.proofs.Bits.{bit_five}
use Rattle.rtp_packet.proofs.header.has_padding.Goals as goal

pub returns : goal.returns
returns c = bit_five c.args.first
