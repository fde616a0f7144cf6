use Rattle.std.proofs.Common.{arith}
use Rattle.rtp_packet.proofs.Bits.{typed}
use Rattle.rtp_packet.proofs.rewrite.with_type.Goals as goal

pub returns : goal.returns
returns c = typed c.args.second c.args.payload_type (omega arith) c.requires
