use Rattle.std.proofs.Common.{arith}
use Rattle.rtp_packet.proofs.Whole.{found_of, only_of}
use Rattle.rtp_packet.proofs.packet.Packet.parse.Goals as goal

pub returns-clause-found : goal.returns-clause-found
returns-clause-found c = found_of c.args.bytes.now c.read.result (λ i. omega (arith, c.type_inv.bytes i)) c.read.ensures.fields c.read.ensures.fault

pub returns-clause-only : goal.returns-clause-only
returns-clause-only c = only_of c.args.bytes.now c.read.result c.read.ensures.fields c.read.ensures.fault
