use Rattle.std.proofs.Common.{List, ℕ, arith, sym, subst}
use Rattle.rtp_packet.specs.Packet.{IsPacket}
use Rattle.rtp_packet.specs.Fault.{Parses}
use Rattle.rtp_packet.specs.Rewriting.{with_fields}
use Rattle.rtp_packet.proofs.Whole.{IsSound-from_parses}
use Rattle.rtp_packet.proofs.Rewritten.{parses_rewritten, packet_rewritten}
use Rattle.rtp_packet.proofs.rewrite.set_fields.Goals as goal

pub overwrite-requires-clause-whole_header : goal.overwrite-requires-clause-whole_header
overwrite-requires-clause-whole_header c = (IsSound-from_parses c.args.packet.now c.requires.parses).whole_header

pub returns-clause-fields : goal.returns-clause-fields
returns-clause-fields c fields p =
    subst (λ (b : List ℕ). IsPacket (with_fields fields c.args.seq c.args.ssrc c.args.payload_type) b) (sym c.overwrite.ensures)
    (packet_rewritten fields c.args.packet.now c.args.seq c.args.ssrc c.args.payload_type (omega arith) (omega arith) c.requires.payload_type p)

pub returns-clause-parses : goal.returns-clause-parses
returns-clause-parses c =
    subst (λ (b : List ℕ). Parses b) (sym c.overwrite.ensures)
    (parses_rewritten c.args.seq c.args.ssrc c.args.payload_type c.args.packet.now c.requires.parses)
