use Rattle.rtp_packet.proofs.Rewritten.{overwritten}
use Rattle.rtp_packet.proofs.rewrite.overwrite.Goals as goal

pub returns : goal.returns
returns c =
    overwritten c.args.packet.now c.write_u16.new.buf c.write_u32.new.buf c.args.seq c.args.ssrc c.args.payload_type c.with_type.result c.requires.whole_header c.with_type.ensures c.write_u16.ensures c.write_u32.ensures
