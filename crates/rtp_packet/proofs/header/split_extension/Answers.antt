use Rattle.rtp_packet.proofs.Extension.{behind_words}
use Rattle.rtp_packet.proofs.header.split_extension.Goals as goal

pub returns-clause-rest : goal.returns-clause-rest
returns-clause-rest c =
    behind_words c.args.there c.args.bytes.now c.read_u16.result c.from-len.result c.split_at.result.1.now c.if-not-there.false c.read_u16.ensures c.from-len.ensures c.split_at.ensures.back
