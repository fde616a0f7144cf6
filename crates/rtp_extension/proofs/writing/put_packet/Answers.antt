use Rattle.rtp_extension.specs.Ids.{kept_id}
use Rattle.rtp_extension.proofs.Parts.{packet_written, packet_no_longer}
use Rattle.rtp_extension.proofs.writing.put_packet.Goals as goal

pub returns-clause-written : goal.returns-clause-written
returns-clause-written c =
    packet_written (kept_id c.args.map.now c.args.only.now) c.args.view.now c.header.result.now c.body.result.now c.args.into.now c.put-at.new.into c.put_extension-at.new.into c.put.new.into
    c.put-at.result c.put_extension-at.result c.put.result c.header.ensures c.body.ensures c.requires.room c.put-at.ensures c.put_extension-at.ensures.written
    c.put_extension-at.ensures.no_longer c.put.ensures

pub returns-clause-no_longer : goal.returns-clause-no_longer
returns-clause-no_longer c =
    packet_no_longer c.args.view.now c.header.result.now c.body.result.now c.args.into.now c.put-at.new.into c.put_extension-at.new.into c.put.new.into
    c.put-at.result c.put_extension-at.result c.put.result c.header.ensures c.body.ensures c.put-at.ensures c.put_extension-at.ensures.no_longer c.put.ensures
