use Rattle.std.proofs.Common.{ℕ, List, None, take, drop, sym}
use Rattle.channel_msgs.specs.Packet.{packet_payload}
use Rattle.worker_engine.specs.Forwarding.{listed, sent_of}
use Rattle.worker_engine.proofs.Calls.{said-stops}
use Rattle.worker_engine.proofs.Sends.{sent-is}
use Rattle.worker_engine.proofs.forward.send.Goals as goal

pub returns-in_default-end_of-clause-err : goal.returns-in_default-end_of-clause-err
returns-in_default-end_of-clause-err g c =
    let bytes : List ℕ = drop 41 c.args.buffer.now in
    said-stops c.channel.result (take c.frame_packet-framed.result c.frame_packet-framed.new.buffer) (packet_payload c.args.passed.consumer (take c.in-Some.length bytes))
    (listed (sent_of c.args.worker.now c.args.incoming.now.router c.args.passed bytes))
    (g.O.Outbox.link_faults c.args.outbox.now) (g.O.Outbox.link_faults c.channel.new.self) (g.O.Outbox.calls c.args.outbox.now) (g.O.Outbox.calls c.channel.new.self)
    (sent-is c.args.worker.now c.args.incoming.now.router c.args.passed c.in-Some.length bytes None (sym c.in-Some.is)
    c.in_default-end_of.ensures.end)
    c.frame_packet-framed.ensures.frame c.channel.ensures.other c.channel.ensures.told
