use Rattle.worker_serve.proofs.PayloadLemmas.{direct_served}
use Rattle.worker_serve.proofs.server.Server.on_payload.Goals as goal

pub returns-in-Some-clause-sent : goal.returns-in-Some-clause-sent
returns-in-Some-clause-sent g c =
    direct_served c.on_packet.result c.args.self.now.engine c.on_packet.new.self.engine c.args.bytes.now c.in-Some.id c.in-Some.packet.now
    (g.O.Outbox.calls c.args.outbox.now) (g.O.Outbox.calls c.on_packet.new.outbox) c.in-Some.ensures c.on_packet.ensures.state c.on_packet.ensures.sent
