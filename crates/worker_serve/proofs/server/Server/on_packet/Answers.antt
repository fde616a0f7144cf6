use Rattle.std.proofs.Common.{map}
use Rattle.worker_engine.specs.Forwarding.{out_by}
use Rattle.worker_engine.specs.Outside.{call_of}
use Rattle.worker_serve.proofs.BindLemmas.{packet_asks_not}
use Rattle.worker_serve.proofs.SendingLemmas.{made_goes, made_links, stopped_goes, stopped_links}
use Rattle.worker_serve.proofs.server.Server.on_packet.Goals as goal

pub returns-in-Ok-clause-sent : goal.returns-in-Ok-clause-sent
returns-in-Ok-clause-sent g c =
    made_goes tt (out_by c.args.self.now.engine c.args.from c.args.packet.now) (g.O.Outbox.link_faults c.args.outbox.now) (g.O.Outbox.link_faults c.on_packet.new.outbox)
    (g.O.Outbox.calls c.args.outbox.now) (g.O.Outbox.calls c.on_packet.new.outbox)
    (packet_asks_not c.args.self.now.engine c.args.from c.args.packet.now) c.in-Ok.ensures.told

pub returns-in-Ok-clause-links : goal.returns-in-Ok-clause-links
returns-in-Ok-clause-links g c =
    made_links (map call_of (out_by c.args.self.now.engine c.args.from c.args.packet.now)) (g.O.Outbox.link_faults c.args.outbox.now) (g.O.Outbox.link_faults c.on_packet.new.outbox)
    (g.O.Outbox.calls c.args.outbox.now) (g.O.Outbox.calls c.on_packet.new.outbox) c.on_packet.ensures.links c.in-Ok.ensures.told

pub returns-in-Err-clause-sent : goal.returns-in-Err-clause-sent
returns-in-Err-clause-sent g c =
    stopped_goes (out_by c.args.self.now.engine c.args.from c.args.packet.now) (g.O.Outbox.link_faults c.args.outbox.now) (g.O.Outbox.link_faults c.on_packet.new.outbox)
    (g.O.Outbox.calls c.args.outbox.now) (g.O.Outbox.calls c.on_packet.new.outbox)
    (packet_asks_not c.args.self.now.engine c.args.from c.args.packet.now) c.in-Err.ensures.err

pub returns-in-Err-clause-links : goal.returns-in-Err-clause-links
returns-in-Err-clause-links g c =
    stopped_links (out_by c.args.self.now.engine c.args.from c.args.packet.now) (g.O.Outbox.link_faults c.args.outbox.now) (g.O.Outbox.link_faults c.on_packet.new.outbox)
    (g.O.Outbox.calls c.args.outbox.now) (g.O.Outbox.calls c.on_packet.new.outbox) c.on_packet.ensures.links c.in-Err.ensures.err
