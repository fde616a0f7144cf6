use Rattle.std.proofs.Common.{◌++◌, List, ℕ, OnOk, sym, subst}
use Rattle.ms_devices.specs.Outside.{event_of}
use Rattle.ms_devices.specs.declared.events.InEvent.{InEvent}
use Rattle.worker_serve.specs.Hearing.{IsReadTo, channel_bytes}
use Rattle.worker_serve.proofs.PayloadLemmas.{datagram_event, end_event}
use Rattle.worker_serve.proofs.server.Server.on_event.Goals as goal

pub returns-in-Channel-clause-read : goal.returns-in-Channel-clause-read
returns-in-Channel-clause-read g c =
    subst (λ (e : InEvent). OnOk c.on_bytes.result ((stream : List ℕ) → IsReadTo c.args.self.now.reader stream → IsReadTo c.on_bytes.new.self.reader (stream ++ channel_bytes (event_of e c.args.place.now))))
    (sym c.in-Channel.is) c.on_bytes.ensures.read

pub returns-in-Datagram-clause-sent : goal.returns-in-Datagram-clause-sent
returns-in-Datagram-clause-sent g c =
    datagram_event c.on_packet.result c.args.self.now.engine c.on_packet.new.self.engine c.args.self.now.reader.unread c.args.event c.args.place.now
    c.in-Datagram.link c.in-Datagram.from c.in-Datagram.len (g.O.Outbox.calls c.args.outbox.now) (g.O.Outbox.calls c.on_packet.new.outbox)
    c.in-Datagram.is c.on_packet.ensures.state c.on_packet.ensures.sent

pub returns-in-End-clause-sent : goal.returns-in-End-clause-sent
returns-in-End-clause-sent g c =
    end_event c.args.self.now.engine c.args.self.now.reader.unread c.args.event c.args.place.now (g.O.Outbox.calls c.args.outbox.now) c.in-End.is
