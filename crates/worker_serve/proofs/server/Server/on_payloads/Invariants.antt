use Rattle.std.proofs.Common.{◌≡◌, length, map}
use Rattle.channel_frames.specs.Frames.{frames}
use Rattle.channel_frames.specs.Reading.{drained}
use Rattle.ms_devices.specs.Told.{Tells}
use Rattle.worker_engine.specs.Run.{payload}
use Rattle.worker_serve.specs.Sending.{AddsBy}
use Rattle.worker_serve.specs.Serving.{IsOfLinks}
use Rattle.worker_serve.proofs.HearingLemmas.{PartBy}
use Rattle.worker_serve.proofs.server.Server.on_payloads.Given as goal

-- the payloads so far are served, and those of the reader are left
abbrev pub invariant-loop-payload : goal.invariant-loop-payload
invariant-loop-payload g l = record {
  sent :
      Tells (AddsBy (PartBy l.initial.self.engine (map payload (frames l.initial.self.reader.unread)) l.self.engine (map payload (frames l.self.reader.unread))))
      (g.O.Outbox.calls l.initial.outbox) (g.O.Outbox.calls l.outbox);
  drained : drained l.self.reader ≡ drained l.initial.self.reader;
  counts : g.O.Outbox.channel_faults l.outbox ≡ g.O.Outbox.channel_faults l.initial.outbox;
  links : IsOfLinks (g.O.Outbox.link_faults l.initial.outbox) (g.O.Outbox.link_faults l.outbox) (g.O.Outbox.calls l.initial.outbox) (g.O.Outbox.calls l.outbox);
}

abbrev pub decreases-loop-payload : goal.decreases-loop-payload
decreases-loop-payload g l = length (frames l.self.reader.unread)
