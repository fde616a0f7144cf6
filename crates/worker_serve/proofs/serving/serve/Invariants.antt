use Rattle.std.proofs.Common.{◌≡◌, length}
use Rattle.ms_devices.specs.Told.{Tells}
use Rattle.ms_devices.specs.declared.events.TheConstants.{EVENT_BYTES}
use Rattle.worker_serve.specs.Serving.{IsOfLinks}
use Rattle.worker_serve.proofs.ServeLemmas.{HasRead, HasServed, SinceOf}
use Rattle.worker_serve.proofs.serving.serve.Given as goal

-- what was given so far is served
abbrev pub invariant-loop : goal.invariant-loop
invariant-loop g l = record {
  served :
      Tells (SinceOf (HasRead l.server.reader) (HasServed l.server.engine) (g.O.Outbox.calls l.fn.outbox) (g.O.Outbox.calls l.outbox))
      (g.I.Inbox.given l.fn.inbox) (g.I.Inbox.given l.inbox);
  read : g.I.Inbox.faults l.inbox ≡ g.I.Inbox.faults l.fn.inbox;
  channel : g.O.Outbox.channel_faults l.outbox ≡ g.O.Outbox.channel_faults l.fn.outbox;
  links : IsOfLinks (g.O.Outbox.link_faults l.fn.outbox) (g.O.Outbox.link_faults l.outbox) (g.O.Outbox.calls l.fn.outbox) (g.O.Outbox.calls l.outbox);
  room : length l.place ≡ EVENT_BYTES;
}
