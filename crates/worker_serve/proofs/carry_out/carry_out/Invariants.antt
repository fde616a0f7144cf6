use Rattle.std.proofs.Common.{◌≡◌, drop, map}
use Rattle.ms_devices.specs.Told.{Tells}
use Rattle.worker_serve.specs.Sending.{AddsBy, act_call}
use Rattle.worker_serve.proofs.SendingLemmas.{Left}
use Rattle.worker_serve.proofs.carry_out.carry_out.Given as goal

-- the acts so far are carried out
abbrev pub invariant-loop-act : goal.invariant-loop-act
invariant-loop-act g l = record {
  sent : Tells (AddsBy (Left (map act_call l.acts) (map act_call (drop l.act-index l.acts)))) (g.O.Outbox.calls l.initial.outbox) (g.O.Outbox.calls l.outbox);
  counts : g.O.Outbox.channel_faults l.outbox ≡ g.O.Outbox.channel_faults l.initial.outbox;
  links : g.O.Outbox.link_faults l.outbox ≡ g.O.Outbox.link_faults l.initial.outbox;
}
