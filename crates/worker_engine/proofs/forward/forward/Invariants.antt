use Rattle.std.proofs.Common.{◌≡◌, ◌≤◌, ◌-◌, List, ◌++◌, length, map, drop}
use Rattle.worker_calls.specs.Requests.{Outgoing}
use Rattle.worker_engine.specs.Outside.{call_of, Made}
use Rattle.worker_engine.specs.Forwarding.{targets, behind_each, out_each}
use Rattle.worker_engine.proofs.forward.forward.Given as goal

-- the Consumers up to a place are served: what is left behind what was done comes to the whole
abbrev pub invariant-loop-passed : goal.invariant-loop-passed
invariant-loop-passed g l = record {
  same : targets l.incoming l.worker ≡ targets l.incoming l.initial.worker;
  state : behind_each l.incoming (drop l.place (targets l.incoming l.initial.worker)) l.worker ≡ behind_each l.incoming (targets l.incoming l.initial.worker) l.initial.worker;
  sent : List Outgoing;
  outs : sent ++ out_each l.incoming (drop l.place (targets l.incoming l.initial.worker)) l.worker ≡ out_each l.incoming (targets l.incoming l.initial.worker) l.initial.worker;
  made : Made (map call_of sent) (g.O.Outbox.link_faults l.initial.outbox) (g.O.Outbox.link_faults l.outbox) (g.O.Outbox.calls l.initial.outbox) (g.O.Outbox.calls l.outbox);
  channel : g.O.Outbox.channel_faults l.outbox ≡ g.O.Outbox.channel_faults l.initial.outbox;
  links : g.O.Outbox.link_faults l.initial.outbox ≤ g.O.Outbox.link_faults l.outbox;
}

abbrev pub decreases-loop-passed : goal.decreases-loop-passed
decreases-loop-passed g l = length (targets l.incoming l.worker) - l.place
