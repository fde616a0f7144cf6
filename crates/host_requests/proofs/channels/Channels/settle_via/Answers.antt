use Rattle.std.proofs.Common.{sym, ap, ◌∙◌}
use Rattle.host_requests.specs.declared.request.Via.{Via}
use Rattle.host_requests.specs.Kept.{pending_on, settled_on}
use Rattle.host_requests.proofs.channels.Channels.settle_via.Goals as goal

pub returns-in-Channel-clause-pending : goal.returns-in-Channel-clause-pending
returns-in-Channel-clause-pending c = λ w. c.settle.ensures.pending w ∙ ap (λ (v : Via). settled_on w v (pending_on c.args.self.now w)) (sym c.in-Channel.is)

pub returns-in-Start-clause-pending : goal.returns-in-Start-clause-pending
returns-in-Start-clause-pending c = λ w. ap (λ (v : Via). settled_on w v (pending_on c.args.self.now w)) (sym c.in-Start.is)
