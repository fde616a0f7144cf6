use Rattle.std.proofs.Common.{ap, ◌∙◌}
use Rattle.pending_calls.specs.Pending.{PendingView}
use Rattle.host_requests.proofs.ChannelLemmas.{last-is}
use Rattle.host_requests.proofs.requests.Requests.new.Goals as goal

pub returns-clause-lasts : goal.returns-clause-lasts
returns-clause-lasts g c = λ worker. last-is c.new-2.result worker ∙ ap (λ (p : PendingView). p.last) (c.new-2.ensures worker)
