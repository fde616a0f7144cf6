use Rattle.std.proofs.Common.{sym, ap, ◌∙◌}
use Rattle.host_requests.specs.Requests.{RequestsView, last_on}
use Rattle.host_requests.proofs.ChannelLemmas.{last-is}
use Rattle.host_requests.proofs.requests.Requests.last.Goals as goal

pub returns : goal.returns
returns g c = c.last.ensures ∙ sym (last-is c.self.inside.channels c.args.worker) ∙ ap (λ (v : RequestsView g.row.D.Denot). last_on v c.args.worker) c.self.view_is
