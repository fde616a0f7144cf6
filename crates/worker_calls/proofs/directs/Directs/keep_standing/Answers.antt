use Rattle.std.proofs.Common.{rules, filter, ap, ◌∙◌}
use Rattle.std.proofs.lemmas.Fn.{filter_same}
use Rattle.worker_calls.specs.Requests.{stands_in}
use Rattle.worker_calls.specs.Tables.{DirectsView}
use Rattle.worker_calls.proofs.directs.Directs.keep_standing.Goals as goal

pub returns : goal.returns
returns c =
    filter_same _ (stands_in c.args.routers.now) _ (λ x b f' k. search rules) _ _ c.retain.ensures.filtered
    ∙ ap (λ (v : DirectsView). filter (stands_in c.args.routers.now) v.keys) c.self.view_is
