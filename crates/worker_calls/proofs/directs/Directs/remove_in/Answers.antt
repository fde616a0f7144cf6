use Rattle.std.proofs.Common.{rules, not, filter, ap, ◌∙◌}
use Rattle.std.proofs.lemmas.Fn.{filter_same}
use Rattle.worker_router.specs.State.{same_id}
use Rattle.worker_calls.specs.State.{ProducerKey}
use Rattle.worker_calls.specs.Tables.{DirectsView}
use Rattle.worker_calls.proofs.directs.Directs.remove_in.Goals as goal

pub returns : goal.returns
returns c =
    filter_same _ (λ (key : ProducerKey). not (same_id key.router c.args.router)) _ (λ x b f' k. search rules) _ _ c.retain.ensures.filtered
    ∙ ap (λ (v : DirectsView). filter (λ (key : ProducerKey). not (same_id key.router c.args.router)) v.keys) c.self.view_is
