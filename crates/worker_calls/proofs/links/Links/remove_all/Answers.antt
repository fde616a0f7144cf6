use Rattle.std.proofs.Common.{rules, not, filter, ap, ◌∙◌}
use Rattle.std.proofs.lemmas.Fn.{filter_same}
use Rattle.worker_calls.specs.Plans.{covers}
use Rattle.worker_calls.specs.State.{LinkAt}
use Rattle.worker_calls.specs.Tables.{LinksView}
use Rattle.worker_calls.proofs.links.Links.remove_all.Goals as goal

pub returns : goal.returns
returns c =
    filter_same _ (λ (l : LinkAt). not (covers c.args.span l.place)) _ (λ x b f' k. search rules) _ _ c.retain.ensures.filtered
    ∙ ap (λ (v : LinksView). filter (λ (l : LinkAt). not (covers c.args.span l.place)) v.links) c.self.view_is
