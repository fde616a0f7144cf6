use Rattle.std.proofs.Common.{List, not, rules, ap, ◌∙◌}
use Rattle.std.proofs.lemmas.Fn.{filter_same}
use Rattle.ms_base.specs.declared.id.Id.{Id}
use Rattle.worker_router.specs.State.{same_id}
use Rattle.worker_router.specs.Tables.{FeedView, detached}
use Rattle.worker_router.proofs.feed.Feed.detach.Goals as goal

pub returns : goal.returns
returns c =
    let make : List (Id × Id) → FeedView = λ l. record { source = record { id = c.self.inside.id; transport = c.self.inside.transport; stream = c.self.inside.producer }; consumers = l } in
    ap make (filter_same _ (λ place. not (same_id place.0 c.args.consumer)) _ (λ x b f t. search rules) c.self.inside.consumers.items c.retain.new.self.items c.retain.ensures.filtered)
    ∙ ap (detached c.args.consumer) c.self.view_is
