use Rattle.std.proofs.Common.{List, rules, ap, ◌∙◌}
use Rattle.std.proofs.lemmas.Fn.{filter_same}
use Rattle.ms_base.specs.declared.id.Id.{Id}
use Rattle.worker_router.specs.State.{Sink}
use Rattle.worker_router.specs.Tables.{FeedView, present, with_present}
use Rattle.worker_router.proofs.feed.Feed.keep_present.Goals as goal

pub returns : goal.returns
returns c =
    let make : List (Id × Id) → FeedView = λ l. record { source = record { id = c.self.inside.id; transport = c.self.inside.transport; stream = c.self.inside.producer }; consumers = l } in
    ap make (filter_same _ (λ place. present (λ (s : Sink). s.id) c.args.consumers.now place.0) _ (λ x b f t. search rules) c.self.inside.consumers.items c.retain.new.self.items c.retain.ensures.filtered)
    ∙ ap (with_present c.args.consumers.now) c.self.view_is
