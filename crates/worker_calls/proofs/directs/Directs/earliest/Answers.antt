use Rattle.std.proofs.Common.{ap, ◌∙◌, find}
use Rattle.worker_router.specs.State.{same_id}
use Rattle.worker_calls.specs.Tables.{DirectsView}
use Rattle.worker_calls.proofs.directs.Directs.earliest.Goals as goal

pub returns : goal.returns
returns c =
    c.copied.ensures
    ∙ (c.get.ensures.value ∙ (c.self.invariant.by_id c.args.id ∙ ap (λ (v : DirectsView). find (λ key. same_id key.producer c.args.id) v.keys) c.self.view_is))
