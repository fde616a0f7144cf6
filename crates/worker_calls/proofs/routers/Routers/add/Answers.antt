use Rattle.std.proofs.Common.{List, [], ◌∷◌, ◌++◌, ap, ◌∙◌}
use Rattle.worker_router.specs.State.{RouterState}
use Rattle.worker_calls.specs.Plans.{at}
use Rattle.worker_calls.proofs.EntryLemmas.{added}
use Rattle.worker_calls.proofs.routers.Routers.add.Goals as goal

pub returns-clause-ok : goal.returns-clause-ok
returns-clause-ok c =
    added c.self.inside.routers c.insert.new.self c.args.id c.new.result c.args.self.now c.self.view_is c.requires c.in_ok-insert.ensures.entries
    ∙ ap (λ (r : RouterState). c.args.self.now ++ at c.args.id r ∷ []) c.new.ensures
