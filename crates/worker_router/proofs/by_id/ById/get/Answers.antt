use Rattle.std.proofs.Common.{◌∙◌}
use Rattle.worker_router.proofs.ByIdLemmas.{found}
use Rattle.worker_router.proofs.by_id.ById.get.Goals as goal

pub returns : goal.returns
returns g c = c.get.ensures.value ∙ found g.T.HasId.id_of c.args.id c.self.inside.items c.args.self.now c.self.invariant.keys c.self.view_is
