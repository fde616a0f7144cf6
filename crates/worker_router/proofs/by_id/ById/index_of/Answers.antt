use Rattle.worker_router.proofs.PlaceLemmas.{stands-at, stands-by}
use Rattle.worker_router.proofs.by_id.ById.index_of.Goals as goal

pub returns-then-eq : goal.returns-then-eq
returns-then-eq g c =
    stands-at g.T.HasId.id_of c.args.id c.self.inside.items c.args.self.now c.self.invariant.keys c.self.view_is c.args.first c.in-Some.key.now c.in-Some._object.now
    c.in-Some.ensures.entry c.if-eq.ensures c.in-Some.ensures.value

pub returns : goal.returns
returns g c = stands-by g.T.HasId.id_of c.args.id c.self.inside.items c.args.self.now c.self.invariant.keys c.self.view_is c.get_index_of.result c.get_index_of.ensures.found c.get_index_of.ensures.value
