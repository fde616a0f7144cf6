use Rattle.std.proofs.Common.{subst, bytes_eq}
use Rattle.std.specs.List.{IsDistinct}
use Rattle.worker_router.proofs.ByIdLemmas.{added}
use Rattle.worker_router.proofs.by_id.ById.add.Goals as goal

pub invariant_of-self-2 : goal.invariant_of-self-2
invariant_of-self-2 g c =
    let both = added g.T.HasId.id_of c.self.inside.items c.insert.new.self c.args.self.now c.args.object c.id.result c.self.invariant.keys c.self.view_is c.requires c.id.ensures c.in_ok-insert.ensures.entries in
    record { keys = both.0; different = c.insert.ensures.unique }

pub returns-clause-ok : goal.returns-clause-ok
returns-clause-ok g c =
    (added g.T.HasId.id_of c.self.inside.items c.insert.new.self c.args.self.now c.args.object c.id.result c.self.invariant.keys c.self.view_is c.requires c.id.ensures c.in_ok-insert.ensures.entries).1

pub returns-clause-different : goal.returns-clause-different
returns-clause-different g c =
    let both = added g.T.HasId.id_of c.self.inside.items c.insert.new.self c.args.self.now c.args.object c.id.result c.self.invariant.keys c.self.view_is c.requires c.id.ensures c.in_ok-insert.ensures.entries in
    subst (IsDistinct bytes_eq) both.0 c.insert.ensures.unique
