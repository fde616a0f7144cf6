use Rattle.std.proofs.Common.{subst, bytes_eq}
use Rattle.std.specs.List.{IsDistinct}
use Rattle.worker_router.proofs.ByIdLemmas.{removed}
use Rattle.worker_router.proofs.by_id.ById.remove.Goals as goal

pub invariant_of-self : goal.invariant_of-self
invariant_of-self g c =
    let both = removed g.T.HasId.id_of c.self.inside.items c.shift_remove-removed.new.self c.args.self.now c.args.id c.self.invariant.keys c.self.invariant.different c.self.view_is c.shift_remove-removed.ensures.entries in
    record { keys = both.0; different = c.shift_remove-removed.ensures.unique }

pub returns-clause-state : goal.returns-clause-state
returns-clause-state g c =
    (removed g.T.HasId.id_of c.self.inside.items c.shift_remove-removed.new.self c.args.self.now c.args.id c.self.invariant.keys c.self.invariant.different c.self.view_is c.shift_remove-removed.ensures.entries).1

pub returns-clause-different : goal.returns-clause-different
returns-clause-different g c =
    let both = removed g.T.HasId.id_of c.self.inside.items c.shift_remove-removed.new.self c.args.self.now c.args.id c.self.invariant.keys c.self.invariant.different c.self.view_is c.shift_remove-removed.ensures.entries in
    subst (IsDistinct bytes_eq) both.0 c.shift_remove-removed.ensures.unique
