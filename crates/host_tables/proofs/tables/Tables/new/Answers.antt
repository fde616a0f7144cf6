use Rattle.std.proofs.Common.{refl, ap}
use Rattle.host_tables.specs.LookUps.{SlotsView}
use Rattle.host_tables.proofs.Starting.{new-kept}
use Rattle.host_tables.proofs.tables.Tables.new.Goals as goal

pub returns-clause-kept : goal.returns-clause-kept
returns-clause-kept c =
    new-kept c.args.seed _ c.new-tree.ensures c.new-kept.ensures refl c.new-requests.ensures.waiting c.new-requests.ensures.lasts c.new-calls.ensures c.new-failed.ensures
    c.new-awaits.ensures.waiting c.new-awaits.ensures.times (ap (λ (v : SlotsView). v.slots) c.new-slots.ensures) c.new-notes.ensures
