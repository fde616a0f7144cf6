use Rattle.std.proofs.Common.{ap}
use Rattle.host_tables.specs.LookUps.{SlotsView}
use Rattle.host_tables.proofs.Parts.{started-moves}
use Rattle.host_tables.proofs.tables.Tables.start.Goals as goal

pub returns-clause-ok : goal.returns-clause-ok
returns-clause-ok c =
    started-moves c.args.worker c.args.self.now c.note.new.self c.start.new.self c.in_ok-note.ensures.ok (ap (λ (v : SlotsView). v.slots) c.start.ensures)
