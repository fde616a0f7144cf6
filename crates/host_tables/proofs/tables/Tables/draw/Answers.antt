use Rattle.host_tables.proofs.Parts.{draws-moves}
use Rattle.host_tables.proofs.tables.Tables.draw.Goals as goal

pub returns-clause-ok : goal.returns-clause-ok
returns-clause-ok c = draws-moves c.args.self.now c.args.next
