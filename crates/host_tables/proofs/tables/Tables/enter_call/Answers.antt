use Rattle.host_tables.proofs.Parts.{entered-moves}
use Rattle.host_tables.proofs.tables.Tables.enter_call.Goals as goal

pub returns-clause-ok : goal.returns-clause-ok
returns-clause-ok c = entered-moves c.args.self.now c.args.lane c.add.new.self c.in_ok-add.ensures.ok
