use Rattle.std.proofs.lemmas.Result.{on_ok_weaker}
use Rattle.host_tables.proofs.Making.{start_added-moves}
use Rattle.host_tables.proofs.tables.Tables.add_start.Goals as goal

pub returns-clause-ok : goal.returns-clause-ok
returns-clause-ok c =
    on_ok_weaker c.add_start.result (start_added-moves c.args.self.now c.args.call c.args.worker c.add_start.new.self) c.add_start.ensures.ok
