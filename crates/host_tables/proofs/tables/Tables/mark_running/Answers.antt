use Rattle.object_tree.specs.declared.object.Mark.TheVariants as mark
use Rattle.host_tables.proofs.Opening.{marked-moves}
use Rattle.host_tables.proofs.tables.Tables.mark_running.Goals as goal

pub returns-clause-ok : goal.returns-clause-ok
returns-clause-ok c = marked-moves c.args.self.now c.args.worker mark.Running c.mark.new.self c.mark.ensures
