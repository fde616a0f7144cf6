use Rattle.std.proofs.Common.{◌+◌, refl}
use Rattle.host_tables.proofs.Parts.{slot-moves}
use Rattle.host_tables.proofs.tables.Tables.add_slot.Goals as goal

pub returns-clause-ok : goal.returns-clause-ok
returns-clause-ok c = slot-moves c.args.self.now c.args.slot c.add.new.self (c.args.self.now.kept.slots + 1) c.in_ok-add.ensures.ok refl
