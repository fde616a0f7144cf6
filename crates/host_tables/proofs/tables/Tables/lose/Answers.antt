use Rattle.std.proofs.Common.{refl}
use Rattle.host_tables.proofs.Parts.{lost-moves, shown-same}
use Rattle.host_tables.proofs.tables.Tables.lose.Goals as goal

pub returns-in_err-add-clause-shown : goal.returns-in_err-add-clause-shown
returns-in_err-add-clause-shown c = shown-same c.args.self.now _ refl refl

pub returns-in_err-touch-clause-shown : goal.returns-in_err-touch-clause-shown
returns-in_err-touch-clause-shown c = shown-same c.args.self.now _ refl refl

pub returns-clause-ok : goal.returns-clause-ok
returns-clause-ok c = lost-moves c.args.self.now c.args.name.now c.add.new.self c.touch.new.self c.in_ok-add.ensures.ok c.in_ok-touch.ensures.waiting c.in_ok-touch.ensures.times

pub returns-clause-shown : goal.returns-clause-shown
returns-clause-shown c = shown-same c.args.self.now _ refl refl
