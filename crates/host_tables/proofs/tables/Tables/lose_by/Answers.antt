use Rattle.std.proofs.Common.{refl}
use Rattle.std.proofs.lemmas.Result.{on_ok_weaker}
use Rattle.host_tables.proofs.Owning.{lost_one-moves, not_lost-moves}
use Rattle.host_tables.proofs.Parts.{shown-same}
use Rattle.host_tables.proofs.tables.Tables.lose_by.Goals as goal

pub returns-in-Some-clause-ok : goal.returns-in-Some-clause-ok
returns-in-Some-clause-ok c =
    on_ok_weaker c.lose.result (lost_one-moves c.args.self.now c.lose.new.self c.in-Some.name.now _ c.in-Some.ensures) c.lose.ensures.ok

pub returns-in-None-clause-ok : goal.returns-in-None-clause-ok
returns-in-None-clause-ok c = not_lost-moves c.args.self.now _ c.in-None.ensures

pub returns-in-None-clause-shown : goal.returns-in-None-clause-shown
returns-in-None-clause-shown c = shown-same c.args.self.now _ refl refl
