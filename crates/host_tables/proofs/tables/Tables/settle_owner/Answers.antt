use Rattle.std.proofs.Common.{refl}
use Rattle.std.proofs.lemmas.Result.{on_ok_weaker}
use Rattle.host_tables.proofs.Owning.{owner-moves, owner-none}
use Rattle.host_tables.proofs.Parts.{shown-same}
use Rattle.host_tables.proofs.tables.Tables.settle_owner.Goals as goal

pub returns-in-Call-clause-ok : goal.returns-in-Call-clause-ok
returns-in-Call-clause-ok c =
    on_ok_weaker c.settle_call.result
    (owner-moves c.args.self.now c.settle_call.new.self c.args.owner c.in-Call.call c.args.outcome _ _ c.in-Call.is c.made_name.ensures)
    c.settle_call.ensures.ok

pub returns-in-Job-clause-ok : goal.returns-in-Job-clause-ok
returns-in-Job-clause-ok c = owner-none c.args.self.now c.args.owner c.args.outcome _ c.in-Job.is

pub returns-in-Job-clause-shown : goal.returns-in-Job-clause-shown
returns-in-Job-clause-shown c = shown-same c.args.self.now _ refl refl
