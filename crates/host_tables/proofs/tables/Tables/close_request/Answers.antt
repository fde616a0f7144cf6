use Rattle.std.proofs.lemmas.Result.{on_ok_weaker}
use Rattle.host_tables.proofs.Closing.{request_closed-moves}
use Rattle.host_tables.proofs.ShownLemmas.{shown-itself}
use Rattle.host_tables.proofs.tables.Tables.close_request.Goals as goal

pub returns-in_default-clause-shown : goal.returns-in_default-clause-shown
returns-in_default-clause-shown c = shown-itself c.args.self.now

pub returns-in_err-by-clause-shown : goal.returns-in_err-by-clause-shown
returns-in_err-by-clause-shown c = shown-itself c.args.self.now

pub returns-clause-ok : goal.returns-clause-ok
returns-clause-ok c =
    on_ok_weaker c.settle_owner.result
    (request_closed-moves c.args.self.now c.settle_owner.new.self c.args.request.now _ c.in-Some.object.now c.in-Some.ensures.found c.in_ok-by.ensures)
    c.settle_owner.ensures.ok
