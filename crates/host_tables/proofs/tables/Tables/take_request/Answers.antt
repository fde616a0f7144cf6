use Rattle.std.proofs.Common.{sym}
use Rattle.host_requests.specs.Requests.{is_on}
use Rattle.host_tables.proofs.Making.{none_taken-moves, taken-moves, untaken-same}
use Rattle.host_tables.proofs.tables.Tables.take_request.Goals as goal

pub returns-in_default-clause-none : goal.returns-in_default-clause-none
returns-in_default-clause-none c = λ _.
    untaken-same c.args.self.now (is_on c.args.worker c.args.id) c.settle.new.self c.in_default.ensures.rest (sym c.in_default.ensures.found)

pub returns-in_default-clause-ok : goal.returns-in_default-clause-ok
returns-in_default-clause-ok c = λ _.
    none_taken-moves c.args.self.now (is_on c.args.worker c.args.id) c.settle.new.self c.in_default.ensures.rest (sym c.in_default.ensures.found)

pub returns-clause-ok : goal.returns-clause-ok
returns-clause-ok c = λ alone.
    taken-moves c.args.self.now c.expect_no_more.new.self (is_on c.args.worker c.args.id) c.in-Some.request c.settle.new.self c.in-Some.ensures.rest (sym c.in-Some.ensures.found)
    c.in_ok-expect_no_more.ensures.ok alone
