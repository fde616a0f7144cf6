use Rattle.std.proofs.Common.{rules}
use Rattle.host_tables.proofs.Expecting.{expects-made, expects-nothing}
use Rattle.host_tables.proofs.tables.Tables.expect.Goals as goal

pub returns-clause-ok : goal.returns-clause-ok
returns-clause-ok c =
    expects-made c.args.self.now c.expect_id.new.self c.in-Opens.object c.in-Opens.keeps c.args.due.now c.add.new.self c.touch.new.self (search rules) c.in_ok-add.ensures.ok
    c.in_ok-expect_id.ensures.ok c.expect_id.ensures.others c.in_ok-touch.ensures.waiting c.in_ok-touch.ensures.times

pub returns-in_default-clause-ok : goal.returns-in_default-clause-ok
returns-in_default-clause-ok c = expects-nothing c.args.due.now c.args.self.now c.in_default.not-Opens
