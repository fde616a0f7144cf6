use Rattle.std.proofs.Common.{rules}
use Rattle.host_tables.proofs.Expecting.{expects_no_more-made, expects_no_more-nothing}
use Rattle.host_tables.proofs.tables.Tables.expect_no_more.Goals as goal

pub returns-clause-ok : goal.returns-clause-ok
returns-clause-ok c =
    expects_no_more-made c.args.self.now c.expect_no_id.new.self c.in-Opens.object c.in-Opens.keeps c.args.due.now c.remove.new.self c.touch.new.self (search rules) c.remove.ensures
    c.expect_no_id.ensures.ok c.expect_no_id.ensures.others c.in_ok-touch.ensures.waiting c.in_ok-touch.ensures.times

pub returns-in_default-clause-ok : goal.returns-in_default-clause-ok
returns-in_default-clause-ok c = expects_no_more-nothing c.args.due.now c.args.self.now c.in_default.not-Opens
