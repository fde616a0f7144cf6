use Rattle.std.proofs.lemmas.Result.{on_ok_weaker}
use Rattle.host_tables.proofs.Making.{issued-moves}
use Rattle.host_tables.proofs.tables.Tables.issue.Goals as goal

pub returns-in-Ok-clause-ok : goal.returns-in-Ok-clause-ok
returns-in-Ok-clause-ok c =
    on_ok_weaker c.note.result
    (issued-moves c.args.self.now c.expect.new.self c.note.new.self c.args.channel c.args.owner c.args.under c.args.due _ c.args.payload c.issue.new.self c.in_ok-expect.ensures.ok
    c.in-Ok.ensures.id c.in-Ok.ensures.waiting c.in-Ok.ensures.lasts)
    c.note.ensures.ok
