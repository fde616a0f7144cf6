use Rattle.std.proofs.lemmas.Result.{on_ok_weaker}
use Rattle.host_tables.proofs.Awaiting.{settles-moves}
use Rattle.host_tables.proofs.tables.Tables.settle_awaits.Goals as goal

pub returns-clause-ok : goal.returns-clause-ok
returns-clause-ok c =
    on_ok_weaker c.note_settled.result
    (settles-moves c.args.self.now c.note_settled.new.self c.settle.new.self c.in_ok-settled.settled.items c.untouched_awaits_have_no_outcome.ensures.settled
    c.touching_leaves_the_awaits.ensures.looked_at c.in_ok-settled.ensures.settled c.in_ok-settled.ensures.waiting c.in_ok-settled.ensures.times)
    c.note_settled.ensures.told
