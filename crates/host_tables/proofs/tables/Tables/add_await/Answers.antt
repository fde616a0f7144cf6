use Rattle.std.proofs.Common.{refl}
use Rattle.host_tables.proofs.Parts.{awaited-moves}
use Rattle.host_tables.proofs.tables.Tables.add_await.Goals as goal

pub returns-clause-ok : goal.returns-clause-ok
returns-clause-ok c =
    awaited-moves c.args.self.now c.enter_call.new.self c.args.lane (record { key = c.in_ok-key.key; name = c.in_ok-name.name; event = c.args.event; count = c.args.count }) c.args.name.now
    c.args.event c.args.count c.add.new.self c.in_ok-name.ensures refl refl c.in_ok-key.ensures.key c.in_ok-key.ensures.ok c.in_ok-add.ensures.waiting c.in_ok-add.ensures.times
