use Rattle.std.proofs.lemmas.Result.{on_ok_weaker}
use Rattle.host_model.specs.Step.{called}
use Rattle.host_core.proofs.HostLemmas.{settled-goes}
use Rattle.host_core.proofs.host.hear_call.Goals as goal

pub returns-clause-ok : goal.returns-clause-ok
returns-clause-ok c =
    on_ok_weaker c.settle_awaits.result
    (settled-goes (called c.args.lane c.args.op.now) c.args.tables.now c.call.new.tables c.settle_awaits.new.self c.in_ok-call.ensures.ok) c.settle_awaits.ensures.ok
