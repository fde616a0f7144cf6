use Rattle.std.proofs.Common.{◌≡◌, ◌&&◌, true, arith, rules}
use Rattle.std.proofs.lemmas.Grind.{common_steps}
use Rattle.std.proofs.lemmas.Result.{on_ok_weaker}
use Rattle.host_model.specs.State.{is_wanted}
use Rattle.host_core.proofs.HostLemmas.{start-goes}
use Rattle.host_core.proofs.host.hear_start.Goals as goal

pub returns-clause-ok : goal.returns-clause-ok
returns-clause-ok c =
    let wanted : (c.args.up && is_wanted c.args.tables.now.slots.slots c.args.worker) ≡ true = first_of (search rules, grind (arith, common_steps)) in
    on_ok_weaker c.settle_awaits.result
    (start-goes c.args.worker c.args.up c.args.tables.now c.start.new.self c.settle_awaits.new.self wanted c.in_ok-start.ensures.ok)
    c.settle_awaits.ensures.ok
