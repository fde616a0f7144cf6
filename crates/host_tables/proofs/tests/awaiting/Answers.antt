use Rattle.std.proofs.Common.{◌≡◌, arith, ap}
use Rattle.host_tables.specs.Kept.{Seen}
use Rattle.host_tables.specs.LookUps.{counted}
use Rattle.host_tables.proofs.tests.awaiting.Goals as goal

pub add_await-requires : goal.add_await-requires
add_await-requires c =
    let none : counted c.new-tables.result.calls 1 ≡ 0 = ap (λ (v : Seen). v.calls 1) c.new-tables.ensures.kept.look_ups in
    omega (arith, none)
