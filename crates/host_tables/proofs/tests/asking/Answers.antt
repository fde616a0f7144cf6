use Rattle.std.proofs.Common.{◌≡◌, arith, ap}
use Rattle.ms_base.specs.declared.keys.WorkerKey.{WorkerKey}
use Rattle.host_requests.specs.Requests.{last_on}
use Rattle.host_tables.specs.Kept.{Seen}
use Rattle.host_tables.proofs.tests.asking.Goals as goal

pub issue-requires-clause-left : goal.issue-requires-clause-left
issue-requires-clause-left c =
    let first : WorkerKey = record { slot = 1; generation = 1 } in
    let none : last_on c.new-tables.result.requests first ≡ 0 = ap (λ (v : Seen). v.lasts first) c.new-tables.ensures.kept.look_ups in
    omega (arith, none)
