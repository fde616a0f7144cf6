use Rattle.std.proofs.Common.{drop}
use Rattle.host_awaits.proofs.SettleLemmas.{Looking}
use Rattle.host_awaits.proofs.settle.look_at_each.Given as goal

abbrev pub invariant-loop-number : goal.invariant-loop-number
invariant-loop-number g l =
    Looking (g.S.Standing.hopeless l.standing) l.initial.names l.initial.waiting.entries (drop l.number-index l.numbers) l.names l.waiting.entries l.settled.items
