use Rattle.std.proofs.Common.{◌≡◌}
use Rattle.turn_lock.specs.Passes.{parts, IsOf, IsIdle}
use Rattle.turn_lock.proofs.tests.enter_lines.Given as goal

abbrev pub invariant-loop-number : goal.invariant-loop-number
invariant-loop-number g l = IsOf l.lock l.pass × IsIdle l.pass × (parts l.pass ≡ parts l.initial.pass)
