use Rattle.std.proofs.Common.{◌≡◌, ◌+◌}
use Rattle.std.specs.Prelude.{All}
use Rattle.turn_lock.specs.Passes.{parts, IsOf, IsIdle}
use Rattle.turn_lock.proofs.tests.many_passes.Given as goal

abbrev pub invariant-loop : goal.invariant-loop
invariant-loop g l =
    IsOf l.lock l.first × IsIdle l.first × (parts l.first + l.counter ≡ parts l.initial.first)
    × All (λ p. IsOf l.lock p × IsIdle p) l.passes.items
