use Rattle.std.proofs.Common.{refl, sym}
use Rattle.host_awaits.specs.Settling.{settles, waits}
use Rattle.host_awaits.proofs.settle.look_at.Goals as goal

pub returns-in_ok-push-in-Some-outcome-clause-ok : goal.returns-in_ok-push-in-Some-outcome-clause-ok
returns-in_ok-push-in-Some-outcome-clause-ok g c =
    settles c.in-Some.awaited.now c.in-Some-outcome.outcome (sym c.in-Some.ensures.value) (sym c.in-Some-outcome.ensures) (λ of. refl) c.remove.ensures.entries
    c.in_ok-push-in-Some-outcome.ensures.items

pub returns-in_ok-rest-in-None-clause-ok : goal.returns-in_ok-rest-in-None-clause-ok
returns-in_ok-rest-in-None-clause-ok g c =
    waits c.in-Some.awaited.now (sym c.in-Some.ensures.value) (sym c.in-None.ensures) c.in_ok-rest-in-None.ensures.resting refl refl
