use Rattle.std.proofs.Common.{[], ◌∷◌, ◌++◌, subst, ◌∙◌}
use Rattle.host_requests.specs.Places.{AreByVia, ArePlaced, IsNext, Outlines}
use Rattle.host_requests.proofs.NumberLemmas.{lookup-last, removed-last}
use Rattle.host_requests.proofs.TableLemmas.{on-err, placed, under-added}
use Rattle.host_requests.proofs.places.Places.add.Goals as goal

pub returns-in_err-add-clause-err : goal.returns-in_err-add-clause-err
returns-in_err-add-clause-err c = on-err c.from_residual.result ((os : Outlines) → ArePlaced c.args.self.now os → IsNext c.args.number c.args.via os → ArePlaced (record { by_via = c.add.new.self; under = c.args.self.now.under }) os) (λ os h next. placed (record { by_via = c.add.new.self; under = c.args.self.now.under }) os (c.in_err-add.ensures.err os h.by_via) h.under)

pub returns-in-Ok-clause-ok : goal.returns-in-Ok-clause-ok
returns-in-Ok-clause-ok c = λ os h next.
    placed (record { by_via = c.add.new.self; under = c.add-2.new.self }) _ (c.in_ok-add.ensures.ok os h.by_via next)
    (under-added c.args.self.now.under c.add-2.new.self c.args.number c.args.via c.args.under os h.under c.in-Ok.ensures.ok next.above)

pub returns-in-Err-clause-err : goal.returns-in-Err-clause-err
returns-in-Err-clause-err c = λ os h next.
    let all = c.in_ok-add.ensures.ok os h.by_via next in
    let found = lookup-last c.args.number (c.args.via, c.args.under) os next.above in
    placed (record { by_via = c.remove.new.self; under = c.add-2.new.self }) os
    (subst (AreByVia c.remove.new.self) (removed-last c.args.number (c.args.via, c.args.under) os next.above) (c.remove.ensures (os ++ (c.args.number, (c.args.via, c.args.under)) ∷ []) found all))
    (λ o. c.in-Err.ensures.err o ∙ h.under o)
