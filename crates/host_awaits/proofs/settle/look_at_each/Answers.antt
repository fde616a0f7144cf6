use Rattle.host_awaits.proofs.NameLemmas.{for_err}
use Rattle.host_awaits.proofs.SettleLemmas.{below-kept, finished, looked-at, still-known}
use Rattle.host_awaits.proofs.settle.look_at_each.Goals as goal

pub returns-in_err-look_at-clause-below : goal.returns-in_err-look_at-clause-below
returns-in_err-look_at-clause-below g c =
    λ next h.
    below-kept next c.loop-number.names c.look_at.new.names c.loop-number.waiting.entries c.look_at.new.waiting.entries c.in_err-look_at.ensures.kept c.in_err-look_at.ensures.err
    (c.loop-number.invariant.below next h)

pub returns-in_err-look_at-clause-err : goal.returns-in_err-look_at-clause-err
returns-in_err-look_at-clause-err g c =
    for_err c.from_residual.result
    (still-known (g.S.Standing.hopeless c.args.standing.now) c.args.names.now c.args.waiting.now.entries c.args.numbers.now c.loop-number.number-index c.loop-number.names c.look_at.new.names
    c.loop-number.waiting.entries c.look_at.new.waiting.entries c.loop-number.settled.items c.loop-number.invariant c.in_err-look_at.ensures.err c.in_err-look_at.ensures.kept)

pub loop-number-preserved : goal.loop-number-preserved
loop-number-preserved g c =
    looked-at (g.S.Standing.hopeless c.args.standing.now) c.args.names.now c.args.waiting.now.entries c.args.numbers.now c.loop-number.number-index c.loop-number.names c.look_at.new.names
    c.loop-number.waiting.entries c.look_at.new.waiting.entries c.loop-number.settled.items c.look_at.new.settled.items c.requires.in_order c.loop-number-test.true c.loop-number.invariant
    c.look_at.ensures.noted c.in_ok-look_at.ensures.ok

pub returns-clause-settled : goal.returns-clause-settled
returns-clause-settled g c =
    (finished (g.S.Standing.hopeless c.args.standing.now) c.args.names.now c.args.waiting.now.entries c.args.numbers.now c.loop-number.number-index c.loop-number.names
    c.loop-number.waiting.entries c.loop-number.settled.items c.loop-number-test.false c.loop-number.invariant).settled_is

pub returns-clause-waiting : goal.returns-clause-waiting
returns-clause-waiting g c =
    (finished (g.S.Standing.hopeless c.args.standing.now) c.args.names.now c.args.waiting.now.entries c.args.numbers.now c.loop-number.number-index c.loop-number.names
    c.loop-number.waiting.entries c.loop-number.settled.items c.loop-number-test.false c.loop-number.invariant).waiting_is

pub returns-clause-at_rest : goal.returns-clause-at_rest
returns-clause-at_rest g c =
    (finished (g.S.Standing.hopeless c.args.standing.now) c.args.names.now c.args.waiting.now.entries c.args.numbers.now c.loop-number.number-index c.loop-number.names
    c.loop-number.waiting.entries c.loop-number.settled.items c.loop-number-test.false c.loop-number.invariant).at_rest
