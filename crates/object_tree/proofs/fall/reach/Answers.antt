use Rattle.std.proofs.Common.{◌≡◌, ◌≤◌, ◌+◌, ℕ, suc, length, subst, sym, ◌∙◌, arith}
use Rattle.std.proofs.lemmas.Bool.{eqb-true}
use Rattle.std.specs.Map.{values_of}
use Rattle.object_tree.specs.Falls.{reached}
use Rattle.object_tree.specs.Spread.{Reaches, at}
use Rattle.object_tree.proofs.ReachLemmas.{length-values, none-items, reaches-next, reaches-on, reaches-roots}
use Rattle.object_tree.proofs.fall.reach.Goals as goal

pub loop-round-init : goal.loop-round-init
loop-round-init c =
    reaches-roots (values_of c.args.objects.now.entries) c.args.roots.now c.requires.in_order c.new-fall.result c.add_roots.new.fall c.new-fall.ensures.none
    c.new-fall.ensures.latest c.in_ok-add_roots.ensures

pub returns-then-is_empty : goal.returns-then-is_empty
returns-then-is_empty c =
    let es = c.args.objects.now.entries in
    let k : ℕ = c.loop-round._round in
    let within : k ≤ length (values_of es) = omega (arith, c.loop-round-test.true, c.len-round-end.ensures.len, length-values es) in
    let empty = eqb-true c.loop-round.fall.latest.len 0 (sym c.is_empty.ensures ∙ c.if-is_empty.true) in
    let none : length c.loop-round.fall.latest.items ≡ 0 = omega (arith, empty, c.loop-round.fall.latest.ok) in
    reaches-on (values_of es) c.args.roots.now c.requires.in_order c.loop-round.fall (none-items c.loop-round.fall.latest.items none) k (length (values_of es)) within
    c.loop-round.invariant

pub loop-round-preserved : goal.loop-round-preserved
loop-round-preserved c =
    let xs = values_of c.args.objects.now.entries in
    let k : ℕ = c.loop-round._round in
    let one : suc k ≡ k + 1 = omega arith in
    subst (λ j. Reaches (at c.args.objects.now) (reached j xs c.args.roots.now) c.spread_round.new.fall) one
    (reaches-next xs c.args.roots.now c.requires.in_order k c.loop-round.fall c.spread_round.new.fall c.loop-round.invariant c.in_ok-spread_round.ensures)

pub returns : goal.returns
returns c =
    let xs = values_of c.args.objects.now.entries in
    let k : ℕ = c.loop-round._round in
    let last : k ≡ length xs = omega (arith, c.loop-round-test.false, c.len-round-end.ensures.len, length-values c.args.objects.now.entries) in
    subst (λ j. Reaches (at c.args.objects.now) (reached j xs c.args.roots.now) c.loop-round.fall) last c.loop-round.invariant
