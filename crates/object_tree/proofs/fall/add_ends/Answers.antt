use Rattle.std.proofs.Common.{◌≡◌, ℕ, List, ◌&&◌, nat_eq, get_or, take, subst}
use Rattle.std.proofs.lemmas.List.{take_all}
use Rattle.object_tree.specs.Falls.{leads}
use Rattle.object_tree.specs.Objects.{is_open}
use Rattle.object_tree.specs.Spread.{Grows, at}
use Rattle.object_tree.specs.Tables.{is_listed_end}
use Rattle.object_tree.proofs.FallLemmas.{grows-more, end-next}
use Rattle.object_tree.proofs.fall.add_ends.Goals as goal

pub loop-pair-preserved : goal.loop-pair-preserved
loop-pair-preserved c =
    let i : ℕ = c.loop-pair.pair-index in
    let pairs = c.args.pairs.now in
    grows-more (at c.args.objects.now) (λ y. is_open y && leads c.args.from.now y) (λ k y. is_listed_end (take k pairs) y.serial.0) (λ y. nat_eq y.serial.0 (get_or pairs i (0, 0)).1) i
    (end-next pairs i (0, 0) c.loop-pair-test.true) c.args.fall.now c.loop-pair.fall c.add_led.new.fall c.loop-pair.invariant c.in_ok-add_led.ensures

pub returns : goal.returns
returns c =
    let whole : take c.loop-pair.pair-index c.args.pairs.now ≡ c.args.pairs.now = take_all c.loop-pair.pair-index c.args.pairs.now c.loop-pair-test.false in
    subst (λ (zs : List (ℕ × ℕ)). Grows (at c.args.objects.now) (λ y. is_open y && leads c.args.from.now y && is_listed_end zs y.serial.0) c.args.fall.now c.loop-pair.fall) whole c.loop-pair.invariant
