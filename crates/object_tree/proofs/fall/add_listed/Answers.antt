use Rattle.std.proofs.Common.{◌≡◌, ℕ, List, ◌&&◌, nat_eq, get_or, take, subst}
use Rattle.std.proofs.lemmas.List.{take_all}
use Rattle.object_tree.specs.Falls.{leads}
use Rattle.object_tree.specs.Objects.{is_open}
use Rattle.object_tree.specs.Spread.{Grows, at}
use Rattle.object_tree.specs.Tables.{is_listed}
use Rattle.object_tree.proofs.FallLemmas.{grows-more, listed-next}
use Rattle.object_tree.proofs.fall.add_listed.Goals as goal

pub loop-serial-preserved : goal.loop-serial-preserved
loop-serial-preserved c =
    let i : ℕ = c.loop-serial.serial-index in
    let serials = c.args.serials.now in
    grows-more (at c.args.objects.now) (λ y. is_open y && leads c.args.from.now y) (λ k y. is_listed (take k serials) y.serial.0) (λ y. nat_eq y.serial.0 (get_or serials i 0)) i
    (listed-next serials i 0 c.loop-serial-test.true) c.args.fall.now c.loop-serial.fall c.add_led.new.fall c.loop-serial.invariant c.in_ok-add_led.ensures

pub returns : goal.returns
returns c =
    let whole : take c.loop-serial.serial-index c.args.serials.now ≡ c.args.serials.now = take_all c.loop-serial.serial-index c.args.serials.now c.loop-serial-test.false in
    subst (λ (zs : List ℕ). Grows (at c.args.objects.now) (λ y. is_open y && leads c.args.from.now y && is_listed zs y.serial.0) c.args.fall.now c.loop-serial.fall) whole c.loop-serial.invariant
