use Rattle.std.proofs.Common.{◌&&◌, nat_eq}
use Rattle.std.proofs.lemmas.Result.{on_ok_weaker}
use Rattle.object_tree.specs.Falls.{is_at, leads}
use Rattle.object_tree.specs.Objects.{is_open}
use Rattle.object_tree.specs.Spread.{at}
use Rattle.object_tree.proofs.FallLemmas.{far-same, grows-same}
use Rattle.object_tree.proofs.fall.add_far.Goals as goal

pub returns-in-Some : goal.returns-in-Some
returns-in-Some c =
    on_ok_weaker c.add_led.result
    (λ h.
    grows-same (at c.args.objects.now) (λ y. is_open y && leads c.args.from.now y) (λ y. nat_eq y.serial.0 c.in-Some.far.0) (λ y. is_at c.args.from.now.far y.serial)
    c.args.fall.now c.add_led.new.fall (far-same c.in-Some.far c.args.from.now.far c.in-Some.is) h)
    c.add_led.ensures
