use Rattle.std.proofs.Common.{◌&&◌, take}
use Rattle.object_tree.specs.Falls.{leads}
use Rattle.object_tree.specs.Objects.{is_open}
use Rattle.object_tree.specs.Spread.{Grows, at}
use Rattle.object_tree.specs.Tables.{is_listed}
use Rattle.object_tree.proofs.fall.add_listed.Given as goal

abbrev pub invariant-loop-serial : goal.invariant-loop-serial
invariant-loop-serial l =
    Grows (at l.objects) (λ y. is_open y && leads l.from y && is_listed (take l.serial-index l.serials) y.serial.0) l.initial.fall l.fall
