use Rattle.std.proofs.Common.{◌&&◌, take}
use Rattle.object_tree.specs.Falls.{leads}
use Rattle.object_tree.specs.Objects.{is_open}
use Rattle.object_tree.specs.Spread.{Grows, at}
use Rattle.object_tree.specs.Tables.{is_listed_end}
use Rattle.object_tree.proofs.fall.add_ends.Given as goal

abbrev pub invariant-loop-pair : goal.invariant-loop-pair
invariant-loop-pair l =
    Grows (at l.objects) (λ y. is_open y && leads l.from y && is_listed_end (take l.pair-index l.pairs) y.serial.0) l.initial.fall l.fall
