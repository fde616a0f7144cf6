use Rattle.std.proofs.Common.{◌&&◌, take}
use Rattle.object_tree.specs.Falls.{is_among}
use Rattle.object_tree.specs.Objects.{is_open}
use Rattle.object_tree.specs.Spread.{Grows, at}
use Rattle.object_tree.proofs.fall.add_roots.Given as goal

abbrev pub invariant-loop-root : goal.invariant-loop-root
invariant-loop-root l = Grows (at l.objects) (λ y. is_open y && is_among (take l.root-index l.roots) y.serial) l.initial.fall l.fall
