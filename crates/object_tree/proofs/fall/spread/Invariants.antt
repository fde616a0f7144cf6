use Rattle.std.proofs.Common.{take}
use Rattle.object_tree.specs.Spread.{Grows, at, is_led}
use Rattle.object_tree.proofs.fall.spread.Given as goal

abbrev pub invariant-loop-serial : goal.invariant-loop-serial
invariant-loop-serial l = Grows (at l.objects) (is_led (at l.objects) (take l.serial-index l.serials)) l.initial.fall l.fall
