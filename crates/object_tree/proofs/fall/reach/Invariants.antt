use Rattle.std.specs.Map.{values_of}
use Rattle.object_tree.specs.Falls.{reached}
use Rattle.object_tree.specs.Spread.{Reaches, at}
use Rattle.object_tree.proofs.fall.reach.Given as goal

abbrev pub invariant-loop-round : goal.invariant-loop-round
invariant-loop-round l = Reaches (at l.objects) (reached l._round (values_of l.objects.entries) l.roots) l.fall
