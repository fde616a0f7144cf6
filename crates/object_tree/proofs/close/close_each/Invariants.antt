use Rattle.std.proofs.Common.{◌≡◌, map, take}
use Rattle.std.specs.Map.{values_of}
use Rattle.object_tree.specs.Falls.{reason_of}
use Rattle.object_tree.specs.Tables.{AreKeyed}
use Rattle.object_tree.proofs.ChangeLemmas.{closed_among}
use Rattle.object_tree.proofs.close.close_each.Given as goal

abbrev pub invariant-loop-serial : goal.invariant-loop-serial
invariant-loop-serial l = record {
  keyed : AreKeyed l.objects.entries;
  values : values_of l.objects.entries ≡ map (closed_among (reason_of (values_of l.initial.objects.entries) l.serials l.fn.roots l.reason) (take l.serial-index l.serials)) (values_of l.initial.objects.entries);
}
