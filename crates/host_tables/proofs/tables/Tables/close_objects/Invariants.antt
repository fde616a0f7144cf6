use Rattle.std.proofs.Common.{◌<◌, take}
use Rattle.object_tree.specs.Objects.{AreInOrder}
use Rattle.host_model.specs.Falls.{closed_notes}
use Rattle.host_tables.specs.Kept.{Hears, ShowsTheSame}
use Rattle.host_tables.proofs.Closing.{forgotten}
use Rattle.host_tables.proofs.tables.Tables.close_objects.Given as goal

-- those so far are told of, and nothing is kept of them
abbrev pub invariant-loop-serial : goal.invariant-loop-serial
invariant-loop-serial l = record {
  told : Hears (closed_notes l.initial.self.tree (take l.serial-index l.fallen)) (record l.initial.self { kept = forgotten (take l.serial-index l.fallen) l.initial.self.kept }) l.self;
  in_order : (0 < l.serial-index → AreInOrder l.initial.self.tree);
  shown : ShowsTheSame l.fn.self l.self;
}
