use Rattle.std.proofs.Common.{◌≡◌, ◌++◌, map, take, drop}
use Rattle.host_model.specs.Falls.{over_if}
use Rattle.host_tables.proofs.slots.Slots.end.Given as goal

-- those behind it are as they were
abbrev pub invariant-loop-slot : goal.invariant-loop-slot
invariant-loop-slot l = l.slot-items ≡ map (over_if l.fallen l.reason) (take l.slot-index l.initial.slot-items) ++ drop l.slot-index l.initial.slot-items
