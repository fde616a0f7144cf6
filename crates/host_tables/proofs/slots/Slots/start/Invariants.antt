use Rattle.std.proofs.Common.{◌≡◌, ◌++◌, map, take, drop}
use Rattle.host_model.specs.State.{up_if}
use Rattle.host_tables.proofs.slots.Slots.start.Given as goal

-- those behind it are as they were
abbrev pub invariant-loop-slot : goal.invariant-loop-slot
invariant-loop-slot l = l.slot-items ≡ map (up_if l.worker) (take l.slot-index l.initial.slot-items) ++ drop l.slot-index l.initial.slot-items
