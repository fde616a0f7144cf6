use Rattle.std.proofs.Common.{rules}
use Rattle.host_model.specs.Falls.{over_if}
use Rattle.host_tables.proofs.Mapped.{mapped-next}
use Rattle.host_tables.proofs.slots.Slots.end.Goals as goal

pub loop-slot-preserved : goal.loop-slot-preserved
loop-slot-preserved c =
    mapped-next (over_if c.args.fallen.now c.args.reason) c.deref_mut-slot-items.result.now c.loop-slot.slot-items c.loop-slot.slot-index c.slot-item.result c.end_if.new.self
    c.loop-slot-test.true c.loop-slot.invariant c.slot-item.is (search rules)
