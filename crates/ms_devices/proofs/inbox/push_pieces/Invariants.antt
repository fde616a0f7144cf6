use Rattle.std.proofs.Common.{◌≡◌, ◌++◌, length, map}
use Rattle.ms_devices.specs.declared.events.GivenEvent.TheVariants.{Channel}
use Rattle.ms_devices.specs.WorkerMemory.{pieces}
use Rattle.ms_devices.proofs.inbox.push_pieces.Given as goal

abbrev pub invariant-loop-rest : goal.invariant-loop-rest
invariant-loop-rest l = l.all.items ++ map Channel (pieces l.rest) ≡ l.initial.all.items ++ map Channel (pieces l.bytes)

abbrev pub decreases-loop-rest : goal.decreases-loop-rest
decreases-loop-rest l = length l.rest
