use Rattle.std.proofs.Common.{◌≡◌}
use Rattle.ms_devices.specs.WorkerMemory.{given_of}
use Rattle.ms_devices.proofs.inbox.MemInbox.new.Given as goal

abbrev pub invariant-loop-event : goal.invariant-loop-event
invariant-loop-event l = l.all.items ≡ given_of l.yielded
