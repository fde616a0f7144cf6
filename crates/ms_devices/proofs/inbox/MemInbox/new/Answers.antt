use Rattle.ms_devices.proofs.InboxLemmas.{new_inbox}
use Rattle.ms_devices.proofs.inbox.MemInbox.new.Goals as goal

pub invariant_of-result : goal.invariant_of-result
invariant_of-result c = new_inbox c.loop-event.yielded c.loop-event.all.items c.loop-event.invariant
