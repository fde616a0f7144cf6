use Rattle.std.proofs.Common.{◌≡◌, take}
use Rattle.pending_calls.specs.Kept.{without_each}
use Rattle.pending_calls.proofs.pending.Pending.close_under.Given as goal

-- those that were looked at are taken out
abbrev pub invariant-loop-request : goal.invariant-loop-request
invariant-loop-request l = l.self ≡ record l.fn.self { waiting = without_each (take l.request-index l.request-items) l.fn.self.waiting }
