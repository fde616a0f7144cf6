use Rattle.std.proofs.Common.{◌≡◌, ℕ, None, take}
use Rattle.std.specs.BTreeMap.{get}
use Rattle.std.specs.Ordering.{nat_cmp}
use Rattle.pending_calls.specs.Pending.{is_under}
use Rattle.pending_calls.specs.Kept.{passing_or}
use Rattle.pending_calls.proofs.under.find_under.Given as goal

abbrev pub invariant-loop-object : goal.invariant-loop-object
invariant-loop-object l = (id : ℕ) → get nat_cmp l.found id ≡ passing_or (is_under (take l.object-index l.objects)) (get nat_cmp l.waiting id) None
