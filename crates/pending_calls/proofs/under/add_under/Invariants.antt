use Rattle.std.proofs.Common.{◌≡◌, ℕ}
use Rattle.std.specs.BTreeMap.{get}
use Rattle.std.specs.Ordering.{nat_cmp}
use Rattle.pending_calls.specs.Pending.{same_serial}
use Rattle.pending_calls.specs.Kept.{passing_or}
use Rattle.pending_calls.proofs.UnderLemmas.{filled}
use Rattle.pending_calls.proofs.under.add_under.Given as goal

-- what was found, with what the pairs that are left lead to
abbrev pub invariant-loop-pair : goal.invariant-loop-pair
invariant-loop-pair l = (id : ℕ) →
    filled (λ w. same_serial l.object w.under) (get nat_cmp l.waiting id) id l.pair-iterator (get nat_cmp l.found id)
    ≡ passing_or (λ w. same_serial l.object w.under) (get nat_cmp l.waiting id) (get nat_cmp l.fn.found id)
