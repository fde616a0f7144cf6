use Rattle.std.proofs.Common.{◌≡◌, ◌≤◌, ◌+◌, Bool, length, vec_len}
use Rattle.std.specs.List.Sorted.{IsStrictlySortedBy}
use Rattle.std.specs.Map.{keys_of}
use Rattle.std.specs.Ordering.{nat_cmp}
use Rattle.std.specs.Prelude.{vec_capacity}
use Rattle.host_requests.specs.declared.request.Request.{Request}
use Rattle.host_requests.specs.Kept.{AreTied, lasts_of}
use Rattle.host_requests.specs.Places.{numbers_of}
use Rattle.host_requests.proofs.RequestLemmas.{IsTaking}
use Rattle.host_requests.proofs.requests.take_each.Given as goal

abbrev pub invariant-loop-number : goal.invariant-loop-number
invariant-loop-number g l = record {
  room : vec_len l.taken + length l.numbers.keys ≤ vec_capacity l.taken;
  in_order : IsStrictlySortedBy nat_cmp (keys_of l.filed);
  tied : AreTied l.initial.filed l.initial.channels → AreTied l.filed l.channels;
  lasts : lasts_of l.channels ≡ lasts_of l.initial.channels;
  taken : (p : Request g.row.D.Denot → Bool) → l.initial.numbers.keys ≡ numbers_of p l.initial.filed → IsTaking p l.initial.filed l.filed l.initial.taken.items l.taken.items l.numbers.keys;
}

abbrev pub decreases-loop-number : goal.decreases-loop-number
decreases-loop-number g l = length l.numbers.keys
