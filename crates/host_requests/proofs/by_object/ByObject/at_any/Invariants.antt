use Rattle.std.proofs.Common.{◌≡◌, ℕ, take}
use Rattle.std.specs.List.{list_any}
use Rattle.std.specs.List.Sorted.{IsStrictlySortedBy}
use Rattle.std.specs.Ordering.{nat_cmp}
use Rattle.ms_base.specs.declared.keys.Serial.{Serial}
use Rattle.host_requests.specs.Places.{has, numbers_at}
use Rattle.host_requests.proofs.by_object.ByObject.at_any.Given as goal

abbrev pub invariant-loop-object : goal.invariant-loop-object
invariant-loop-object l = record {
  has : (n : ℕ) → has n l.all.keys ≡ list_any (λ (o : Serial). has n (numbers_at l.self o.0)) (take l.object-index l.objects);
  in_order : IsStrictlySortedBy nat_cmp l.all.keys;
}
