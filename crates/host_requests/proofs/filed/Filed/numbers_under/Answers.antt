use Rattle.std.proofs.Common.{◌≡◌, ℕ, ap, ◌∙◌}
use Rattle.std.specs.BTreeSet.{BTreeSet}
use Rattle.std.specs.List.{list_any}
use Rattle.std.specs.List.Sorted.{IsStrictlySortedBy}
use Rattle.std.specs.Ordering.{nat_cmp}
use Rattle.ms_base.specs.declared.keys.Serial.{Serial}
use Rattle.host_requests.specs.Places.{has, numbers_at, numbers_of}
use Rattle.host_requests.specs.Requests.{is_under}
use Rattle.host_requests.proofs.FiledLemmas.{all-under, if-ok-both}
use Rattle.host_requests.proofs.filed.Filed.numbers_under.Goals as goal

pub returns-clause-all : goal.returns-clause-all
returns-clause-all g c =
    if-ok-both c.at_any.result (λ (all : BTreeSet ℕ). (n : ℕ) → has n all.keys ≡ list_any (λ (o : Serial). has n (numbers_at c.self.inside.places.under o.0)) c.args.objects.now)
    (λ (all : BTreeSet ℕ). IsStrictlySortedBy nat_cmp all.keys) (λ (all : BTreeSet ℕ). all.keys ≡ numbers_of (is_under c.args.objects.now) c.args.self.now)
    (λ all found order.
    all-under c.args.objects.now c.self.inside.requests.entries c.self.inside.places all.keys c.self.invariant c.len-in_order.ensures.ordered found order
    ∙ ap (λ es. numbers_of (is_under c.args.objects.now) es) c.self.view_is)
    c.at_any.ensures.has c.at_any.ensures.in_order
