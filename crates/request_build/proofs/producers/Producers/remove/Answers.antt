use Rattle.std.proofs.Common.{◌+◌, Some, ap, ◌∙◌}
use Rattle.std.specs.BTreeMap.{is_at}
use Rattle.std.specs.List.{count_by}
use Rattle.std.specs.Map.{values_of}
use Rattle.std.specs.Ordering.{nat_cmp}
use Rattle.request_build.specs.declared.built.Offer.{Offer}
use Rattle.request_build.specs.Counts.{one_if}
use Rattle.request_build.specs.Offers.{is_offer_in}
use Rattle.request_build.proofs.OfferLemmas.{counted-removed, found_counts, taken-out}
use Rattle.request_build.proofs.producers.Producers.remove.Goals as goal

pub invariant_of-self : goal.invariant_of-self
invariant_of-self c = λ router id.
    taken-out _ _ _ _ _ (c.remove-in-Some.ensures router id) (c.self.invariant router id)
    (ap (λ (o : Offer). count_by (is_offer_in router id) (values_of c.remove.new.self.entries) + one_if (is_offer_in router id o)) c.into_inner-offer.ensures
    ∙ (ap (λ es. count_by (is_offer_in router id) (values_of es) + found_counts (is_offer_in router id) (Some c.in-Some.offer)) c.in-Some.ensures.entries
    ∙ counted-removed (is_offer_in router id) c.self.inside.entries.entries (is_at (nat_cmp c.args.serial.0)) (Some c.in-Some.offer) c.in-Some.ensures.value))
