use Rattle.std.proofs.Common.{◌+◌, ◌-◌, None, Some, ap, sym, ◌∙◌}
use Rattle.std.specs.List.{count_by}
use Rattle.std.specs.Map.{values_of}
use Rattle.request_build.specs.declared.built.Offer.{Offer}
use Rattle.request_build.specs.Counts.{one_if, times_in}
use Rattle.request_build.specs.Offers.{is_offer_in}
use Rattle.request_build.proofs.OfferLemmas.{counted-inserted, found_counts, put-anew, put-in-place}
use Rattle.request_build.proofs.producers.Producers.insert.Goals as goal

pub invariant_of-self-in-Ok-Some : goal.invariant_of-self-in-Ok-Some
invariant_of-self-in-Ok-Some c = λ router id.
    put-in-place _ _ _ _ _ _ _ (c.in_ok-add.ensures.ok router id)
    (c.remove.ensures router id ∙ ap (λ (o : Offer). times_in c.add.new.self router id - one_if (is_offer_in router id o)) (c.into_inner-before.ensures ∙ c.in-Ok-Some.before-is))
    (c.self.invariant router id)
    (ap (λ es. count_by (is_offer_in router id) (values_of es) + found_counts (is_offer_in router id) (Some c.in-Ok-Some.before)) c.in-Ok-Some.ensures.entries
    ∙ counted-inserted (is_offer_in router id) c.self.inside.entries.entries c.args.serial.0 c.args.offer (Some c.in-Ok-Some.before) c.in-Ok-Some.ensures.was_ordered
    (sym c.in-Ok-Some.field-0-is ∙ c.in-Ok-Some.ensures.old)
    ∙ ap (λ (o : Offer). count_by (is_offer_in router id) (values_of c.self.inside.entries.entries) + one_if (is_offer_in router id o)) (sym c.deref-offered.ensures))

pub invariant_of-self-in-Ok-None : goal.invariant_of-self-in-Ok-None
invariant_of-self-in-Ok-None c = λ router id.
    put-anew _ _ _ _ _ (c.in_ok-add.ensures.ok router id) (c.self.invariant router id)
    (ap (λ es. count_by (is_offer_in router id) (values_of es) + 0) c.in-Ok-None.ensures.entries
    ∙ counted-inserted (is_offer_in router id) c.self.inside.entries.entries c.args.serial.0 c.args.offer None c.in-Ok-None.ensures.was_ordered
    (sym c.in-Ok-None.field-0-is ∙ c.in-Ok-None.ensures.old)
    ∙ ap (λ (o : Offer). count_by (is_offer_in router id) (values_of c.self.inside.entries.entries) + one_if (is_offer_in router id o)) (sym c.deref-offered.ensures))
