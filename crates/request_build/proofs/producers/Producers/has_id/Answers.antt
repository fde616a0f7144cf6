use Rattle.std.proofs.Common.{nat_lt, ap, ◌∙◌}
use Rattle.std.specs.List.{list_any}
use Rattle.request_build.specs.Offers.{is_offer_in, offers}
use Rattle.request_build.proofs.OfferLemmas.{any-counted}
use Rattle.request_build.proofs.producers.Producers.has_id.Goals as goal

pub returns : goal.returns
returns c =
    c.has.ensures
    ∙ (ap (nat_lt 0) (c.self.invariant c.args.router c.args.id)
    ∙ (any-counted (is_offer_in c.args.router c.args.id) c.self.inside.entries.entries ∙ ap (list_any (offers c.args.router c.args.id)) c.self.view_is))
