use Rattle.std.proofs.Common.{ap, sym, ◌∙◌}
use Rattle.host_requests.specs.Places.{numbers_of}
use Rattle.host_requests.specs.Requests.{is_on}
use Rattle.host_requests.proofs.FiledLemmas.{only-on}
use Rattle.host_requests.proofs.filed.Filed.number_on.Goals as goal

pub returns-clause-only : goal.returns-clause-only
returns-clause-only g c =
    ap (λ es. numbers_of (is_on c.args.worker c.args.id) es) (sym c.self.view_is)
    ∙ only-on c.args.worker c.args.id c.self.inside.requests.entries c.self.inside.places c.on.result c.self.invariant c.on.ensures
