use Rattle.std.proofs.Common.{ap, ◌∙◌}
use Rattle.host_requests.specs.Places.{first_of, numbers_of}
use Rattle.host_requests.specs.Requests.{is_start_of}
use Rattle.host_requests.proofs.FiledLemmas.{first-start}
use Rattle.host_requests.proofs.filed.Filed.first_start.Goals as goal

pub returns-clause-first : goal.returns-clause-first
returns-clause-first g c =
    first-start c.args.worker c.self.inside.requests.entries c.self.inside.places c.first_start.result c.self.invariant c.first_start.ensures
    ∙ ap (λ es. first_of (numbers_of (is_start_of c.args.worker) es)) c.self.view_is
