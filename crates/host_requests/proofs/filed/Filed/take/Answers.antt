use Rattle.std.proofs.Common.{Some, ap, sym, ◌∙◌}
use Rattle.host_requests.specs.Places.{numbers_of}
use Rattle.host_requests.specs.Requests.{is_on}
use Rattle.host_requests.proofs.FiledLemmas.{alone-on, filed-removed}
use Rattle.host_requests.proofs.filed.Filed.take.Goals as goal

pub invariant_of-self-2 : goal.invariant_of-self-2
invariant_of-self-2 g c =
    filed-removed c.args.number c.into_inner-request.result c.self.inside.requests.entries c.remove.new.self.entries c.self.inside.places c.remove-2.new.self (sym c.in_ok-request.ensures.value ∙ ap Some (sym c.into_inner-request.ensures))
    c.remove.ensures.entries c.remove.ensures.ordered c.remove-2.ensures c.self.invariant

pub returns-clause-alone : goal.returns-clause-alone
returns-clause-alone g c = λ worker id own.
    ap (λ es. numbers_of (is_on worker id) es) (sym c.self.view_is)
    ∙ alone-on worker id c.args.number c.into_inner-request.result c.self.inside.requests.entries c.self.inside.places c.self.invariant (sym c.in_ok-request.ensures.value ∙ ap Some (sym c.into_inner-request.ensures)) own
