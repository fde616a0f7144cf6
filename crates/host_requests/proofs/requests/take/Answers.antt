use Rattle.std.proofs.Common.{refl, sym, ◌∙◌}
use Rattle.host_requests.proofs.NumberLemmas.{is_number, removed-none}
use Rattle.host_requests.proofs.TieLemmas.{tied-same, tied-taken}
use Rattle.host_requests.proofs.requests.take.Goals as goal

pub returns-clause-tied : goal.returns-clause-tied
returns-clause-tied g c =
    tied-taken c.args.number c.in_ok-request.request c.args.filed.now c.take.new.self c.args.channels.now c.settle_via.new.self (sym c.in_ok-request.ensures.found) c.take.ensures.rest
    c.in_ok-request.ensures.alone c.take.ensures.in_order c.settle_via.ensures.pending

pub returns-in_err-request-clause-tied : goal.returns-in_err-request-clause-tied
returns-in_err-request-clause-tied g c = λ h.
    tied-same c.args.filed.now c.take.new.self c.args.channels.now c.args.channels.now
    (c.take.ensures.rest ∙ removed-none (is_number c.args.number) c.args.filed.now (sym c.in_err-request.ensures.found)) (λ w. refl) h
