use Rattle.std.proofs.Common.{◌≡◌, ◌∙◌}
use Rattle.worker_router.specs.State.{RouterState}
use Rattle.worker_router.specs.Calls.{behind_accept}
use Rattle.worker_calls.specs.State.{change_router}
use Rattle.worker_engine.proofs.Lending.{none-changed, lent-changed, on-some}
use Rattle.worker_engine.proofs.lent.accept.Goals as goal

pub returns-in_err-router-clause-state : goal.returns-in_err-router-clause-state
returns-in_err-router-clause-state c =
    c.router_mut.follows.holds-at-none
    ∙ none-changed c.args.at.router (λ (r : RouterState). behind_accept r c.args.at.transport c.args.from) c.args.worker.now c.in_err-router.ensures.value

pub returns-clause-state : goal.returns-clause-state
returns-clause-state c =
    on-some c.router_mut.result c.in_ok-router.router
    (c.router_mut.follows.lender c.accepts.new.self ≡ change_router c.args.at.router (λ _. c.accepts.new.self) c.args.worker.now)
    c.in_ok-router.was (c.router_mut.follows.holds c.accepts.new.self)
    ∙ lent-changed c.args.at.router (λ (r : RouterState). behind_accept r c.args.at.transport c.args.from) c.args.worker.now c.in_ok-router.router.now c.accepts.new.self
    c.routers_differ.ensures c.in_ok-router.ensures.value c.accepts.ensures.state
