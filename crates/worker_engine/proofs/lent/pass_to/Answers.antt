use Rattle.std.proofs.Common.{◌≡◌, subst}
use Rattle.std.specs.Prelude.{IfSome}
use Rattle.worker_calls.specs.State.{Worker, change_router}
use Rattle.worker_engine.specs.Forwarding.{Incoming, behind_one}
use Rattle.worker_engine.proofs.Lending.{passed-state, none-passed, on-some}
use Rattle.worker_engine.proofs.lent.pass_to.Goals as goal

pub returns-clause-state : goal.returns-clause-state
returns-clause-state c =
    let i : Incoming = record { router = c.incoming.inside.router; producer = c.incoming.inside.producer; mapped = c.incoming.inside.mapped; packet = c.incoming.inside.packet.now } in
    let v : Worker = c.router_mut.follows.lender c.pass_to.new.self in
    subst (λ (j : Incoming). IfSome c.pass_to.result (λ p. v ≡ behind_one j p.consumer c.args.worker.now)) c.incoming.view_is
    (passed-state i c.args.worker.now v c.in_ok-router.router.now c.pass_to.new.self c.routers_differ.ensures c.in_ok-router.ensures.value
    (on-some c.router_mut.result c.in_ok-router.router (v ≡ change_router c.incoming.inside.router (λ _. c.pass_to.new.self) c.args.worker.now) c.in_ok-router.was (c.router_mut.follows.holds c.pass_to.new.self))
    c.pass_to.result c.pass_to.ensures.state)

pub returns-clause-none : goal.returns-clause-none
returns-clause-none c =
    let i : Incoming = record { router = c.incoming.inside.router; producer = c.incoming.inside.producer; mapped = c.incoming.inside.mapped; packet = c.incoming.inside.packet.now } in
    let v : Worker = c.router_mut.follows.lender c.pass_to.new.self in
    none-passed i c.args.worker.now v c.in_ok-router.router.now c.pass_to.new.self c.routers_differ.ensures c.in_ok-router.ensures.value
    (on-some c.router_mut.result c.in_ok-router.router (v ≡ change_router c.incoming.inside.router (λ _. c.pass_to.new.self) c.args.worker.now) c.in_ok-router.was (c.router_mut.follows.holds c.pass_to.new.self))
    c.pass_to.result c.pass_to.ensures.none
