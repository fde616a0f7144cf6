use Rattle.std.proofs.Common.{◌≡◌, ◌∙◌}
use Rattle.worker_calls.specs.State.{change_router}
use Rattle.worker_engine.proofs.Lending.{lent-same, on-some}
use Rattle.worker_engine.proofs.lent.note.Goals as goal

pub returns : goal.returns
returns c =
    on-some c.router_mut.result c.in-Some.router
    (c.router_mut.follows.lender c.note.new.self ≡ change_router c.incoming.inside.router (λ _. c.note.new.self) c.args.worker.now)
    c.in-Some.is (c.router_mut.follows.holds c.note.new.self)
    ∙ lent-same c.incoming.inside.router c.args.worker.now c.in-Some.router.now c.note.new.self
    c.routers_differ.ensures c.in-Some.ensures.value c.note.ensures
