use Rattle.std.proofs.Common.{sym}
use Rattle.worker_calls.specs.Plans.{changed_router}
use Rattle.worker_calls.proofs.EntryLemmas.{lent-ok, lent-err, nobody}
use Rattle.worker_calls.proofs.routers.Routers.change.Goals as goal

pub returns-in_default-clause-ok : goal.returns-in_default-clause-ok
returns-in_default-clause-ok c =
    nobody (changed_router c.args.change) c.args.id c.self.inside.routers c.get_mut.follows.lender-at-none c.args.self.now c.self.view_is c.in_default.ensures.value c.get_mut.follows.holds-at-none

pub returns-clause-ok : goal.returns-clause-ok
returns-clause-ok c =
    lent-ok (changed_router c.args.change) c.args.id c.self.inside.routers (c.get_mut.follows.lender c.change_router.new.router) c.args.self.now c.self.view_is
    c.in-Some.router.now c.change_router.new.router c.get_mut.ensures.unique (sym c.in-Some.ensures.value) (c.get_mut.follows.holds c.change_router.new.router).0
    c.change_router.result c.change_router.ensures.ok

pub returns-clause-err : goal.returns-clause-err
returns-clause-err c =
    lent-err (changed_router c.args.change) c.args.id c.self.inside.routers (c.get_mut.follows.lender c.change_router.new.router) c.args.self.now c.self.view_is
    c.in-Some.router.now c.change_router.new.router c.get_mut.ensures.unique (sym c.in-Some.ensures.value) (c.get_mut.follows.holds c.change_router.new.router).0
    c.change_router.result c.change_router.ensures.err
