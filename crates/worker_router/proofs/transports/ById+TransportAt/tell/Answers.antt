use Rattle.std.proofs.Common.{refl, sym, ap, ◌∙◌}
use Rattle.worker_router.specs.State.{TransportAt}
use Rattle.worker_router.specs.Calls.{connect_fault_at, told}
use Rattle.worker_router.specs.Tables.{checked}
use Rattle.worker_router.proofs.ByIdLemmas.{found, lent-under, lent-ok, lent-err}
use Rattle.worker_router.proofs.transports.ById+TransportAt.tell.Goals as goal

pub returns-in_default-clause-fault : goal.returns-in_default-clause-fault
returns-in_default-clause-fault c =
    ap (λ o. checked (connect_fault_at o)) (c.in_default.ensures.value ∙ found (λ (t : TransportAt). t.id) c.args.id c.self.inside.items c.args.self.now c.self.invariant.keys c.self.view_is)

pub invariant_of-self-2 : goal.invariant_of-self-2
invariant_of-self-2 c =
    record {
      keys = lent-under (λ (t : TransportAt). t.id) (λ t. record t { transport = told c.args.to t.transport }) c.args.id c.self.inside.items (c.get_mut.follows.lender c.tell.new.self) c.args.self.now c.in-Some.transport.now c.tell.new.self c.self.invariant.keys c.self.view_is c.get_mut.ensures.unique (sym c.in-Some.ensures.value) (c.get_mut.follows.holds c.tell.new.self).0 c.tell.result (λ y. refl) c.tell.ensures.ok c.tell.ensures.err;
      different = (c.get_mut.follows.holds c.tell.new.self).4;
    }

pub returns-clause-fault : goal.returns-clause-fault
returns-clause-fault c =
    c.tell.ensures.fault
    ∙ ap (λ o. checked (connect_fault_at o)) (c.in-Some.ensures.value ∙ found (λ (t : TransportAt). t.id) c.args.id c.self.inside.items c.args.self.now c.self.invariant.keys c.self.view_is)

pub returns-clause-ok : goal.returns-clause-ok
returns-clause-ok c = lent-ok (λ (t : TransportAt). t.id) (λ t. record t { transport = told c.args.to t.transport }) c.args.id c.self.inside.items (c.get_mut.follows.lender c.tell.new.self) c.args.self.now c.in-Some.transport.now c.tell.new.self c.self.invariant.keys c.self.view_is c.get_mut.ensures.unique (sym c.in-Some.ensures.value) (c.get_mut.follows.holds c.tell.new.self).0 c.tell.result (λ y. refl) c.tell.ensures.ok c.tell.ensures.err

pub returns-clause-err : goal.returns-clause-err
returns-clause-err c = lent-err (λ (t : TransportAt). t.id) (λ t. record t { transport = told c.args.to t.transport }) c.args.id c.self.inside.items (c.get_mut.follows.lender c.tell.new.self) c.args.self.now c.in-Some.transport.now c.tell.new.self c.self.invariant.keys c.self.view_is c.get_mut.ensures.unique (sym c.in-Some.ensures.value) (c.get_mut.follows.holds c.tell.new.self).0 c.tell.result (λ y. refl) c.tell.ensures.ok c.tell.ensures.err
