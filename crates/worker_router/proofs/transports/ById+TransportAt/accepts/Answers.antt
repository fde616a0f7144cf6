use Rattle.std.proofs.Common.{Some, refl, sym, ap, option_map, ◌∙◌}
use Rattle.worker_router.specs.State.{TransportAt}
use Rattle.worker_router.specs.Calls.{accept_by, heard_from, is_learnt}
use Rattle.worker_router.proofs.ByIdLemmas.{found, written-if, if-same, written-under}
use Rattle.worker_router.proofs.transports.ById+TransportAt.accepts.Goals as goal

pub returns-in_default-clause-answer : goal.returns-in_default-clause-answer
returns-in_default-clause-answer c =
    ap (option_map (λ (t : TransportAt). accept_by t.transport c.args.from)) (c.in_default.ensures.value ∙ found (λ (t : TransportAt). t.id) c.args.id c.self.inside.items c.args.self.now c.self.invariant.keys c.self.view_is)

pub invariant_of-self-2 : goal.invariant_of-self-2
invariant_of-self-2 c =
    record {
      keys = written-under (λ (t : TransportAt). t.id) (λ t. record t { transport = heard_from c.args.from t.transport }) c.args.id c.self.inside.items (c.get_mut.follows.lender c.accepts.new.self) c.args.self.now c.in-Some.transport.now c.accepts.new.self c.self.invariant.keys c.self.view_is c.get_mut.ensures.unique (sym c.in-Some.ensures.value) (c.get_mut.follows.holds c.accepts.new.self).0 (if-same (λ (t : TransportAt). t.id) (λ t. record t { transport = heard_from c.args.from t.transport }) c.args.id c.self.inside.items (c.get_mut.follows.lender c.accepts.new.self) c.args.self.now c.in-Some.transport.now c.accepts.new.self c.self.invariant.keys c.self.view_is c.get_mut.ensures.unique (sym c.in-Some.ensures.value) (c.get_mut.follows.holds c.accepts.new.self).0 (λ y. refl) (is_learnt (Some c.accepts.result)) c.accepts.ensures.state);
      different = (c.get_mut.follows.holds c.accepts.new.self).4;
    }

pub returns-clause-answer : goal.returns-clause-answer
returns-clause-answer c =
    ap Some c.accepts.ensures.answer
    ∙ ap (option_map (λ (t : TransportAt). accept_by t.transport c.args.from)) (c.in-Some.ensures.value ∙ found (λ (t : TransportAt). t.id) c.args.id c.self.inside.items c.args.self.now c.self.invariant.keys c.self.view_is)

pub returns-clause-state : goal.returns-clause-state
returns-clause-state c = written-if (λ (t : TransportAt). t.id) (λ t. record t { transport = heard_from c.args.from t.transport }) c.args.id c.self.inside.items (c.get_mut.follows.lender c.accepts.new.self) c.args.self.now c.in-Some.transport.now c.accepts.new.self c.self.invariant.keys c.self.view_is c.get_mut.ensures.unique (sym c.in-Some.ensures.value) (c.get_mut.follows.holds c.accepts.new.self).0 (is_learnt (Some c.accepts.result)) c.accepts.ensures.state
