use Rattle.std.proofs.Common.{refl, sym, ap, map, ◌∙◌}
use Rattle.worker_router.specs.State.{Sink, same_id}
use Rattle.worker_router.specs.Calls.{pause_source_of}
use Rattle.worker_router.specs.Tables.{outlet_of}
use Rattle.worker_router.proofs.ByIdLemmas.{nobody, written, written-under}
use Rattle.worker_router.proofs.ListLemmas.{map-change}
use Rattle.worker_router.proofs.consumers.ById+Consumer.pause_source.Goals as goal

pub returns-in_default-clause-state : goal.returns-in_default-clause-state
returns-in_default-clause-state c =
    nobody (λ (s : Sink). s.id) (pause_source_of c.args.paused) c.args.id c.self.inside.items c.get_mut.follows.lender-at-none c.args.self.now c.self.invariant.keys c.self.view_is c.in_default.ensures.value c.get_mut.follows.holds-at-none

pub invariant_of-self-2 : goal.invariant_of-self-2
invariant_of-self-2 c =
    record {
      keys = written-under (λ (s : Sink). s.id) (pause_source_of c.args.paused) c.args.id c.self.inside.items (c.get_mut.follows.lender c.pause_source.new.self) c.args.self.now c.in-Some.consumer.now c.pause_source.new.self c.self.invariant.keys c.self.view_is c.get_mut.ensures.unique (sym c.in-Some.ensures.value) (c.get_mut.follows.holds c.pause_source.new.self).0 (ap (λ (s : Sink). s.id.0) c.pause_source.ensures.state);
      different = (c.get_mut.follows.holds c.pause_source.new.self).4;
    }

pub returns-clause-state : goal.returns-clause-state
returns-clause-state c = written (λ (s : Sink). s.id) (pause_source_of c.args.paused) c.args.id c.self.inside.items (c.get_mut.follows.lender c.pause_source.new.self) c.args.self.now c.in-Some.consumer.now c.pause_source.new.self c.self.invariant.keys c.self.view_is c.get_mut.ensures.unique (sym c.in-Some.ensures.value) (c.get_mut.follows.holds c.pause_source.new.self).0 c.pause_source.ensures.state

pub returns-clause-outlets : goal.returns-clause-outlets
returns-clause-outlets c =
    ap (map outlet_of) (written (λ (s : Sink). s.id) (pause_source_of c.args.paused) c.args.id c.self.inside.items (c.get_mut.follows.lender c.pause_source.new.self) c.args.self.now c.in-Some.consumer.now c.pause_source.new.self c.self.invariant.keys c.self.view_is c.get_mut.ensures.unique (sym c.in-Some.ensures.value) (c.get_mut.follows.holds c.pause_source.new.self).0 c.pause_source.ensures.state)
    ∙ map-change outlet_of (λ s. same_id s.id c.args.id) (pause_source_of c.args.paused) (λ x. refl) c.args.self.now
