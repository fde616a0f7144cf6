use Rattle.std.proofs.Common.{Some, sym, ap, map, ◌∙◌}
use Rattle.simple_consumer.specs.Sending.{offer}
use Rattle.worker_router.specs.State.{Sink, same_id}
use Rattle.worker_router.specs.Calls.{after_offer}
use Rattle.worker_router.specs.Tables.{outlet_of}
use Rattle.worker_router.proofs.ListLemmas.{map-change}
use Rattle.worker_router.proofs.PassLemmas.{after-keeps}
use Rattle.worker_router.proofs.PlaceLemmas.{changed-at, kept-at, none-there, nothing-at}
use Rattle.worker_router.proofs.consumers.ById+Consumer.pass.Goals as goal

pub returns-in_default-clause-state : goal.returns-in_default-clause-state
returns-in_default-clause-state c =
    sym c.self.view_is ∙ none-there (λ (s : Sink). s.id) c.args.id c.self.inside.items c.args.self.now c.self.invariant.keys c.self.view_is c.in_default.ensures (after_offer (Some (offer c.args.mapped c.args.ids.now c.args.packet.now)))

pub returns-in_default-get_index_mut-clause-state : goal.returns-in_default-get_index_mut-clause-state
returns-in_default-get_index_mut-clause-state c =
    nothing-at (λ (s : Sink). s.id) c.args.id c.self.inside.items c.args.self.now c.self.invariant.keys c.self.view_is c.in-Some.index c.in-Some.ensures c.in_default-get_index_mut.ensures.value (after_offer (Some (offer c.args.mapped c.args.ids.now c.args.packet.now)))

pub invariant_of-self-2 : goal.invariant_of-self-2
invariant_of-self-2 c =
    kept-at (λ (s : Sink). s.id) c.args.id c.self.inside.items c.args.self.now c.self.invariant.keys c.self.view_is c.in-Some.index c.in-Some.ensures c.get_index_mut.ensures.unique c.in-Some-get_index_mut.consumer.now c.pass.new.self
    c.in-Some-get_index_mut.ensures.value (ap (λ o. o.id.0) c.pass.ensures.outlet)

pub returns-clause-state : goal.returns-clause-state
returns-clause-state c =
    changed-at (λ (s : Sink). s.id) c.args.id c.self.inside.items c.args.self.now c.self.invariant.keys c.self.view_is c.in-Some.index c.in-Some.ensures c.get_index_mut.ensures.unique c.in-Some-get_index_mut.consumer.now c.pass.new.self
    c.in-Some-get_index_mut.ensures.value (after_offer (Some (offer c.args.mapped c.args.ids.now c.args.packet.now))) c.pass.ensures.state

pub returns-clause-outlets : goal.returns-clause-outlets
returns-clause-outlets c =
    ap (map outlet_of) (changed-at (λ (s : Sink). s.id) c.args.id c.self.inside.items c.args.self.now c.self.invariant.keys c.self.view_is c.in-Some.index c.in-Some.ensures c.get_index_mut.ensures.unique c.in-Some-get_index_mut.consumer.now c.pass.new.self
    c.in-Some-get_index_mut.ensures.value (after_offer (Some (offer c.args.mapped c.args.ids.now c.args.packet.now))) c.pass.ensures.state)
    ∙ map-change outlet_of (λ s. same_id s.id c.args.id) (after_offer (Some (offer c.args.mapped c.args.ids.now c.args.packet.now))) (after-keeps (Some (offer c.args.mapped c.args.ids.now c.args.packet.now))) c.args.self.now
