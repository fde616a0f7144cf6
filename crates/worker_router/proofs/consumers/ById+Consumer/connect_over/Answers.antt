use Rattle.std.proofs.Common.{rules, refl, cond, map, ap, ◌∙◌}
use Rattle.std.proofs.lemmas.Map.Made.{map_same_pairs}
use Rattle.worker_router.specs.State.{Sink, goes_over}
use Rattle.worker_router.specs.Calls.{connect_one}
use Rattle.worker_router.specs.Tables.{outlet_of}
use Rattle.worker_router.proofs.ByIdLemmas.{rewritten}
use Rattle.worker_router.proofs.ListLemmas.{map-change, change-at}
use Rattle.worker_router.proofs.consumers.ById+Consumer.connect_over.Goals as goal

pub invariant_of-self : goal.invariant_of-self
invariant_of-self c =
    let put = map_same_pairs _ (λ s. cond (goes_over c.args.transport s) (connect_one s) s) _ (λ k v b w f t. search rules) c.self.inside.items.entries c.retain.new.self.entries c.retain.ensures.filtered in
    record {
      keys = (rewritten (λ (s : Sink). s.id) (λ s. cond (goes_over c.args.transport s) (connect_one s) s) (λ s. change-at (λ (x : Sink). x.id) (goes_over c.args.transport) connect_one (λ x. refl) s (goes_over c.args.transport s)) c.self.inside.items c.retain.new.self c.args.self.now c.self.invariant.keys c.self.view_is put).0;
      different = c.retain.ensures.unique;
    }

pub returns-clause-state : goal.returns-clause-state
returns-clause-state c =
    let put = map_same_pairs _ (λ s. cond (goes_over c.args.transport s) (connect_one s) s) _ (λ k v b w f t. search rules) c.self.inside.items.entries c.retain.new.self.entries c.retain.ensures.filtered in
    (rewritten (λ (s : Sink). s.id) (λ s. cond (goes_over c.args.transport s) (connect_one s) s) (λ s. change-at (λ (x : Sink). x.id) (goes_over c.args.transport) connect_one (λ x. refl) s (goes_over c.args.transport s)) c.self.inside.items c.retain.new.self c.args.self.now c.self.invariant.keys c.self.view_is put).1

pub returns-clause-outlets : goal.returns-clause-outlets
returns-clause-outlets c =
    let put = map_same_pairs _ (λ s. cond (goes_over c.args.transport s) (connect_one s) s) _ (λ k v b w f t. search rules) c.self.inside.items.entries c.retain.new.self.entries c.retain.ensures.filtered in
    ap (map outlet_of) ((rewritten (λ (s : Sink). s.id) (λ s. cond (goes_over c.args.transport s) (connect_one s) s) (λ s. change-at (λ (x : Sink). x.id) (goes_over c.args.transport) connect_one (λ x. refl) s (goes_over c.args.transport s)) c.self.inside.items c.retain.new.self c.args.self.now c.self.invariant.keys c.self.view_is put).1)
    ∙ map-change outlet_of (goes_over c.args.transport) connect_one (λ x. refl) c.args.self.now
