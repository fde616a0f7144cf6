use Rattle.std.proofs.Common.{◌≡◌, ◌∷◌, ◌+◌, ℕ, List, [], bytes_eq, drop, refl, sym, ap, subst, ◌∙◌}
use Rattle.std.specs.List.{IsDistinct}
use Rattle.std.proofs.lemmas.List.{drop_all, drop_more}
use Rattle.ms_base.specs.declared.id.Id.{Id}
use Rattle.worker_router.specs.State.{Sink, same_id}
use Rattle.worker_router.specs.Calls.{change, pause_source_of}
use Rattle.worker_router.specs.Tables.{ids_in, is_listed}
use Rattle.worker_router.proofs.ListLemmas.{change-none, distinct-rest, named-next}
use Rattle.worker_router.proofs.consumers.ById+Consumer.pause_sources.Goals as goal

pub loop-listed-preserved : goal.loop-listed-preserved
loop-listed-preserved c =
    let i : ℕ = c.loop-listed.listed-index in
    let own = c.args.own.now in
    let at : Id × Id = c.listed-item.result in
    let rest : List (Id × Id) = drop (i + 1) own in
    let whole : drop i own ≡ at ∷ rest = drop_more own i at c.loop-listed-test.true ∙ ap (λ (a : Id × Id). a ∷ rest) (sym c.listed-item.is) in
    let apart : IsDistinct bytes_eq (ids_in (at ∷ rest)) = subst (λ (l : List (Id × Id)). IsDistinct bytes_eq (ids_in l)) whole c.loop-listed.invariant.different in
    record {
      different = distinct-rest (λ (a : Id × Id). a.0) (λ (s : Sink). s.id) (pause_source_of c.args.paused) (λ s. refl) at rest apart;
      state =
          ap (change (is_listed rest) (pause_source_of c.args.paused)) (c.pause_source.ensures.state ∙ ap (λ (n : Id). change (λ (s : Sink). same_id s.id n) (pause_source_of c.args.paused) c.loop-listed.self) c.consumer.ensures)
          ∙ (named-next (λ (a : Id × Id). a.0) (λ (s : Sink). s.id) (pause_source_of c.args.paused) (λ s. refl) at rest apart c.loop-listed.self
          ∙ (sym (ap (λ l. change (is_listed l) (pause_source_of c.args.paused) c.loop-listed.self) whole) ∙ c.loop-listed.invariant.state));
      outlets = c.pause_source.ensures.outlets ∙ c.loop-listed.invariant.outlets;
    }

pub returns-clause-state : goal.returns-clause-state
returns-clause-state c =
    let end : drop c.loop-listed.listed-index c.args.own.now ≡ [] = drop_all c.loop-listed.listed-index c.args.own.now c.loop-listed-test.false in
    sym (change-none (pause_source_of c.args.paused) c.loop-listed.self) ∙ (sym (ap (λ l. change (is_listed l) (pause_source_of c.args.paused) c.loop-listed.self) end) ∙ c.loop-listed.invariant.state)
