use Rattle.std.proofs.Common.{◌≡◌, List, [], ◌∷◌, map, bytes_eq, refl, subst}
use Rattle.std.specs.List.{IsDistinct}
use Rattle.worker_router.specs.State.{RouterState, Sink}
use Rattle.worker_router.specs.Tables.{AreDifferent, FeedView, outline_of, outlet_of}
use Rattle.worker_router.proofs.router.WorkerRouter.ids_differ.Goals as goal

sources : (fs : List FeedView) → map (λ x. x.id.0) (map outline_of fs) ≡ map (λ p. p.id.0) (map (λ f. f.source) fs)
sources [] = refl
sources (f ∷ fs) = let left = sources fs in (λ j. f.source.id.0 ∷ left j)

sinks : (cs : List Sink) → map (λ x. x.id.0) (map outlet_of cs) ≡ map (λ c. c.id.0) cs
sinks [] = refl
sinks (c ∷ cs) = let left = sinks cs in (λ j. c.id.0 ∷ left j)

pub returns-clause-producers : goal.returns-clause-producers
returns-clause-producers c =
    subst (λ (r : RouterState). AreDifferent (λ p. p.id) r.producers) c.self.view_is
    (subst (IsDistinct bytes_eq) (sources c.self.inside.producers) c.self.invariant.producers_differ)

pub returns-clause-consumers : goal.returns-clause-consumers
returns-clause-consumers c =
    subst (λ (r : RouterState). AreDifferent (λ x. x.id) r.consumers) c.self.view_is
    (subst (IsDistinct bytes_eq) (sinks c.self.inside.consumers) c.self.invariant.consumers_differ)
