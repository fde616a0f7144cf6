use Rattle.std.proofs.Common.{◌≡◌, ℕ, List, [], ◌∷◌, map, bytes_eq, refl, subst, sym}
use Rattle.std.specs.List.{IsDistinct}
use Rattle.std.specs.Map.{keys_of}
use Rattle.worker_router.specs.State.{RouterState}
use Rattle.worker_router.specs.Tables.{AreDifferent}
use Rattle.worker_calls.specs.State.{RouterAt}
use Rattle.worker_calls.specs.Tables.{routers_at}
use Rattle.worker_calls.proofs.routers.Routers.differ.Goals as goal

ids-of : (es : List (List ℕ × RouterState)) → keys_of es ≡ map (λ r. r.id.0) (routers_at es)
ids-of [] = refl
ids-of (e ∷ es) = let left = ids-of es in (λ j. e.0 ∷ left j)

pub returns : goal.returns
returns c =
    subst (λ (rs : List RouterAt). AreDifferent (λ r. r.id) rs) c.self.view_is
    (subst (IsDistinct bytes_eq) (ids-of c.self.inside.routers.entries) c.len-count.ensures.unique)
