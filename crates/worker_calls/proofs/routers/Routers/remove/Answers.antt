use Rattle.std.proofs.Common.{ℕ, List, bytes_eq, not, filter, sym, ap, ◌∙◌}
use Rattle.std.specs.Map.{lookup}
use Rattle.worker_router.specs.State.{RouterState, same_id}
use Rattle.worker_calls.specs.State.{RouterAt}
use Rattle.worker_calls.specs.Tables.{routers_at}
use Rattle.worker_calls.proofs.EntryLemmas.{removed}
use Rattle.worker_calls.proofs.routers.Routers.remove.Goals as goal

pub returns : goal.returns
returns c =
    ap routers_at c.shift_remove-removed.ensures.entries
    ∙ (sym
    (removed c.args.id c.self.inside.routers.entries
    (sym (ap (λ (es : List (List ℕ × RouterState)). lookup (bytes_eq c.args.id.0) es) c.shift_remove-removed.ensures.entries) ∙ c.shift_remove-removed.ensures.updates.1))
    ∙ ap (λ (rs : List RouterAt). filter (λ r. not (same_id r.id c.args.id)) rs) c.self.view_is)
