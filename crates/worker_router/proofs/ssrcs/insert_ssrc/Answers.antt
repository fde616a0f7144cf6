use Rattle.std.proofs.Common.{ℕ, List, Some, cond, ap, ◌∙◌}
use Rattle.worker_router.specs.Tables.{owner_in, same_place}
use Rattle.worker_router.proofs.ssrcs.insert_ssrc.Goals as goal

pub returns-clause-table : goal.returns-clause-table
returns-clause-table c = λ t s.
    c.in-Ok.ensures.updates.0 (t.0, s)
    ∙ ap (λ (k : List ℕ × ℕ). cond (same_place k (t.0, s)) (Some c.args.id.0) (owner_in c.args.ssrcs.now.entries t s)) c.place_of.ensures
