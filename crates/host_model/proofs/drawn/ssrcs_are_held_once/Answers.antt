use Rattle.host_model.proofs.HeldLemmas.{BuildsKept, asked-in_row, held-once}
use Rattle.host_model.proofs.drawn.ssrcs_are_held_once.Goals as goal

pub returns-clause-held : goal.returns-clause-held
returns-clause-held c =
    let built : BuildsKept = record { ssrcs = c.built_requests_keep_what_they_draw.ensures.calls; kinds = c.built_requests_keep_by_kind.ensures.calls } in
    held-once built

pub returns-clause-asked : goal.returns-clause-asked
returns-clause-asked c =
    let built : BuildsKept = record { ssrcs = c.built_requests_keep_what_they_draw.ensures.calls; kinds = c.built_requests_keep_by_kind.ensures.calls } in
    asked-in_row built
