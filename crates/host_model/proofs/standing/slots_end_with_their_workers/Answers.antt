use Rattle.host_model.proofs.EndLemmas.{slots-end}
use Rattle.host_model.proofs.HeldLemmas.{BuildsKept}
use Rattle.host_model.proofs.standing.slots_end_with_their_workers.Goals as goal

pub returns : goal.returns
returns c =
    let built : BuildsKept = record { ssrcs = c.built_requests_keep_what_they_draw.ensures.calls; kinds = c.built_requests_keep_by_kind.ensures.calls } in
    slots-end c.built_fits.ensures c.built_objects_are_new.ensures.calls built
