use Rattle.host_model.proofs.UnderLemmas.{under-after}
use Rattle.host_model.proofs.standing.requests_wait_under_open_objects.Goals as goal

pub returns : goal.returns
returns c =
    λ j.
    under-after c.built_fits.ensures
    (record { opened = c.falls_are_whole.ensures.opened; children = c.falls_are_whole.ensures.children; exactly = c.falls_close_once.ensures.exactly }) j
