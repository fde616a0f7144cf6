use Rattle.host_model.proofs.CloseLemmas.{closed-once, on-open}
use Rattle.host_model.proofs.laws.objects_close_once.Goals as goal

pub returns-clause-once : goal.returns-clause-once
returns-clause-once c =
    λ j.
    closed-once c.built_fits.ensures
    (record { opened = c.falls_are_whole.ensures.opened; children = c.falls_are_whole.ensures.children; exactly = c.falls_close_once.ensures.exactly }) j

pub returns-clause-on_open : goal.returns-clause-on_open
returns-clause-on_open c =
    λ j.
    on-open c.built_fits.ensures
    (record { opened = c.falls_are_whole.ensures.opened; children = c.falls_are_whole.ensures.children; exactly = c.falls_close_once.ensures.exactly }) j
