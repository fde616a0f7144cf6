use Rattle.host_model.proofs.DrawnLemmas.{asked-for, given-once}
use Rattle.host_model.proofs.RiseLemmas.{serials-rise}
use Rattle.host_model.proofs.drawn.serials_are_drawn_once.Goals as goal

pub returns-clause-rise : goal.returns-clause-rise
returns-clause-rise c = serials-rise c.built_fits.ensures

pub returns-clause-once : goal.returns-clause-once
returns-clause-once c = given-once c.built_fits.ensures c.built_objects_are_new.ensures.calls

pub returns-clause-asked : goal.returns-clause-asked
returns-clause-asked c = asked-for c.built_fits.ensures c.built_objects_are_new.ensures.calls
