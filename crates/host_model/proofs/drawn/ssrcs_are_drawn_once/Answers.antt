use Rattle.host_model.proofs.RiseLemmas.{ssrcs-few, ssrcs-once, ssrcs-rise}
use Rattle.host_model.proofs.drawn.ssrcs_are_drawn_once.Goals as goal

pub returns-clause-rise : goal.returns-clause-rise
returns-clause-rise c = ssrcs-rise c.built_fits.ensures

pub returns-clause-once : goal.returns-clause-once
returns-clause-once c = ssrcs-once c.built_fits.ensures

pub returns-clause-few : goal.returns-clause-few
returns-clause-few c = ssrcs-few c.built_fits.ensures
