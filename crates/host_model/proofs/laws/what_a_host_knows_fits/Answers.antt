use Rattle.host_model.proofs.FitLemmas.{drawn-step, fit-step, well}
use Rattle.host_model.proofs.laws.what_a_host_knows_fits.Goals as goal

pub returns-clause-fits : goal.returns-clause-fits
returns-clause-fits c = λ j h. (well c.built_fits.ensures j h).0

pub returns-clause-drawn : goal.returns-clause-drawn
returns-clause-drawn c = λ j h. (well c.built_fits.ensures j h).1

pub returns-clause-fits_on : goal.returns-clause-fits_on
returns-clause-fits_on c = fit-step c.built_fits.ensures

pub returns-clause-drawn_on : goal.returns-clause-drawn_on
returns-clause-drawn_on c = drawn-step c.built_fits.ensures
