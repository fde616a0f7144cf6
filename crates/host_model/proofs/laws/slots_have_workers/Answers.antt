use Rattle.host_model.proofs.WorkerLemmas.{workers-start, workers-step}
use Rattle.host_model.proofs.laws.slots_have_workers.Goals as goal

pub returns-clause-start : goal.returns-clause-start
returns-clause-start c = workers-start

pub returns-clause-step : goal.returns-clause-step
returns-clause-step c = workers-step c.built_fits.ensures c.built_objects_are_new.ensures.calls
