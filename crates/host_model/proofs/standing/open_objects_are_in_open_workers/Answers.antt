use Rattle.host_model.proofs.RootLemmas.{open-workers}
use Rattle.host_model.proofs.standing.open_objects_are_in_open_workers.Goals as goal

pub returns : goal.returns
returns c = λ j. open-workers c.built_fits.ensures c.built_objects_are_new.ensures.calls j (c.objects_close_once.ensures.on_open j)
