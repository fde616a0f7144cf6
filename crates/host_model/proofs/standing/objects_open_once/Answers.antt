use Rattle.host_model.proofs.OpenLemmas.{opened-once, opened-times}
use Rattle.host_model.proofs.standing.objects_open_once.Goals as goal

pub returns-clause-notes : goal.returns-clause-notes
returns-clause-notes c = opened-once c.built_fits.ensures

pub returns-clause-once : goal.returns-clause-once
returns-clause-once c = opened-times c.built_fits.ensures
