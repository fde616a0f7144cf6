use Rattle.host_model.proofs.NeedLemmas.{calls-find}
use Rattle.host_model.proofs.standing.calls_find_what_they_need.Goals as goal

pub returns : goal.returns
returns c = calls-find c.built_fits.ensures c.objects_close_once.ensures.on_open c.objects_stand_by_kind.ensures c.open_objects_are_kept.ensures
