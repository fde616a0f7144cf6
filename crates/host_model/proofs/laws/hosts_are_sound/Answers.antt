use Rattle.host_model.proofs.SoundLemmas.{one-on, one-start, sound-after, sound-start, sound-step}
use Rattle.host_model.proofs.laws.hosts_are_sound.Goals as goal

pub returns-clause-start : goal.returns-clause-start
returns-clause-start c = sound-start

pub returns-clause-after : goal.returns-clause-after
returns-clause-after c = sound-after c.built_fits.ensures

pub returns-clause-step : goal.returns-clause-step
returns-clause-step c = sound-step c.built_fits.ensures

pub returns-clause-alone : goal.returns-clause-alone
returns-clause-alone c = one-on

pub returns-clause-one_start : goal.returns-clause-one_start
returns-clause-one_start c = one-start
