use Rattle.host_model.proofs.EnterLemmas.{calls-entered}
use Rattle.host_model.proofs.SettleLemmas.{entered-once, settled-once, waits-or-settled}
use Rattle.host_model.proofs.laws.calls_settle_once.Goals as goal

pub returns-clause-entered : goal.returns-clause-entered
returns-clause-entered c = calls-entered

pub returns-clause-once : goal.returns-clause-once
returns-clause-once c = entered-once

pub returns-clause-waits : goal.returns-clause-waits
returns-clause-waits c = waits-or-settled c.built_fits.ensures

pub returns-clause-settled : goal.returns-clause-settled
returns-clause-settled c = settled-once c.built_fits.ensures
