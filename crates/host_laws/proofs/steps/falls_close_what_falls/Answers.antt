use Rattle.host_laws.proofs.FallLemmas.{fall-closes, fall-ends, fall-settles}
use Rattle.host_laws.proofs.steps.falls_close_what_falls.Goals as goal

pub returns-clause-closed : goal.returns-clause-closed
returns-clause-closed c = fall-closes

pub returns-clause-requests : goal.returns-clause-requests
returns-clause-requests c = fall-settles

pub returns-clause-slots : goal.returns-clause-slots
returns-clause-slots c = fall-ends
