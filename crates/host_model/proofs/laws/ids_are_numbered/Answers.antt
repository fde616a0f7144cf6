use Rattle.host_model.proofs.NumberLemmas.{numbered}
use Rattle.host_model.proofs.SentLemmas.{each-sent, texts-sent}
use Rattle.host_model.proofs.laws.ids_are_numbered.Goals as goal

pub returns-clause-requests : goal.returns-clause-requests
returns-clause-requests c = numbered

pub returns-clause-sent : goal.returns-clause-sent
returns-clause-sent c = texts-sent

pub returns-clause-each : goal.returns-clause-each
returns-clause-each c = each-sent
