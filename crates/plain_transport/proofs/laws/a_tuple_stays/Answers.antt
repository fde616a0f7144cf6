use Rattle.std.proofs.Common.{ap}
use Rattle.plain_transport.specs.Connection.{Connection}
use Rattle.plain_transport.proofs.CallLemmas.{set-behind, takes-alone}
use Rattle.plain_transport.proofs.laws.a_tuple_stays.Goals as goal

pub returns-clause-stays : goal.returns-clause-stays
returns-clause-stays c = λ comedia calls later tuple is. ap (λ (s : Connection). s.remote) (set-behind comedia calls later tuple is)

pub returns-clause-alone : goal.returns-clause-alone
returns-clause-alone c = λ comedia calls later tuple from is.
    takes-alone comedia _ tuple from (set-behind comedia calls later tuple is)
