use Rattle.pending_calls.specs.Pending.{has_id, is_under}
use Rattle.pending_calls.proofs.LawLemmas.{find-filter_not, passes-find}
use Rattle.pending_calls.proofs.laws.requests_settle_once.Goals as goal

pub returns-clause-settled : goal.returns-clause-settled
returns-clause-settled c = λ waiting id. find-filter_not (has_id id) (has_id id) waiting

pub returns-clause-fallen : goal.returns-clause-fallen
returns-clause-fallen c = λ waiting objects id w e. passes-find (is_under objects) (has_id id) waiting w e
