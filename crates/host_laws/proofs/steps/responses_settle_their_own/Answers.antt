use Rattle.host_laws.proofs.ReplyLemmas.{replied-requests, replied-waiting}
use Rattle.host_laws.proofs.steps.responses_settle_their_own.Goals as goal

pub returns-clause-requests : goal.returns-clause-requests
returns-clause-requests c = replied-requests

pub returns-clause-waiting : goal.returns-clause-waiting
returns-clause-waiting c = replied-waiting
