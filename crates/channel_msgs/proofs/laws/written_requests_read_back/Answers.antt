use Rattle.channel_msgs.proofs.TextLemmas.{written-id, written-request}
use Rattle.channel_msgs.proofs.laws.written_requests_read_back.Goals as goal

pub returns-clause-id : goal.returns-clause-id
returns-clause-id c = written-id

pub returns-clause-request : goal.returns-clause-request
returns-clause-request c = written-request
