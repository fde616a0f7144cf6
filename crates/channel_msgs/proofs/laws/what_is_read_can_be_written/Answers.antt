use Rattle.channel_msgs.proofs.LawLemmas.{messages_can_be_written, requests_can_be_written}
use Rattle.channel_msgs.proofs.laws.what_is_read_can_be_written.Goals as goal

pub returns-clause-messages : goal.returns-clause-messages
returns-clause-messages c = messages_can_be_written

pub returns-clause-requests : goal.returns-clause-requests
returns-clause-requests c = requests_can_be_written
