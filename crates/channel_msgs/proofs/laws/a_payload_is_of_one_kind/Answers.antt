use Rattle.channel_msgs.proofs.KindLemmas.{no_object_of_packet, no_object_of_log}
use Rattle.channel_msgs.proofs.laws.a_payload_is_of_one_kind.Goals as goal

pub returns-clause-packet : goal.returns-clause-packet
returns-clause-packet c = no_object_of_packet

pub returns-clause-log : goal.returns-clause-log
returns-clause-log c = no_object_of_log
