use Rattle.channel_msgs.proofs.PacketLemmas.{packet_reads_back}
use Rattle.channel_msgs.proofs.packet.write_packet_head.Goals as goal

pub returns-clause-reads_back : goal.returns-clause-reads_back
returns-clause-reads_back c packet = packet_reads_back c.args.id packet c.text.result c.text.ensures.value c.text.ensures.reads_back
