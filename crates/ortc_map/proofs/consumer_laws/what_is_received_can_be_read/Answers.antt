use Rattle.ortc_map.proofs.ReadableLemmas.{received_reads}
use Rattle.ortc_map.proofs.consumer_laws.what_is_received_can_be_read.Goals as goal

pub returns : goal.returns
returns c = received_reads
