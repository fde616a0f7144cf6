use Rattle.ortc_map.proofs.OfferReads.{offer_reads}
use Rattle.ortc_map.proofs.consumer_laws.what_is_offered_can_be_read.Goals as goal

pub returns : goal.returns
returns c = offer_reads
