use Rattle.ortc_map.proofs.OfferLemmas.{each_mapped_is_offered}
use Rattle.ortc_map.proofs.consumer_laws.each_mapped_codec_is_offered.Goals as goal

pub returns : goal.returns
returns c = each_mapped_is_offered
