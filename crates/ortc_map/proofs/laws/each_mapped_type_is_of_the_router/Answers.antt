use Rattle.ortc_map.proofs.MappingLemmas.{mapped_are_taken}
use Rattle.ortc_map.proofs.laws.each_mapped_type_is_of_the_router.Goals as goal

pub returns : goal.returns
returns c params caps first_ssrc mapping e = mapped_are_taken params caps first_ssrc mapping e
