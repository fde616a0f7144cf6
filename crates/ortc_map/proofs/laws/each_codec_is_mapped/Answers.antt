use Rattle.ortc_map.proofs.MappingLemmas.{encodings_mapped, mapped_are_named, mapped_once}
use Rattle.ortc_map.proofs.laws.each_codec_is_mapped.Goals as goal

pub returns-clause-count : goal.returns-clause-count
returns-clause-count c params caps first_ssrc mapping e = mapped_once params caps first_ssrc mapping e

pub returns-clause-types : goal.returns-clause-types
returns-clause-types c params caps first_ssrc mapping e = mapped_are_named params caps first_ssrc mapping e

pub returns-clause-ssrcs : goal.returns-clause-ssrcs
returns-clause-ssrcs c params caps first_ssrc mapping e = encodings_mapped params caps first_ssrc mapping e
