use Rattle.ortc_map.proofs.MappingReads.{mapped_fit, own_fit, ssrcs_fit}
use Rattle.ortc_map.proofs.laws.what_is_mapped_fits.Goals as goal

pub returns-clause-own : goal.returns-clause-own
returns-clause-own c params caps first_ssrc mapping reads e = own_fit params caps first_ssrc mapping reads e

pub returns-clause-mapped : goal.returns-clause-mapped
returns-clause-mapped c params caps first_ssrc mapping reads e = mapped_fit params caps first_ssrc mapping reads e

pub returns-clause-ssrcs : goal.returns-clause-ssrcs
returns-clause-ssrcs c params caps first_ssrc mapping reads room e = ssrcs_fit params caps first_ssrc mapping reads room e
