use Rattle.ortc_map.proofs.ConsumerLaws.{within_codecs, within_exts, within_ssrcs}
use Rattle.ortc_map.proofs.consumer_laws.what_is_received_is_within_the_capabilities.Goals as goal

pub returns-clause-codecs : goal.returns-clause-codecs
returns-clause-codecs c = within_codecs

pub returns-clause-exts : goal.returns-clause-exts
returns-clause-exts c = within_exts

pub returns-clause-ssrcs : goal.returns-clause-ssrcs
returns-clause-ssrcs c = within_ssrcs
