use Rattle.ortc_map.specs.Matching.{matches, strictly_matches}
use Rattle.ortc_map.specs.Supported.{supported_codecs}
use Rattle.ortc_map.proofs.RouterLemmas.{first_found, found_first}
use Rattle.ortc_map.proofs.laws.the_first_match_is_taken.Goals as goal

pub returns-clause-supported : goal.returns-clause-supported
returns-clause-supported c given taken =
    (first_found (matches given) supported_codecs taken, found_first (matches given) supported_codecs taken)

pub returns-clause-router : goal.returns-clause-router
returns-clause-router c router codec taken =
    (first_found (strictly_matches codec) router taken, found_first (strictly_matches codec) router taken)
