use Rattle.rtp_params.proofs.HoldsWhole.{encodings_hold, streams_hold}
use Rattle.rtp_params.proofs.MappingHolds.{mapping_types}
use Rattle.rtp_params.proofs.laws.what_is_read_fits.Goals as goal

pub returns-clause-encodings : goal.returns-clause-encodings
returns-clause-encodings c = encodings_hold

pub returns-clause-streams : goal.returns-clause-streams
returns-clause-streams c = streams_hold

pub returns-clause-types : goal.returns-clause-types
returns-clause-types c = mapping_types
