use Rattle.worker_requests.proofs.ContentLemmas.{produced_is, consumed_is}
use Rattle.worker_requests.proofs.read.what_is_read_is_whole.Goals as goal

pub returns-clause-produced : goal.returns-clause-produced
returns-clause-produced c = let law = c.what_is_read_fits.ensures in produced_is law.encodings law.streams law.types

pub returns-clause-consumed : goal.returns-clause-consumed
returns-clause-consumed c = let law = c.what_is_read_fits.ensures in consumed_is law.encodings law.streams law.types
