use Rattle.worker_requests.proofs.ShortLemmas.{dotted_short}
use Rattle.worker_requests.proofs.TextLemmas.{dotted_plain}
use Rattle.worker_requests.proofs.short.address_is_short.Goals as goal

pub returns-clause-short : goal.returns-clause-short
returns-clause-short c = dotted_short _ _ _ _ (c.type_inv.ip 0).fits (c.type_inv.ip 1).fits (c.type_inv.ip 2).fits (c.type_inv.ip 3).fits

pub returns-clause-plain : goal.returns-clause-plain
returns-clause-plain c = dotted_plain _ _ _ _ (c.type_inv.ip 0).fits (c.type_inv.ip 1).fits (c.type_inv.ip 2).fits (c.type_inv.ip 3).fits
