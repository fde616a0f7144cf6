use Rattle.ortc_map.proofs.RouterReads.{router_reads}
use Rattle.ortc_map.proofs.laws.what_a_router_has_can_be_read.Goals as goal

pub returns : goal.returns
returns c given caps own e = router_reads given caps own e
