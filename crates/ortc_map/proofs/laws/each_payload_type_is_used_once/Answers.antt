use Rattle.ortc_map.proofs.RouterLemmas.{used_once}
use Rattle.ortc_map.proofs.laws.each_payload_type_is_used_once.Goals as goal

pub returns : goal.returns
returns c given caps e = used_once given caps e
