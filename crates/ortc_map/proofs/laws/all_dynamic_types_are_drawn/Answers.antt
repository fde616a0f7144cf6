use Rattle.ortc_map.proofs.RouterLemmas.{all_taken, none_is_left}
use Rattle.ortc_map.proofs.laws.all_dynamic_types_are_drawn.Goals as goal

pub returns : goal.returns
returns c codecs = (all_taken codecs, none_is_left codecs)
