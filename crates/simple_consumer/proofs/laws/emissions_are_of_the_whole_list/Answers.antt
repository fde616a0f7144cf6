use Rattle.simple_consumer.proofs.Emitted.{whole-list}
use Rattle.simple_consumer.proofs.laws.emissions_are_of_the_whole_list.Goals as goal

pub returns : goal.returns
returns c = whole-list c.lower_laws.ensures
