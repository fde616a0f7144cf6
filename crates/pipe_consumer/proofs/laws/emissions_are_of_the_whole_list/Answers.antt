use Rattle.pipe_consumer.proofs.Ordered.{whole-list}
use Rattle.pipe_consumer.proofs.laws.emissions_are_of_the_whole_list.Goals as goal

pub returns : goal.returns
returns c = whole-list c.stream_laws.ensures
