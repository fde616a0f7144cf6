use Rattle.simple_consumer.proofs.Spans.{spans-offered, spans-set}
use Rattle.simple_consumer.proofs.laws.spans_are_of_activity.Goals as goal

pub returns-clause-offers : goal.returns-clause-offers
returns-clause-offers c = spans-offered

pub returns-clause-begins : goal.returns-clause-begins
returns-clause-begins c = spans-set
