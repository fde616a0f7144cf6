use Rattle.pipe_consumer.proofs.Sents.{pass-goes-on, others-passed-over}
use Rattle.pipe_consumer.proofs.laws.each_pass_goes_on.Goals as goal

pub returns-clause-streams : goal.returns-clause-streams
returns-clause-streams c = pass-goes-on c.stream_laws.ensures

pub returns-clause-others : goal.returns-clause-others
returns-clause-others c = others-passed-over
