use Rattle.pipe_consumer.proofs.Sents.{streams-emit, others-emit-nothing}
use Rattle.pipe_consumer.proofs.laws.each_stream_emits_by_itself.Goals as goal

pub returns-clause-streams : goal.returns-clause-streams
returns-clause-streams c = streams-emit c.stream_laws.ensures

pub returns-clause-others : goal.returns-clause-others
returns-clause-others c = others-emit-nothing
