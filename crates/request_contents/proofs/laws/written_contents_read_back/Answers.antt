use Rattle.request_contents.proofs.BackLemmas.{connect_back, consume_back, pipe_back, plain_back, produce_back}
use Rattle.request_contents.proofs.laws.written_contents_read_back.Goals as goal

pub returns-clause-plain : goal.returns-clause-plain
returns-clause-plain c = plain_back

pub returns-clause-pipe : goal.returns-clause-pipe
returns-clause-pipe c = pipe_back

pub returns-clause-connect : goal.returns-clause-connect
returns-clause-connect c = connect_back

pub returns-clause-produce : goal.returns-clause-produce
returns-clause-produce c = produce_back c.written_params_read_back.ensures

pub returns-clause-consume : goal.returns-clause-consume
returns-clause-consume c = consume_back c.written_params_read_back.ensures
