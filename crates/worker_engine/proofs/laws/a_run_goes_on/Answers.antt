use Rattle.worker_engine.proofs.RunLemmas.{out-more, after-more}
use Rattle.worker_engine.proofs.laws.a_run_goes_on.Goals as goal

pub returns-clause-outs : goal.returns-clause-outs
returns-clause-outs c = out-more

pub returns-clause-state : goal.returns-clause-state
returns-clause-state c = after-more
