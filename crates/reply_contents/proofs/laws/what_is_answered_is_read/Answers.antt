use Rattle.reply_contents.proofs.LawLemmas.{consumed_back, local_back}
use Rattle.reply_contents.proofs.laws.what_is_answered_is_read.Goals as goal

pub returns-clause-local : goal.returns-clause-local
returns-clause-local c = local_back c.args.tuple c.tuple_is_read.ensures

pub returns-clause-consumed : goal.returns-clause-consumed
returns-clause-consumed c = consumed_back
