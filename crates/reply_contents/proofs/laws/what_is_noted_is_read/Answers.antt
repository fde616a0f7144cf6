use Rattle.reply_contents.proofs.LawLemmas.{object_back, tuple_back}
use Rattle.reply_contents.proofs.laws.what_is_noted_is_read.Goals as goal

pub returns-in-TupleLearnt : goal.returns-in-TupleLearnt
returns-in-TupleLearnt c = tuple_back c.args.notice c.in-TupleLearnt.id c.in-TupleLearnt.tuple c.id_is_read.ensures c.tuple_is_read.ensures c.in-TupleLearnt.is

pub returns-in-ProducerClosed : goal.returns-in-ProducerClosed
returns-in-ProducerClosed c = object_back c.args.notice c.in-ProducerClosed.id c.id_is_read-in-ProducerClosed.ensures c.in-ProducerClosed.is
