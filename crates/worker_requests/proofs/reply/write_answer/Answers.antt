use Rattle.worker_requests.proofs.ShortLemmas.{answer_short, if_short}
use Rattle.worker_requests.proofs.reply.write_answer.Goals as goal

pub returns-clause-short : goal.returns-clause-short
returns-clause-short c = if_short c.answer_bytes.result _ c.answer_bytes.ensures (answer_short c.args.id c.ranges.id.fits c.args.answer c.answer_is_short.ensures)
