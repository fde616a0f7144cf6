use Rattle.worker_requests.proofs.ShortLemmas.{notice_short, if_short}
use Rattle.worker_requests.proofs.notice.write_worker_notice.Goals as goal

pub returns-clause-short : goal.returns-clause-short
returns-clause-short c = if_short c.notice_bytes.result _ c.notice_bytes.ensures (notice_short c.args.notice c.notice_is_short.ensures)
