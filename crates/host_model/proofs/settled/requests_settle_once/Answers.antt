use Rattle.host_requests.specs.Requests.{is_on, is_start_of}
use Rattle.host_model.proofs.RequestLemmas.{one-issued, one-wanted, replies-once, settling-once, starts-once}
use Rattle.host_model.proofs.settled.requests_settle_once.Goals as goal

pub returns-clause-replies : goal.returns-clause-replies
returns-clause-replies c = replies-once

pub returns-clause-one_reply : goal.returns-clause-one_reply
returns-clause-one_reply c = one-issued

pub returns-clause-starts : goal.returns-clause-starts
returns-clause-starts c = starts-once c.built_fits.ensures

pub returns-clause-one_start : goal.returns-clause-one_start
returns-clause-one_start c = one-wanted c.built_fits.ensures

pub returns-clause-once : goal.returns-clause-once
returns-clause-once c = λ j worker id. settling-once (is_on worker id) j

pub returns-clause-starts_once : goal.returns-clause-starts_once
returns-clause-starts_once c = λ j worker. settling-once (is_start_of worker) j
