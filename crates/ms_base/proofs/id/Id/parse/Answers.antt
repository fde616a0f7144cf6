use Rattle.std.proofs.Common.{sym, true≢false}
use Rattle.ms_base.proofs.IdLemmas.{not_an_id}
use Rattle.ms_base.proofs.id.Id.parse.Goals as goal

pub returns-in-Err : goal.returns-in-Err
returns-in-Err c = not_an_id c.args.bytes.now c.if-bytes-ne36.false (λ found. true≢false (sym (c.in-Err.ensures.ok.1 found)))
