use Rattle.std.proofs.Common.{arith}
use Rattle.worker_requests.proofs.TextLemmas.{put_puts}
use Rattle.worker_requests.proofs.tuple_notice.put.Goals as goal

pub returns-clause-puts : goal.returns-clause-puts
returns-clause-puts c = put_puts c.args.into.now c.args.bytes.now c.copy_from_slice.new.self c.args.at _ (omega arith) c.copy_from_slice.ensures.after c.requires
