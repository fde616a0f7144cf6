use Rattle.std.proofs.Common.{◌-◌, take, drop}
use Rattle.real_edges.proofs.BufferLemmas.{put_cut}
use Rattle.real_edges.proofs.batch.put_between.Goals as goal

pub returns-clause-put : goal.returns-clause-put
returns-clause-put c =
    put_cut (take (c.args.end - c.args.place) (drop c.args.place c.args.bytes.now)) c.copy_from_slice.new.self (drop c.min-len.result c.args.into.now) 65536 c.min-len.result
    c.min-len.ensures c.copy_from_slice.ensures.after
