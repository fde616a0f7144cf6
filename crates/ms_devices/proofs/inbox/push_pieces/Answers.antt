use Rattle.std.proofs.Common.{◌∙◌, arith}
use Rattle.ms_devices.proofs.InboxLemmas.{piece_added, none_left}
use Rattle.ms_devices.proofs.inbox.push_pieces.Goals as goal

pub loop-rest-preserved : goal.loop-rest-preserved
loop-rest-preserved c =
    let front = rw c.min.ensures at c.split_at.ensures.front in
    let back = rw c.min.ensures at c.split_at.ensures.back in
    piece_added c.loop-rest.all.items c.push.new.self.items c.loop-rest.rest.now _ c.split_at.result.1.now (grind arith)
    (c.in_ok-from_slice.ensures ∙ front) back c.in_ok-push.ensures.items
    ∙ c.loop-rest.invariant

pub returns : goal.returns
returns c = none_left c.loop-rest.all.items c.loop-rest.rest.now (grind arith) ∙ c.loop-rest.invariant
