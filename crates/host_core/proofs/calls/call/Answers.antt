use Rattle.std.proofs.Common.{◌<◌, ◌^◌, arith}
use Rattle.std.proofs.lemmas.Result.{on_ok_weaker}
use Rattle.host_core.proofs.CallLemmas.{called-goes}
use Rattle.host_core.proofs.calls.call.Goals as goal

pub returns-clause-ok : goal.returns-clause-ok
returns-clause-ok c =
    let t = c.args.tables.now in
    let small : t.next.serial < 2 ^ 32 = omega (arith, c.requires.room.known.fits.last_serial) in
    on_ok_weaker c.follow.result
    (called-goes c.ids_differ.ensures.number t c.enter_call.new.self c.follow.new.tables c.args.lane c.args.op.now c.in_ok-call.call c.in_ok-course.course small c.in_ok-course.ensures.answer
    c.in_ok-call.ensures.key c.in_ok-call.ensures.ok c.in_ok-call.ensures.others)
    c.follow.ensures.ok
