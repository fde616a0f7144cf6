use Rattle.std.proofs.Common.{None, Some, sym, ap}
use Rattle.std.proofs.lemmas.Result.{on_ok_weaker}
use Rattle.channel_msgs.specs.Read.{message_of}
use Rattle.channel_msgs.specs.View.{message_view}
use Rattle.host_model.specs.State.{Slot}
use Rattle.host_core.proofs.HeardLemmas.{heard-goes, moves-go, silent-goes}
use Rattle.host_core.proofs.hear.hear_payload.Goals as goal

pub returns-in_default-clause-ok : goal.returns-in_default-clause-ok
returns-in_default-clause-ok c = silent-goes c.args.tables.now c.args.worker (message_of c.args.payload.now) c.in_default.ensures

pub returns-in-Ok-clause-ok : goal.returns-in-Ok-clause-ok
returns-in-Ok-clause-ok c =
    let x = c.in-Some.slot.now in
    on_ok_weaker c.hear_message.result
    (λ goes.
    heard-goes c.args.tables.now c.hear_message.new.tables c.args.worker c.slot.inside.worker x (message_of c.args.payload.now) (Some (message_view c.in-Ok.message)) c.in-Some.ensures
    (sym (ap (λ (y : Slot). y.worker) c.slot.view_is)) c.in-Ok.ensures.ok (goes x (sym c.in-Some.ensures)))
    c.hear_message.ensures.ok

pub returns-in-Err-Unexpected-clause-ok : goal.returns-in-Err-Unexpected-clause-ok
returns-in-Err-Unexpected-clause-ok c =
    let x = c.in-Some.slot.now in
    on_ok_weaker c.note.result
    (λ moves.
    heard-goes c.args.tables.now c.note.new.self c.args.worker c.slot.inside.worker x (message_of c.args.payload.now) None c.in-Some.ensures
    (sym (ap (λ (y : Slot). y.worker) c.slot.view_is)) (c.in-Err-Unexpected.ensures.unexpected (cc)) (moves-go _ c.args.tables.now c.note.new.self moves))
    c.note.ensures.ok
