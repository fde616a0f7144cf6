use Rattle.std.proofs.Common.{Ok, sym, ap, ◌∙◌, subst}
use Rattle.std.proofs.lemmas.Result.{on_ok_weaker}
use Rattle.channel_msgs.specs.View.{answer_view}
use Rattle.host_tables.specs.Kept.{Moves}
use Rattle.host_tables.specs.declared.tables.Tables.{Tables}
use Rattle.host_core.proofs.ReplyLemmas.{late-goes, replied-goes}
use Rattle.host_core.proofs.reply.hear_reply.Goals as goal

pub returns-in-Some-clause-ok : goal.returns-in-Some-clause-ok
returns-in-Some-clause-ok c =
    on_ok_weaker c.settle.result
    (replied-goes c.hosts_are_sound.ensures.alone c.ids_differ.ensures.number c.args.tables.now c.serial_fits.ensures c.args.worker c.args.reply.id (answer_view c.args.reply.answer)
    c.take_request.new.self c.settle.new.tables c.in-Some.request (sym c.in-Some.is ∙ c.in_ok-request.ensures.found) c.in_ok-request.ensures.ok)
    c.settle.ensures.ok

pub returns-in-None-clause-ok : goal.returns-in-None-clause-ok
returns-in-None-clause-ok c =
    on_ok_weaker c.note.result
    (late-goes c.args.tables.now c.take_request.new.self c.note.new.self c.args.worker c.args.reply.id (answer_view c.args.reply.answer)
    (sym c.in-None.is ∙ c.in_ok-request.ensures.found) (subst (λ (x : Tables). Moves (λ s. s) c.args.tables.now x) (sym (c.in_ok-request.ensures.none (ap Ok c.in-None.is))) (λ s k. k)))
    c.note.ensures.ok
