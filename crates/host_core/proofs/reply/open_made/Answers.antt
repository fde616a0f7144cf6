use Rattle.std.proofs.Common.{Option, option_map, sym, ap, ◌∙◌}
use Rattle.std.proofs.lemmas.Result.{on_ok_weaker}
use Rattle.reply_contents.specs.declared.content.Flags.{Flags}
use Rattle.host_core.specs.Tables.{flagged_by}
use Rattle.host_core.proofs.ReplyLemmas.{opened-moves}
use Rattle.host_core.proofs.reply.open_made.Goals as goal

pub returns-in_ok-open-in-Some-clause-ok : goal.returns-in_ok-open-in-Some-clause-ok
returns-in_ok-open-in-Some-clause-ok c =
    on_ok_weaker c.settle_owner.result
    (λ settles.
    opened-moves c.args.tables.now c.open.new.self c.settle_owner.new.self c.args.owner c.args.object c.with_flags.result c.args.keeps c.in-Some.flags _ c.with_flags.ensures
    (sym (c.made_as.ensures c.args.object) ∙ ap (option_map (λ (f : Option Flags). flagged_by f c.args.object)) c.in-Some.is) c.in_ok-open-in-Some.ensures.ok settles)
    c.settle_owner.ensures.ok
