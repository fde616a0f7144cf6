use Rattle.std.proofs.Common.{sym, ◌∙◌}
use Rattle.std.proofs.lemmas.Result.{on_ok_weaker}
use Rattle.object_tree.specs.Objects.{numbered}
use Rattle.host_model.specs.Step.{is_starting}
use Rattle.host_core.specs.Tables.{speaker}
use Rattle.host_core.proofs.NoticeLemmas.{not_starting-goes, starting-goes, starts-as, starts-not}
use Rattle.host_core.proofs.notice.hear_running.Goals as goal

pub returns-in-Some-clause-ok : goal.returns-in-Some-clause-ok
returns-in-Some-clause-ok c =
    on_ok_weaker c.run.result
    (λ goes x up.
    let t = c.args.tables.now in
    let is = starts-as (is_starting (numbered t.tree c.args.object)) c.in-Some.name x.name (sym c.in-Some.is ∙ c.in_ok-name.ensures.name x up) in
    starting-goes t c.run.new.tables (speaker x c.args.worker c.args.object) is.0 (goes x is.1))
    c.run.ensures.ok

pub returns-in-None-clause-ok : goal.returns-in-None-clause-ok
returns-in-None-clause-ok c =
    on_ok_weaker c.stray.result
    (λ moves x up.
    let t = c.args.tables.now in
    let idle = starts-not (is_starting (numbered t.tree c.args.object)) x.name (sym c.in-None.is ∙ c.in_ok-name.ensures.name x up) in
    not_starting-goes t c.stray.new.tables (speaker x c.args.worker c.args.object) idle moves)
    c.stray.ensures.ok
