use Rattle.std.proofs.Common.{List, ℕ, None, Some, sym, ◌∙◌, subst}
use Rattle.std.proofs.lemmas.Result.{on_ok_weaker}
use Rattle.transcript.specs.declared.note.Note.TheVariants as note
use Rattle.host_model.specs.Changes.{noted}
use Rattle.host_tables.specs.Kept.{Moves}
use Rattle.host_core.specs.Tables.{speaker}
use Rattle.host_core.proofs.NoticeLemmas.{ran-goes}
use Rattle.host_core.proofs.notice.run.Goals as goal

pub returns-in-Some-clause-ok : goal.returns-in-Some-clause-ok
returns-in-Some-clause-ok c =
    on_ok_weaker c.settle_owner.result
    (λ settles x named.
    ran-goes c.hosts_are_sound.ensures.one_start c.args.tables.now c.mark_running.new.self c.take_start.new.self c.note.new.self c.settle_owner.new.self
    (speaker x c.args.worker c.args.object) c.mark_running.ensures.ok c.in_ok-waiting.ensures.ok
    (subst (λ (name : List ℕ). Moves (noted (note.Running name c.args.worker.generation)) c.take_start.new.self c.note.new.self) (sym named) c.in_ok-note.ensures.ok)
    (Some c.in-Some.request) (sym c.in-Some.is ∙ c.in_ok-waiting.ensures.found) settles)
    c.settle_owner.ensures.ok

pub returns-in-None-clause-ok : goal.returns-in-None-clause-ok
returns-in-None-clause-ok c = λ x named.
    ran-goes c.hosts_are_sound.ensures.one_start c.args.tables.now c.mark_running.new.self c.take_start.new.self c.note.new.self c.note.new.self
    (speaker x c.args.worker c.args.object) c.mark_running.ensures.ok c.in_ok-waiting.ensures.ok
    (subst (λ (name : List ℕ). Moves (noted (note.Running name c.args.worker.generation)) c.take_start.new.self c.note.new.self) (sym named) c.in_ok-note.ensures.ok)
    None (sym c.in-None.is ∙ c.in_ok-waiting.ensures.found) (λ s k. k)
