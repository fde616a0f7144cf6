use Rattle.std.proofs.Common.{List, ℕ, subst}
use Rattle.std.proofs.lemmas.Result.{on_ok_weaker}
use Rattle.ms_base.specs.declared.keys.Kind.TheVariants as kind
use Rattle.transcript.specs.declared.note.Note.TheVariants as note
use Rattle.host_model.specs.Changes.{noted}
use Rattle.host_model.specs.Step.{learns}
use Rattle.host_tables.specs.Kept.{Moves}
use Rattle.host_core.specs.Tables.{speaker}
use Rattle.host_core.proofs.NoticeLemmas.{found-moves, none-moves}
use Rattle.host_core.proofs.notice.hear_tuple.Goals as goal

pub returns-in_default-clause-ok : goal.returns-in_default-clause-ok
returns-in_default-clause-ok c =
    on_ok_weaker c.stray.result
    (λ moves x.
    none-moves (speaker x c.args.worker c.args.object) kind.Plain c.args.id (learns c.args.remote) c.args.tables.now c.stray.new.tables c.in_default.ensures moves)
    c.stray.ensures.ok

pub returns-clause-ok : goal.returns-clause-ok
returns-clause-ok c =
    on_ok_weaker c.note.result
    (λ moves x.
    found-moves (speaker x c.args.worker c.args.object) kind.Plain c.args.id (learns c.args.remote) c.args.tables.now c.note.new.self c.in-Some.transport.now c.in-Some.ensures
    (subst (λ (name : List ℕ). Moves (noted (note.Tuple name c.args.remote)) c.args.tables.now c.note.new.self) c.in_ok-name.ensures moves))
    c.note.ensures.ok
