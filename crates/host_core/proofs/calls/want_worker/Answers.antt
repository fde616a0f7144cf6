use Rattle.std.proofs.Common.{ℕ, List, ap, ◌∙◌, subst}
use Rattle.std.proofs.lemmas.Result.{on_ok_weaker}
use Rattle.ms_base.specs.declared.keys.WorkerKey.{WorkerKey}
use Rattle.transcript.specs.declared.note.Note.TheVariants as note
use Rattle.object_tree.specs.declared.object.Object.{Object}
use Rattle.request_build.specs.declared.built.Keep.TheVariants as keep
use Rattle.host_model.specs.Changes.{noted, object_opened}
use Rattle.host_model.specs.State.{Slot, as_serial}
use Rattle.host_tables.specs.Kept.{IsNew, Moves}
use Rattle.host_core.specs.Answers.{slot_of}
use Rattle.host_core.proofs.CallLemmas.{wanted-moves}
use Rattle.host_core.proofs.calls.want_worker.Goals as goal

pub returns-clause-ok : goal.returns-clause-ok
returns-clause-ok c =
    let t = c.args.tables.now in
    on_ok_weaker c.note.result
    (λ notes new.
    wanted-moves t c.add_slot.new.self c.add_start.new.self c.draw.new.self c.open.new.self c.note.new.self c.args.call c.args.name c.args.budget _
    (c.new_slot-slot.ensures ∙ ap (λ (name : List ℕ). slot_of t.kept.slots name c.args.budget (as_serial t.next.serial)) c.in_ok-copy.ensures) c.in_ok-add_slot.ensures.ok
    c.in_ok-add_start.ensures.ok c.draw.ensures.ok
    (subst (λ (worker : Object). IsNew c.draw.new.self.tree worker → Moves (object_opened worker keep.Nothing) c.draw.new.self c.open.new.self) c.new_worker.ensures c.in_ok-open.ensures.ok)
    (subst (λ (key : WorkerKey). Moves (noted (note.Spawn key)) c.open.new.self c.note.new.self) (ap (λ (x : Slot). x.key) c.slot.view_is) notes) new)
    c.note.ensures.ok
