use Rattle.std.proofs.Common.{ℕ, List, ap}
use Rattle.std.proofs.lemmas.Result.{on_ok_weaker}
use Rattle.transcript.specs.declared.note.Note.TheVariants as note
use Rattle.host_tables.proofs.Opening.{opened-moves}
use Rattle.host_tables.proofs.tables.Tables.open_new.Goals as goal

pub returns-clause-ok : goal.returns-clause-ok
returns-clause-ok c =
    let o = c.args.object in
    on_ok_weaker c.note.result
    (λ h.
    opened-moves c.args.self.now c.note.new.self o c.args.keeps _ c.add.new.self c.keep.new.self (ap (λ (name : List ℕ). note.Open o.serial o.kind name o.id) c.in_ok-copy.ensures)
    c.in_ok-keep.ensures.ok c.in_ok-add.ensures.ok h)
    c.note.ensures.heard
