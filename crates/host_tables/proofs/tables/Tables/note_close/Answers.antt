use Rattle.std.proofs.Common.{List, refl, sym, ap, ◌∙◌, subst}
use Rattle.std.proofs.lemmas.Result.{on_ok_weaker}
use Rattle.transcript.specs.declared.note.Note.{Note}
use Rattle.host_tables.specs.Kept.{Hears, noted_by}
use Rattle.host_tables.proofs.Parts.{hears-none, shown-same}
use Rattle.host_tables.proofs.tables.Tables.note_close.Goals as goal

pub returns-in-Some-clause-told : goal.returns-in-Some-clause-told
returns-in-Some-clause-told c =
    on_ok_weaker c.note.result (subst (λ (l : List Note). Hears l c.args.self.now c.note.new.self) (ap noted_by (sym c.in-Some.is) ∙ c.in_ok-note.ensures.noted)) c.note.ensures.heard

pub returns-in-None-clause-told : goal.returns-in-None-clause-told
returns-in-None-clause-told c = subst (λ (l : List Note). Hears l c.args.self.now c.args.self.now) (ap noted_by (sym c.in-None.is) ∙ c.in_ok-note.ensures.noted) (hears-none c.args.self.now)

pub returns-in-None-clause-shown : goal.returns-in-None-clause-shown
returns-in-None-clause-shown c = shown-same c.args.self.now _ refl refl
