use Rattle.std.proofs.Common.{◌≡◌, Result, ap, sym, ◌∙◌, subst}
use Rattle.ms_base.specs.declared.code.Code.{Code}
use Rattle.ms_base.specs.declared.entry.Entry.{Entry}
use Rattle.script_text.specs.Gives.{Gives}
use Rattle.script_text.specs.Words.{words}
use Rattle.journal_text.specs.Reading.{entry_of_words}
use Rattle.journal_text.proofs.Texts.{entry_text, entry_no_text}
use Rattle.journal_text.proofs.read.line.read_entry.Goals as goal

pub returns-in-Ok : goal.returns-in-Ok
unfolding entry_of_words
returns-in-Ok c =
    let same : c.in-Ok.line.now ≡ c.args.line.now = c.in-Ok.ensures.cases.0 in
    let read = entry_text c.args.line.now c.in-Ok.ensures.cases.1 in
    let whole = sym (read ∙ ap (λ l. entry_of_words (words l)) (sym same) ∙ ap entry_of_words c.first_word.ensures) in
    subst (λ (r : Result Entry Code). Gives c.read_entry_line.result r) whole c.read_entry_line.ensures

pub returns-in-Err : goal.returns-in-Err
returns-in-Err c = entry_no_text _ c.in-Err.ensures.cases.0
