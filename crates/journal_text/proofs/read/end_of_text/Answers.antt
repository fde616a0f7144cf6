use Rattle.std.proofs.Common.{◌<◌, length, ap, sym, ◌∙◌, arith}
use Rattle.std.proofs.lemmas.Bool.{eqb-true, eqb-false}
use Rattle.journal_text.specs.declared.fault.JournalFault.TheVariants as fault
use Rattle.journal_text.specs.Gives.{told_line}
use Rattle.journal_text.specs.Reading.{cut}
use Rattle.journal_text.proofs.Texts.{entries_end, entries_cut, tells_from}
use Rattle.journal_text.proofs.read.end_of_text.Goals as goal

pub returns-then-is_empty-clause-ok : goal.returns-then-is_empty-clause-ok
returns-then-is_empty-clause-ok c =
    entries_end c.args.entries.items c.args.number c.args.last.now (eqb-true _ _ (sym c.is_empty.ensures ∙ c.if-is_empty.true))

pub returns-else-is_empty-clause-bad : goal.returns-else-is_empty-clause-bad
returns-else-is_empty-clause-bad c =
    let other = eqb-false (length c.args.last.now) 0 (sym c.is_empty.ensures ∙ c.if-is_empty.false) in
    let some : 0 < length c.args.last.now = omega arith in
    tells_from c.bad_line.result c.args.number (cut c.args.last.now) _
    (c.bad_line.ensures ∙ ap (fault.BadJournal (told_line c.args.number)) (sym c.cut_code.ensures))
    (entries_cut c.args.entries.items c.args.number c.args.last.now some)
