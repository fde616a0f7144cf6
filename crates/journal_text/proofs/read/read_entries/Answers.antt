use Rattle.std.proofs.Common.{◌≡◌, ℕ, ◌+◌, ◌<◌, ◌≤◌, List, [], ◌∷◌, ◌++◌, Option, Err, IfSome, Bor, length, ap, sym, ◌∙◌, subst, arith}
use Rattle.std.specs.Option.{option_copied}
use Rattle.ms_base.specs.declared.entry.Entry.{Entry}
use Rattle.script_text.specs.declared.fault.WordFault.{WordFault}
use Rattle.journal_text.specs.declared.fault.JournalFault.TheVariants as fault
use Rattle.script_text.specs.Gives.{Gives}
use Rattle.script_text.specs.Words.{lines, lines_behind}
use Rattle.journal_text.specs.Gives.{told_line}
use Rattle.journal_text.specs.Reading.{entry_of_line, entries_of, with_front}
use Rattle.journal_text.proofs.Texts.{entries_fault, entries_step, tells_from}
use Rattle.journal_text.proofs.read.read_entries.Goals as goal

pub returns-in-Err-Bad-clause-bad : goal.returns-in-Err-Bad-clause-bad
returns-in-Err-Bad-clause-bad c =
    let pieces = c.first_line.ensures.pieces ∙ ap (λ (o : Option (Bor (List ℕ))). c.first_line.result.0.now ∷ lines_behind (option_copied o)) c.in-Some.is in
    let wrong = entries_fault c.lines.entries.items c.lines.number c.first_line.result.0.now c.in-Some.next.now c.in-Err-Bad.code (subst (λ (f : WordFault). Gives {A = Entry} (Err f) (entry_of_line c.first_line.result.0.now)) c.in-Err-Bad.field-0-is c.in-Err-Bad.ensures) in
    tells_from _ c.lines.number c.in-Err-Bad.code _ (c.bad_line.ensures ∙ ap (fault.BadJournal (told_line c.lines.number)) c.in-Err-Bad.code-is)
    (sym c.lines.invariant.0 ∙ ap (λ (ls : List (List ℕ)). with_front c.lines.entries.items (entries_of c.lines.number ls)) pieces ∙ wrong)

pub lines-preserved : goal.lines-preserved
lines-preserved c =
    let pieces = c.first_line.ensures.pieces ∙ ap (λ (o : Option (Bor (List ℕ))). c.first_line.result.0.now ∷ lines_behind (option_copied o)) c.in-Some.is in
    let step = entries_step c.lines.entries.items c.lines.number c.first_line.result.0.now c.in-Some.next.now c.in-Ok.entry c.in-Ok.ensures in
    let pushed : c.push.new.self.items ≡ c.lines.entries.items ++ c.in-Ok.entry ∷ [] = c.in_ok-push.ensures.items in
    let shorter : length c.in-Some.next.now < length c.lines.rest.now =
    subst (λ (o : Option (Bor (List ℕ))). IfSome (option_copied o) (λ r. length r < length c.lines.rest.now)) c.in-Some.is c.first_line.ensures.shorter in
    let room : c.lines.number + length c.lines.rest.now ≤ length c.args.text.now + 2 = c.lines.invariant.1 in (
      ap (λ es. with_front es (entries_of (c.lines.number + 1) (lines c.in-Some.next.now))) pushed
          ∙ sym step
          ∙ ap (λ (ls : List (List ℕ)). with_front c.lines.entries.items (entries_of c.lines.number ls)) (sym pieces)
          ∙ c.lines.invariant.0,
      omega arith,
    )
