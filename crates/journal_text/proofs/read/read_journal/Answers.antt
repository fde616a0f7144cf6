use Rattle.std.proofs.Common.{ℕ, List, ◌∷◌, Option, Bor, ap, sym, ◌∙◌}
use Rattle.std.specs.Option.{option_copied}
use Rattle.ms_base.specs.declared.code.Code.TheVariants as code
use Rattle.script_text.specs.Words.{lines_behind}
use Rattle.journal_text.proofs.Texts.{head_fault, head_cut, head_read, all_read, tells_from, tells_behind}
use Rattle.journal_text.proofs.read.read_journal.Goals as goal

pub returns-in-Err-clause-bad : goal.returns-in-Err-clause-bad
returns-in-Err-clause-bad c = tells_from _ 1 c.in-Err.code _ c.bad_line.ensures (head_fault c.args.text.now _ _ c.in-Err.code c.first_line.ensures.pieces (sym c.in-Err.ensures))

pub returns-in_default-clause-bad : goal.returns-in_default-clause-bad
returns-in_default-clause-bad c =
    let pieces = c.first_line.ensures.pieces ∙ ap (λ (o : Option (Bor (List ℕ))). c.first_line.result.0.now ∷ lines_behind (option_copied o)) c.in_default.is in
    tells_from _ 1 code.Cut _ c.bad_line-in_default.ensures (head_cut c.args.text.now _ c.in-Ok.seed pieces (sym c.in-Ok.ensures))

pub returns-in-Ok-read_entries-clause-ok : goal.returns-in-Ok-read_entries-clause-ok
returns-in-Ok-read_entries-clause-ok c =
    let pieces = c.first_line.ensures.pieces ∙ ap (λ (o : Option (Bor (List ℕ))). c.first_line.result.0.now ∷ lines_behind (option_copied o)) c.in-Some.is in
    all_read c.args.text.now _ c.in-Some.rest.now c.in-Ok.seed _ pieces (sym c.in-Ok.ensures) c.in-Ok-read_entries.ensures.ok

pub returns-in-Ok-read_entries-clause-seed : goal.returns-in-Ok-read_entries-clause-seed
returns-in-Ok-read_entries-clause-seed c =
    c.what_reads_has_a_seed.ensures c.args.text.now c.in-Ok.seed c.in-Ok-read_entries.entries.items (returns-in-Ok-read_entries-clause-ok c)

pub returns-in-Ok-read_entries-clause-form : goal.returns-in-Ok-read_entries-clause-form
returns-in-Ok-read_entries-clause-form c =
    c.what_reads_is_well_formed.ensures c.args.text.now c.in-Ok.seed c.in-Ok-read_entries.entries.items (returns-in-Ok-read_entries-clause-ok c)

pub returns-in-Ok-read_entries-clause-size : goal.returns-in-Ok-read_entries-clause-size
returns-in-Ok-read_entries-clause-size c =
    c.what_reads_is_as_long.ensures c.args.text.now c.in-Ok.seed c.in-Ok-read_entries.entries.items (returns-in-Ok-read_entries-clause-ok c)

pub returns-in-Err-read_entries-clause-bad : goal.returns-in-Err-read_entries-clause-bad
returns-in-Err-read_entries-clause-bad c =
    let pieces = c.first_line.ensures.pieces ∙ ap (λ (o : Option (Bor (List ℕ))). c.first_line.result.0.now ∷ lines_behind (option_copied o)) c.in-Some.is in
    tells_behind c.in-Err-read_entries.fault c.in-Ok.seed _ _ (head_read c.args.text.now _ c.in-Some.rest.now c.in-Ok.seed pieces (sym c.in-Ok.ensures)) c.in-Err-read_entries.ensures.bad
