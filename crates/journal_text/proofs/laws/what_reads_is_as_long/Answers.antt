use Rattle.journal_text.proofs.Journals.{text_size}
use Rattle.journal_text.proofs.laws.what_reads_is_as_long.Goals as goal

pub returns : goal.returns
returns c = text_size c.line_laws.ensures
