use Rattle.journal_text.proofs.Journals.{reads_back}
use Rattle.journal_text.proofs.laws.written_journals_read_back.Goals as goal

pub returns : goal.returns
returns c = reads_back c.line_laws.ensures
