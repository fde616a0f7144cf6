use Rattle.journal_text.proofs.Journals.{differ_by_text}
use Rattle.journal_text.proofs.laws.journals_differ_by_text.Goals as goal

pub returns : goal.returns
returns c = differ_by_text c.line_laws.ensures
