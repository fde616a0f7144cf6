use Rattle.journal_text.proofs.Journals.{text_back}
use Rattle.journal_text.proofs.laws.what_reads_is_written_but_for_case.Goals as goal

pub returns : goal.returns
returns c = λ text seed entries h. (text_back c.line_laws.ensures text seed entries h).written
