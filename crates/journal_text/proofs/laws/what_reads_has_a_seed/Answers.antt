use Rattle.journal_text.proofs.Journals.{text_back}
use Rattle.journal_text.proofs.laws.what_reads_has_a_seed.Goals as goal

pub returns : goal.returns
returns c = λ text seed entries h. (text_back c.line_laws.ensures text seed entries h).below
