use Rattle.journal_text.proofs.Sizes.{size_with_more, size_of_front}
use Rattle.journal_text.proofs.laws.journals_grow_by_lines.Goals as goal

pub returns-clause-more : goal.returns-clause-more
returns-clause-more c = size_with_more

pub returns-clause-front : goal.returns-clause-front
returns-clause-front c = size_of_front
