use Rattle.journal_text.proofs.Sizes.{entries_count}
use Rattle.journal_text.proofs.laws.entries_take_a_byte_each.Goals as goal

pub returns : goal.returns
returns c = entries_count
