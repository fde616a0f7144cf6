use Rattle.script_text.proofs.FormLaws.{value_plain, value_reads}
use Rattle.script_text.proofs.laws.written_words_read_back.Goals as goal

pub returns : goal.returns
returns c = record { plain = value_plain; read = value_reads }
