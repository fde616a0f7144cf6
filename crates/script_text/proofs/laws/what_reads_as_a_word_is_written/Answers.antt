use Rattle.script_text.proofs.FormLaws.{value_back}
use Rattle.script_text.proofs.laws.what_reads_as_a_word_is_written.Goals as goal

pub returns : goal.returns
returns c = record {
  written = λ form word x tight h. (value_back form word x tight h).0;
  form = λ form word x tight h. (value_back form word x tight h).1;
}
