use Rattle.script_text.specs.Calls.{op_words}
use Rattle.script_text.proofs.WordLaws.{line_tested}
use Rattle.script_text.proofs.CallLaws.{op_reads}
use Rattle.script_text.proofs.laws.written_calls_read_back.Goals as goal

pub returns : goal.returns
returns c = record {
  line = λ o h. line_tested (op_words o) (op_reads o h).line;
  read = λ o h. (op_reads o h).read;
}
