use Rattle.script_text.proofs.WordLaws.{line_from}
use Rattle.script_text.proofs.CallLaws.{op_back}
use Rattle.script_text.proofs.laws.what_reads_as_a_call_is_written.Goals as goal

pub returns : goal.returns
returns c = record {
  written = λ first rest o h. (op_back first rest o h).written;
  form = λ first rest o h line. (op_back first rest o h).fits (line_from _ line);
}
