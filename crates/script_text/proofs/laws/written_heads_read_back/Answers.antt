use Rattle.script_text.proofs.HeadLaws.{head_reads}
use Rattle.script_text.proofs.WordLaws.{line_tested}
use Rattle.script_text.proofs.laws.written_heads_read_back.Goals as goal

pub returns : goal.returns
returns c = record {
  line = λ word seed plain h. line_tested _ (head_reads word seed plain h).line;
  read = λ word seed plain h. (head_reads word seed plain h).read;
}
