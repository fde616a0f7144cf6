use Rattle.script_text.proofs.HeadLaws.{head_back}
use Rattle.script_text.proofs.laws.what_reads_as_a_head_is_written.Goals as goal

pub returns : goal.returns
returns c = record {
  written = λ word line seed h. (head_back word line seed h).0;
  bound = λ word line seed h. (head_back word line seed h).1;
}
