use Rattle.script_text.proofs.WordLaws.{line_tested}
use Rattle.script_text.proofs.CallLaws.{await_reads}
use Rattle.script_text.proofs.laws.written_waits_read_back.Goals as goal

pub returns : goal.returns
returns c = record {
  line = λ name e count h. line_tested _ (await_reads name e count h).0;
  read = λ name e count h. (await_reads name e count h).1;
}
