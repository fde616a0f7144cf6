use Rattle.script_text.proofs.WordLaws.{line_from}
use Rattle.script_text.proofs.CallLaws.{await_back}
use Rattle.script_text.proofs.laws.what_reads_as_a_wait_is_written.Goals as goal

pub returns : goal.returns
returns c = record {
  written = λ rest a h. (await_back rest a h).0;
  form = λ rest a h line. (await_back rest a h).1 (line_from _ line);
}
