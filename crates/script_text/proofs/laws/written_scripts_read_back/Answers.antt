use Rattle.script_text.proofs.ScriptBack.{script_back}
use Rattle.script_text.proofs.laws.written_scripts_read_back.Goals as goal

pub returns : goal.returns
returns c = script_back
