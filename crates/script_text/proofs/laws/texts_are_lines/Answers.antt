use Rattle.script_text.proofs.Pieces.{pieces_at}
use Rattle.script_text.proofs.ScriptLines.{all_unbroken}
use Rattle.script_text.proofs.WordLaws.{line_from}
use Rattle.script_text.proofs.laws.texts_are_lines.Goals as goal

pub returns : goal.returns
returns c = record {
  first = λ line rest h. pieces_at 10 line rest (line_from line h).whole;
  unbroken = all_unbroken;
}
