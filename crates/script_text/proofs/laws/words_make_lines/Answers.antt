use Rattle.script_text.proofs.WordLaws.{line_from, line_tested, line_behind, plain_line, joined_line, last_word, next_word}
use Rattle.script_text.proofs.laws.words_make_lines.Goals as goal

pub returns : goal.returns
returns c = record {
  alone = λ word plain. line_tested word (plain_line word plain);
  joined = λ word rest plain line. line_tested _ (joined_line word rest plain (line_from rest line));
  behind = λ word rest line. line_tested rest (line_behind word rest (line_from _ line));
  last = last_word;
  next = next_word;
}
