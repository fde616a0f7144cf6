use Rattle.std.proofs.Common.{lit<, Some, None}
use Rattle.script_text.proofs.Pieces.{words_cut}
use Rattle.script_text.proofs.lines.first_word.Goals as goal

pub returns-in-Some : goal.returns-in-Some
returns-in-Some c = words_cut 32 c.args.line.now (Some (c.in-Some.word, c.in-Some.rest)) (c.in-Some.ensures.cases) (lit< tt)

pub returns-in-None : goal.returns-in-None
returns-in-None c = words_cut 32 c.args.line.now None c.in-None.ensures.cases (lit< tt)
