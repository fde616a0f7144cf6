use Rattle.std.proofs.Common.{sym, eqb}
use Rattle.script_text.proofs.Pieces.{line_at, no_line}
use Rattle.script_text.proofs.lines.first_line.Goals as goal

pub returns-in-Some-clause-pieces : goal.returns-in-Some-clause-pieces
returns-in-Some-clause-pieces c = (line_at (λ b. eqb b 10) c.args.text.now c.in-Some.end (sym c.in-Some.ensures)).0

pub returns-in-None-clause-pieces : goal.returns-in-None-clause-pieces
returns-in-None-clause-pieces c = no_line (λ b. eqb b 10) c.args.text.now (sym c.in-None.ensures)
