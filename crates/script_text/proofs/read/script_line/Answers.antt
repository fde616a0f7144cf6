use Rattle.std.proofs.Common.{ℕ, List, ◌∷◌, Option, Bor, ap, ◌∙◌, sym}
use Rattle.std.specs.Option.{option_copied}
use Rattle.script_text.specs.Words.{lines, lines_behind}
use Rattle.script_text.specs.Script.{script_lines}
use Rattle.script_text.proofs.ScriptLines.{script_more}
use Rattle.script_text.proofs.read.script_line.Goals as goal

pub returns-in-Some-clause-pieces : goal.returns-in-Some-clause-pieces
returns-in-Some-clause-pieces c =
    let line = c.first_line.result.0.now in
    ap script_lines (c.first_line.ensures.pieces ∙ ap (λ (o : Option (Bor (List ℕ))). line ∷ lines_behind (option_copied o)) c.in-Some.is)
    ∙ script_more line c.in-Some.rest.now
    ∙ ap (λ (l : List ℕ). l ∷ script_lines (lines c.in-Some.rest.now)) (sym c.without_return.ensures)
