use Rattle.std.proofs.Common.{ℕ, List, Ok, Option, Bor, ap, sym, ◌∙◌}
use Rattle.std.specs.Option.{option_copied}
use Rattle.script_text.specs.declared.script.Step.{Step}
use Rattle.script_text.specs.Script.{lanes_behind, rows_behind, script_lines_behind}
use Rattle.script_text.proofs.read.read_behind.Goals as goal

pub returns-in-None-clause-ok : goal.returns-in-None-clause-ok
unfolding rows_behind
returns-in-None-clause-ok c =
    ap (λ (o : Option (Bor (List ℕ))). lanes_behind (script_lines_behind (option_copied o))) c.in-None.is
    ∙ ap (λ (lanes : List (List Step)). Ok lanes) (sym c.new.ensures)
