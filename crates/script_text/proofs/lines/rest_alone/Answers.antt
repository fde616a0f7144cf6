use Rattle.std.proofs.Common.{ℕ, List, true, Option, Bor, ap, ◌∙◌}
use Rattle.std.specs.Option.{option_copied}
use Rattle.script_text.specs.Forms.{cut}
use Rattle.script_text.specs.Words.{words_behind}
use Rattle.script_text.proofs.Cuts.{rest_piece}
use Rattle.script_text.proofs.lines.rest_alone.Goals as goal

pub returns-in-Some : goal.returns-in-Some
returns-in-Some c =
    ap (λ (o : Option (Bor (List ℕ))). cut true 0 (words_behind (option_copied o))) c.in-Some.is ∙ rest_piece c.in-Some.text.now
