use Rattle.std.proofs.Common.{◌≡◌, ℕ, List, Result, ap, sym, ◌∙◌, subst}
use Rattle.std.proofs.lemmas.Bool.{cond-true, cond-false}
use Rattle.std.proofs.lemmas.Str.{is_utf8-from_IsUtf8}
use Rattle.ms_base.specs.declared.code.Code.{Code}
use Rattle.script_text.specs.declared.row.Row.{Row}
use Rattle.script_text.specs.Gives.{Gives}
use Rattle.script_text.specs.Script.{row_of, text_row}
use Rattle.script_text.proofs.Pieces.{not_utf8}
use Rattle.script_text.proofs.read.read_row.Goals as goal

pub returns-in-Ok : goal.returns-in-Ok
unfolding row_of
returns-in-Ok c =
    let same : c.in-Ok.line.now ≡ c.args.line.now = c.in-Ok.ensures.cases.0 in
    let whole = cond-true _ (text_row c.args.lanes c.args.workers c.args.line.now) _ (is_utf8-from_IsUtf8 c.args.line.now c.in-Ok.ensures.cases.1)
    ∙ ap (λ (l : List ℕ). text_row c.args.lanes c.args.workers l) (sym same) in
    subst (λ (r : Result Row Code). Gives c.read_text_row.result r) (sym whole) c.read_text_row.ensures

pub returns-in-Err : goal.returns-in-Err
unfolding row_of
returns-in-Err c = cond-false _ _ _ (not_utf8 _ c.in-Err.ensures.cases.0)
