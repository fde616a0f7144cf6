use Rattle.std.proofs.Common.{ℕ, refl, ap, ◌∙◌, option_map}
use Rattle.ms_base.specs.declared.code.Code.TheVariants as code
use Rattle.journal_text.specs.Reading.{BadLine}
use Rattle.run_top.specs.Replay.{bad_by}
use Rattle.run_top.proofs.replay.lines_of_text.Goals as goal

-- the entry that is not built counts as one that no line begins so
pub returns-in-Err-Unbuilt-clause-err : goal.returns-in-Err-Unbuilt-clause-err
returns-in-Err-Unbuilt-clause-err c =
    let stop = rw c.in-Err-Unbuilt.field-0-is at c.in-Err-Unbuilt.ensures.err in
    let at = λ (n : ℕ). let bad : BadLine = record { line = n; code = code.Op } in bad in
    (at stop.0, ap bad_by c.in-Ok.ensures.ok ∙ ap (option_map at) stop.1, stop.2, refl)
