use Rattle.std.proofs.Common.{ap, sym, ◌∙◌, arith}
use Rattle.script_text.proofs.ScriptLines.{head_fault, head_read, long_fault, tells_behind, with_seed}
use Rattle.script_text.proofs.ScriptLaws.{reads_script}
use Rattle.script_text.proofs.read.read_script.Goals as goal

pub returns-then-text-gt-MAX_SCRIPT-clause-bad : goal.returns-then-text-gt-MAX_SCRIPT-clause-bad
returns-then-text-gt-MAX_SCRIPT-clause-bad c = long_fault c.args.text.now (omega arith)

pub returns-in-Err-clause-bad : goal.returns-in-Err-clause-bad
returns-in-Err-clause-bad c = head_fault c.args.text.now _ _ c.in-Err.code (omega arith) c.script_line.ensures.pieces (sym c.in-Err.ensures)

pub returns-in-Ok-read_behind-clause-ok : goal.returns-in-Ok-read_behind-clause-ok
returns-in-Ok-read_behind-clause-ok c =
    head_read c.args.text.now _ _ c.in-Ok.seed (omega arith) c.script_line.ensures.pieces (sym c.in-Ok.ensures)
    ∙ ap (with_seed c.in-Ok.seed) c.in-Ok-read_behind.ensures.ok

pub returns-in-Ok-read_behind-clause-form : goal.returns-in-Ok-read_behind-clause-form
returns-in-Ok-read_behind-clause-form c =
    reads_script c.args.text.now _
    (head_read c.args.text.now _ _ c.in-Ok.seed (omega arith) c.script_line.ensures.pieces (sym c.in-Ok.ensures)
    ∙ ap (with_seed c.in-Ok.seed) c.in-Ok-read_behind.ensures.ok)

pub returns-in-Err-read_behind-clause-bad : goal.returns-in-Err-read_behind-clause-bad
returns-in-Err-read_behind-clause-bad c =
    tells_behind c.in-Err-read_behind.fault c.in-Ok.seed _ _
    (head_read c.args.text.now _ _ c.in-Ok.seed (omega arith) c.script_line.ensures.pieces (sym c.in-Ok.ensures)) c.in-Err-read_behind.ensures.bad
