use Rattle.std.proofs.Common.{sym, ◌∙◌}
use Rattle.std.proofs.lemmas.Bool.{eqb-true, eqb-false}
use Rattle.worker_play.proofs.LineLemmas.{drop_end, keep_end}
use Rattle.worker_play.proofs.script.without_empty_end.Goals as goal

pub returns-in-len1-up : goal.returns-in-len1-up
returns-in-len1-up c = drop_end c.args.pieces.now _ c.in-len1-up.len_at_least (eqb-true _ _ (sym c.is_empty.ensures ∙ c.if-is_empty.true))

pub returns-in_default-2 : goal.returns-in_default-2
returns-in_default-2 c = keep_end c.args.pieces.now _ c.in-len1-up.len_at_least (eqb-false _ _ (sym c.is_empty.ensures ∙ c.if-is_empty.false))
