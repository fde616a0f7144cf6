use Rattle.std.proofs.Common.{◌∷◌, [], List, ℕ, Some, None, sym, ◌∙◌, subst}
use Rattle.std.proofs.lemmas.Result.{on_ok_weaker}
use Rattle.pending_calls.specs.declared.waiting.Owner.TheVariants as owner
use Rattle.host_model.specs.declared.due.Due.TheVariants as due
use Rattle.host_model.specs.Changes.{request_issued}
use Rattle.host_tables.specs.Kept.{Moves}
use Rattle.host_core.proofs.FallLemmas.{close-moves, known-moves}
use Rattle.host_core.proofs.fall.send_close.Goals as goal

pub returns-then-is_known-clause-ok : goal.returns-then-is_known-clause-ok
returns-then-is_known-clause-ok c =
    known-moves c.args.tables.now c.args.fallen.now (c.args.root ∷ []) c.args.reason c.args.serial (sym c.is_known.ensures ∙ c.if-is_known.true)

pub returns-in_default-clause-ok : goal.returns-in_default-clause-ok
returns-in_default-clause-ok c =
    close-moves c.args.tables.now c.args.tables.now c.args.fallen.now (c.args.root ∷ []) c.args.reason c.args.serial None (sym c.is_known.ensures ∙ c.if-is_known.false)
    (sym c.in_default.is ∙ c.close_of.ensures.close) (λ s k. k)

pub returns-clause-ok : goal.returns-clause-ok
returns-clause-ok c =
    on_ok_weaker c.issue.result
    (λ moves.
    close-moves c.args.tables.now c.issue.new.self c.args.fallen.now (c.args.root ∷ []) c.args.reason c.args.serial (Some c.in-Some.close)
    (sym c.is_known.ensures ∙ c.if-is_known.false) (sym c.in-Some.is ∙ c.close_of.ensures.close)
    (subst
    (λ (p : List ℕ). Moves (request_issued c.in-Some.close.channel owner.Close c.in-Some.close.parent due.Nothing p) c.args.tables.now c.issue.new.self)
    c.in_ok-payload.ensures.text moves))
    c.issue.ensures.ok
