use Rattle.std.proofs.Common.{List, sym, ap, ◌∙◌}
use Rattle.pending_calls.specs.declared.waiting.Waiting.{Waiting}
use Rattle.pending_calls.proofs.UnderLemmas.{view-taken, without-none}
use Rattle.pending_calls.proofs.pending.Pending.close_under.Goals as goal

pub loop-request-init : goal.loop-request-init
loop-request-init c = ap (λ (ws : List Waiting). record { waiting = ws; last = c.args.self.now.last }) (sym (without-none c.args.self.now.waiting))

pub loop-request-preserved : goal.loop-request-preserved
loop-request-preserved c =
    c.settle-settled.ensures.rest
    ∙ view-taken c.deref-request-items.result.now c.loop-request.request-index _ c.loop-request-test.true c.loop-request.self c.args.self.now c.loop-request.invariant
