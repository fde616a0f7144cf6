use Rattle.std.proofs.Common.{Some, cond, ap, ◌∙◌, rules}
use Rattle.std.proofs.lemmas.Result.{on_ok_weaker, on_err_weaker}
use Rattle.std.specs.HashMap as hash
use Rattle.host_notes.specs.Keys.{same_worker}
use Rattle.host_requests.specs.Kept.{same_slot, with_issued}
use Rattle.host_requests.proofs.ChannelLemmas.{channel-changed, entries-stay, read}
use Rattle.host_requests.proofs.channels.Channels.issue.Goals as goal

pub returns-in-Some-clause-ok : goal.returns-in-Some-clause-ok
returns-in-Some-clause-ok c =
    on_ok_weaker c.issue.result
    (λ grown.
    channel-changed (λ w. hash.get same_slot c.args.self.now.pending (w.slot, w.generation)) (λ w. hash.get same_slot (c.get_mut.follows.lender c.issue.new.self) (w.slot, w.generation)) c.args.worker
    c.issue.new.self (λ w. ((c.get_mut.follows.holds c.issue.new.self).3 (search rules)).0 (w.slot, w.generation)) (with_issued c.args.owner c.args.under)
    (grown ∙ ap (with_issued c.args.owner c.args.under) (ap read c.in-Some.ensures.value)))
    c.issue.ensures.ok

pub returns-in-Some-clause-err : goal.returns-in-Some-clause-err
returns-in-Some-clause-err c =
    on_err_weaker c.issue.result
    (λ same.
    (c.get_mut.follows.holds c.issue.new.self).0
    ∙ entries-stay (same_slot (c.args.worker.slot, c.args.worker.generation)) c.in-Some.pending.now c.issue.new.self c.args.self.now.pending.entries c.in-Some.ensures.value same)
    c.issue.ensures.err

pub returns-in_ok-insert-in-None-clause-ok : goal.returns-in_ok-insert-in-None-clause-ok
returns-in_ok-insert-in-None-clause-ok c =
    channel-changed (λ w. hash.get same_slot c.args.self.now.pending (w.slot, w.generation)) (λ w. hash.get same_slot c.insert.new.self (w.slot, w.generation)) c.args.worker c.issue-in-None.new.self
    (λ w.
    c.in_ok-insert-in-None.ensures.updates.0 (w.slot, w.generation)
    ∙ ap (λ m. cond (same_worker c.args.worker w) (Some c.issue-in-None.new.self) (hash.get same_slot m (w.slot, w.generation))) c.get_mut.follows.holds-at-none)
    (with_issued c.args.owner c.args.under)
    (c.in_ok-id-in-None.ensures.ok ∙ ap (with_issued c.args.owner c.args.under) (c.new-pending.ensures ∙ ap read c.in-None.ensures.value))
