use Rattle.std.proofs.Common.{ap, map, ◌∙◌, rules}
use Rattle.std.specs.HashMap as hash
use Rattle.pending_calls.specs.Pending.{PendingView, without}
use Rattle.host_requests.specs.Kept.{last_entry, same_slot}
use Rattle.host_requests.proofs.ChannelLemmas.{channel-changed, lasts-stay, read}
use Rattle.host_requests.proofs.channels.Channels.settle.Goals as goal

pub returns-in-Some-clause-pending : goal.returns-in-Some-clause-pending
returns-in-Some-clause-pending c =
    channel-changed (λ w. hash.get same_slot c.args.self.now.pending (w.slot, w.generation)) (λ w. hash.get same_slot (c.get_mut.follows.lender c.settle.new.self) (w.slot, w.generation)) c.args.worker
    c.settle.new.self (λ w. ((c.get_mut.follows.holds c.settle.new.self).3 (search rules)).0 (w.slot, w.generation)) (λ p. record p { waiting = without c.args.id p.waiting })
    (c.settle.ensures.rest ∙ ap (λ (p : PendingView). record p { waiting = without c.args.id p.waiting }) (ap read c.in-Some.ensures.value))

pub returns-in-Some-clause-lasts : goal.returns-in-Some-clause-lasts
returns-in-Some-clause-lasts c =
    ap (map last_entry) (c.get_mut.follows.holds c.settle.new.self).0
    ∙ lasts-stay (same_slot (c.args.worker.slot, c.args.worker.generation)) c.in-Some.pending.now c.settle.new.self c.args.self.now.pending.entries c.in-Some.ensures.value
    (ap (λ (p : PendingView). p.last) c.settle.ensures.rest)
