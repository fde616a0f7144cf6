use Rattle.std.proofs.Common.{◌≡◌, ◌<◌, ◌+◌, ℕ, cond, refl, ap, map, ◌∙◌, rules}
use Rattle.host_notes.specs.Keys.{same_worker}
use Rattle.host_requests.specs.declared.request.Via.TheVariants as vias
use Rattle.host_requests.specs.Kept.{last_entry}
use Rattle.host_requests.specs.Requests.{RequestsView, last_on}
use Rattle.host_requests.proofs.RequestLemmas.{is-spent, kept-issued, kept-same, last-after, last-seen, next-answer, not-spent, restored, spent-seen, view-same}
use Rattle.host_requests.proofs.TieLemmas.{pending-same, tied-issued, tied-same}
use Rattle.host_requests.proofs.requests.Requests.issue.Goals as goal

pub returns-in_default-clause-spent : goal.returns-in_default-clause-spent
returns-in_default-clause-spent g c =
    let full : c.last-last.result ≡ 4294967295 = search rules in
    is-spent c.last-last.result _ (c.last-last.ensures ∙ last-seen c.self.inside.filed c.self.inside.channels c.args.self.now c.args.worker c.self.view_is) full

pub returns-in_default-checked_add-clause-spent : goal.returns-in_default-checked_add-clause-spent
returns-in_default-checked_add-clause-spent g c =
    let less : c.last-last.result < 4294967295 = search rules in
    not-spent c.last-last.result _ (c.last-last.ensures ∙ last-seen c.self.inside.filed c.self.inside.channels c.args.self.now c.args.worker c.self.view_is) less

pub returns-in_default-add-clause-spent : goal.returns-in_default-add-clause-spent
returns-in_default-add-clause-spent g c =
    let less : c.last-last.result < 4294967295 = search rules in
    not-spent c.last-last.result _ (c.last-last.ensures ∙ last-seen c.self.inside.filed c.self.inside.channels c.args.self.now c.args.worker c.self.view_is) less

pub add-requires : goal.add-requires
add-requires g c =
    let next : c.in-Some.id ≡ c.last-last.result + 1 = search rules in
    next-answer c.args.worker c.in-Some.id c.self.inside.channels (next ∙ ap (λ (n : ℕ). n + 1) c.last-last.ensures) c.self.inside.next c.self.inside.filed c.self.invariant

pub invariant_of-self-in-Ok-issue : goal.invariant_of-self-in-Ok-issue
invariant_of-self-in-Ok-issue g c =
    let next : c.in-Some.id ≡ c.last-last.result + 1 = search rules in
    let up : c.in-Some-checked_add.next ≡ c.self.inside.next + 1 = search rules in
    kept-issued c.args.worker c.in-Some.id c.self.inside.channels (next ∙ ap (λ (n : ℕ). n + 1) c.last-last.ensures) c.issue.new.self c.args.owner c.args.under c.in-Ok-issue.ensures.ok c.self.inside.next
    c.in-Some-checked_add.next (record { via = vias.Channel c.args.worker c.in-Some.id; owner = c.args.owner; under = c.args.under; due = c.args.due }) c.self.inside.filed c.add.new.self up
    c.in-Ok.ensures.ok refl
    (tied-issued c.args.worker c.in-Some.id c.self.inside.channels c.issue.new.self (next ∙ ap (λ (n : ℕ). n + 1) c.last-last.ensures) c.args.owner c.args.under c.in-Ok-issue.ensures.ok
    c.self.inside.next c.args.due c.self.inside.filed c.add.new.self c.in-Ok.ensures.ok c.self.invariant.tied)
    c.self.invariant

pub returns-in-Ok-issue-clause-id : goal.returns-in-Ok-issue-clause-id
returns-in-Ok-issue-clause-id g c =
    c.in-Ok-issue.ensures.id ∙ ap (λ (n : ℕ). n + 1) (last-seen c.self.inside.filed c.self.inside.channels c.args.self.now c.args.worker c.self.view_is)

pub returns-in-Ok-issue-clause-lasts : goal.returns-in-Ok-issue-clause-lasts
returns-in-Ok-issue-clause-lasts g c = λ w.
    let next : c.in-Some.id ≡ c.last-last.result + 1 = search rules in
    last-after c.args.worker c.in-Some.id c.self.inside.channels (next ∙ ap (λ (n : ℕ). n + 1) c.last-last.ensures) c.issue.new.self c.args.owner c.args.under c.in-Ok-issue.ensures.ok w
    ∙ ap (λ (v : RequestsView g.row.D.Denot). cond (same_worker c.args.worker w) (last_on v w + 1) (last_on v w)) c.self.view_is

pub returns-in-Ok-issue-clause-spent : goal.returns-in-Ok-issue-clause-spent
returns-in-Ok-issue-clause-spent g c = spent-seen _ _ (last-seen c.self.inside.filed c.self.inside.channels c.args.self.now c.args.worker c.self.view_is) c.in-Ok-issue.ensures.spent

pub invariant_of-self-in-Err : goal.invariant_of-self-in-Err
invariant_of-self-in-Err g c =
    kept-same c.self.inside.filed c.take.new.self c.self.inside.channels c.issue.new.self c.self.inside.next
    (restored c.self.inside.next (record { via = vias.Channel c.args.worker c.in-Some.id; owner = c.args.owner; under = c.args.under; due = c.args.due }) c.self.inside.filed c.add.new.self c.take.new.self
    c.self.invariant.below c.in-Ok.ensures.ok c.take.ensures.rest)
    (ap (map last_entry) c.in-Err.ensures.err) (λ h.
    tied-same c.self.inside.filed c.take.new.self c.self.inside.channels c.issue.new.self
    (restored c.self.inside.next (record { via = vias.Channel c.args.worker c.in-Some.id; owner = c.args.owner; under = c.args.under; due = c.args.due }) c.self.inside.filed c.add.new.self c.take.new.self
    c.self.invariant.below c.in-Ok.ensures.ok c.take.ensures.rest)
    (pending-same c.self.inside.channels c.issue.new.self c.in-Err.ensures.err) h)
    c.self.invariant

pub returns-in-Err-clause-spent : goal.returns-in-Err-clause-spent
returns-in-Err-clause-spent g c = spent-seen _ _ (last-seen c.self.inside.filed c.self.inside.channels c.args.self.now c.args.worker c.self.view_is) c.in-Err.ensures.spent

pub returns-in-Err-clause-err : goal.returns-in-Err-clause-err
returns-in-Err-clause-err g c =
    view-same c.self.inside.filed c.take.new.self c.self.inside.channels c.issue.new.self c.args.self.now c.self.view_is
    (restored c.self.inside.next (record { via = vias.Channel c.args.worker c.in-Some.id; owner = c.args.owner; under = c.args.under; due = c.args.due }) c.self.inside.filed c.add.new.self c.take.new.self
    c.self.invariant.below c.in-Ok.ensures.ok c.take.ensures.rest)
    (ap (map last_entry) c.in-Err.ensures.err)
