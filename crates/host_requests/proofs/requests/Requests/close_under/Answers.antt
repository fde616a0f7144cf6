use Rattle.std.proofs.Common.{◌≡◌, [], List, ap, filter, not, subst, ◌∙◌, rules}
use Rattle.host_requests.specs.declared.request.Request.{Request}
use Rattle.host_requests.specs.Kept.{IsTaken}
use Rattle.host_requests.specs.Requests.{RequestsView, is_under}
use Rattle.host_requests.proofs.RequestLemmas.{kept-filtered, taken-all, taken-rest, view-rest}
use Rattle.host_requests.proofs.requests.Requests.close_under.Goals as goal

pub invariant_of-self : goal.invariant_of-self
invariant_of-self g c =
    kept-filtered (λ r. not (is_under c.args.fallen.now r)) c.self.inside.filed c.take_each.new.filed c.self.inside.channels c.take_each.new.channels c.self.inside.next
    (c.take_each.ensures.taken (is_under c.args.fallen.now) c.in_ok-numbers.ensures.all).rest c.take_each.ensures.lasts c.take_each.ensures.tied c.self.invariant

pub returns-clause-taken : goal.returns-clause-taken
returns-clause-taken g c =
    let none : c.reserve.new.self.items ≡ [] = search rules in
    taken-all (is_under c.args.fallen.now) c.self.inside.filed c.take_each.new.filed c.take_each.new.taken.items
    (subst (λ (front : List (Request g.row.D.Denot)). IsTaken (is_under c.args.fallen.now) c.self.inside.filed c.take_each.new.filed front c.take_each.new.taken.items) none
    (c.take_each.ensures.taken (is_under c.args.fallen.now) c.in_ok-numbers.ensures.all))
    ∙ ap (λ (v : RequestsView g.row.D.Denot). filter (is_under c.args.fallen.now) v.waiting) c.self.view_is

pub returns-clause-rest : goal.returns-clause-rest
returns-clause-rest g c =
    let none : c.reserve.new.self.items ≡ [] = search rules in
    view-rest (is_under c.args.fallen.now) c.self.inside.filed c.take_each.new.filed c.self.inside.channels c.take_each.new.channels c.args.self.now c.self.view_is
    (taken-rest (is_under c.args.fallen.now) c.self.inside.filed c.take_each.new.filed c.take_each.new.taken.items
    (subst (λ (front : List (Request g.row.D.Denot)). IsTaken (is_under c.args.fallen.now) c.self.inside.filed c.take_each.new.filed front c.take_each.new.taken.items) none
    (c.take_each.ensures.taken (is_under c.args.fallen.now) c.in_ok-numbers.ensures.all)))
    c.take_each.ensures.lasts
