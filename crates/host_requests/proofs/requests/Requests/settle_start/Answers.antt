use Rattle.std.proofs.Common.{◌≡◌, None, ap, find, not, refl, sym, ◌∙◌, rules}
use Rattle.host_requests.specs.Places.{numbers_of}
use Rattle.host_requests.specs.Requests.{RequestsView, is_start_of}
use Rattle.host_requests.proofs.NumberLemmas.{none-first}
use Rattle.host_requests.proofs.RequestLemmas.{kept-filtered, kept-removed, settled-none, settled-start, view-rest}
use Rattle.host_requests.proofs.requests.Requests.settle_start.Goals as goal

pub returns-in_err-number-clause-found : goal.returns-in_err-number-clause-found
returns-in_err-number-clause-found g c =
    let none : c.from_residual.result ≡ None = search rules in
    none
    ∙ (settled-none (is_start_of c.args.under) c.self.inside.filed (none-first (numbers_of (is_start_of c.args.under) c.self.inside.filed) c.in_err-number.ensures.first)).found
    ∙ ap (λ (v : RequestsView g.row.D.Denot). find (is_start_of c.args.under) v.waiting) c.self.view_is

pub returns-in_err-number-clause-rest : goal.returns-in_err-number-clause-rest
returns-in_err-number-clause-rest g c =
    sym c.self.view_is
    ∙ view-rest (is_start_of c.args.under) c.self.inside.filed c.self.inside.filed c.self.inside.channels c.self.inside.channels c.args.self.now c.self.view_is
    (settled-none (is_start_of c.args.under) c.self.inside.filed (none-first (numbers_of (is_start_of c.args.under) c.self.inside.filed) c.in_err-number.ensures.first)).rest refl

pub invariant_of-self : goal.invariant_of-self
invariant_of-self g c =
    kept-filtered (λ r. not (is_start_of c.args.under r)) c.take-settled.new.filed c.drop_starts.new.filed c.take-settled.new.channels c.drop_starts.new.channels c.self.inside.next
    c.drop_starts.ensures.rest c.drop_starts.ensures.lasts c.drop_starts.ensures.tied
    (kept-removed c.in_ok-number.number c.self.inside.filed c.take-settled.new.filed c.self.inside.channels c.take-settled.new.channels c.self.inside.next c.take-settled.ensures.rest
    c.take-settled.ensures.lasts c.take-settled.ensures.tied c.self.invariant)

pub returns-clause-found : goal.returns-clause-found
returns-clause-found g c =
    (settled-start (is_start_of c.args.under) c.in_ok-number.number c.self.inside.filed c.take-settled.new.filed c.drop_starts.new.filed c.take-settled.result c.in_ok-number.ensures.first
    c.first_start.ensures.in_order c.take-settled.ensures.found c.take-settled.ensures.rest c.drop_starts.ensures.rest).found
    ∙ ap (λ (v : RequestsView g.row.D.Denot). find (is_start_of c.args.under) v.waiting) c.self.view_is

pub returns-clause-rest : goal.returns-clause-rest
returns-clause-rest g c =
    view-rest (is_start_of c.args.under) c.self.inside.filed c.drop_starts.new.filed c.self.inside.channels c.drop_starts.new.channels c.args.self.now c.self.view_is
    (settled-start (is_start_of c.args.under) c.in_ok-number.number c.self.inside.filed c.take-settled.new.filed c.drop_starts.new.filed c.take-settled.result c.in_ok-number.ensures.first
    c.first_start.ensures.in_order c.take-settled.ensures.found c.take-settled.ensures.rest c.drop_starts.ensures.rest).rest
    (c.drop_starts.ensures.lasts ∙ c.take-settled.ensures.lasts)
