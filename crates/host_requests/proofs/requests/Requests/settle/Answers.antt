use Rattle.std.proofs.Common.{◌≡◌, None, ap, find, refl, sym, ◌∙◌, rules}
use Rattle.host_requests.specs.Requests.{RequestsView, is_on}
use Rattle.host_requests.proofs.RequestLemmas.{kept-removed, settled-none, settled-only, view-rest}
use Rattle.host_requests.proofs.requests.Requests.settle.Goals as goal

pub returns-in_err-number-clause-found : goal.returns-in_err-number-clause-found
returns-in_err-number-clause-found g c =
    let none : c.from_residual.result ≡ None = search rules in
    none
    ∙ (settled-none (is_on c.args.worker c.args.id) c.self.inside.filed c.in_err-number.ensures.only).found
    ∙ ap (λ (v : RequestsView g.row.D.Denot). find (is_on c.args.worker c.args.id) v.waiting) c.self.view_is

pub returns-in_err-number-clause-rest : goal.returns-in_err-number-clause-rest
returns-in_err-number-clause-rest g c =
    sym c.self.view_is
    ∙ view-rest (is_on c.args.worker c.args.id) c.self.inside.filed c.self.inside.filed c.self.inside.channels c.self.inside.channels c.args.self.now c.self.view_is
    (settled-none (is_on c.args.worker c.args.id) c.self.inside.filed c.in_err-number.ensures.only).rest refl

pub invariant_of-self : goal.invariant_of-self
invariant_of-self g c =
    kept-removed c.in_ok-number.number c.self.inside.filed c.take.new.filed c.self.inside.channels c.take.new.channels c.self.inside.next c.take.ensures.rest c.take.ensures.lasts
    c.take.ensures.tied c.self.invariant

pub returns-clause-found : goal.returns-clause-found
returns-clause-found g c =
    (settled-only (is_on c.args.worker c.args.id) c.in_ok-number.number c.self.inside.filed c.take.new.filed c.take.result c.in_ok-number.ensures.only c.number_on.ensures.in_order
    c.take.ensures.found c.take.ensures.rest).found
    ∙ ap (λ (v : RequestsView g.row.D.Denot). find (is_on c.args.worker c.args.id) v.waiting) c.self.view_is

pub returns-clause-rest : goal.returns-clause-rest
returns-clause-rest g c =
    view-rest (is_on c.args.worker c.args.id) c.self.inside.filed c.take.new.filed c.self.inside.channels c.take.new.channels c.args.self.now c.self.view_is
    (settled-only (is_on c.args.worker c.args.id) c.in_ok-number.number c.self.inside.filed c.take.new.filed c.take.result c.in_ok-number.ensures.only c.number_on.ensures.in_order
    c.take.ensures.found c.take.ensures.rest).rest
    c.take.ensures.lasts
