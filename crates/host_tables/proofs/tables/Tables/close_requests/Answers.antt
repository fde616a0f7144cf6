use Rattle.std.proofs.Common.{List, refl, sym, ap, ◌∙◌, subst}
use Rattle.std.specs.List.{filter}
use Rattle.std.proofs.lemmas.Result.{on_ok_weaker}
use Rattle.host_requests.specs.declared.request.Request.{Request}
use Rattle.host_requests.specs.Requests.{is_under}
use Rattle.host_model.specs.declared.due.Due.{Due}
use Rattle.object_tree.specs.declared.object.Object.{Object}
use Rattle.host_tables.specs.Kept.{AreUnderThere}
use Rattle.host_tables.specs.declared.tables.Tables.{Tables}
use Rattle.host_tables.proofs.Parts.{shown-same}
use Rattle.host_tables.proofs.Settling.{requests_closed-moves, there-under}
use Rattle.host_tables.proofs.ShownLemmas.{shown-then}
use Rattle.host_tables.proofs.tables.Tables.close_requests.Goals as goal

pub close_each_request-requires : goal.close_each_request-requires
close_each_request-requires c =
    subst (λ (l : List (Request Due)). AreUnderThere c.expect_none.new.self.tree l) (sym (c.as_slice-requests.ensures.value ∙ c.in_ok-taken.ensures.taken))
    (subst (λ (l : List Object). AreUnderThere l (filter (is_under c.args.fallen.now) c.args.self.now.requests.waiting)) (sym (ap (λ (t : Tables). t.tree) c.in_ok-expect_none.ensures.ok.others))
    (there-under c.args.self.now.tree c.args.fallen.now c.requires c.args.self.now.requests.waiting))

pub returns-in_err-taken-clause-shown : goal.returns-in_err-taken-clause-shown
returns-in_err-taken-clause-shown c = shown-same c.args.self.now _ refl refl

pub returns-in_err-expect_none-clause-shown : goal.returns-in_err-expect_none-clause-shown
returns-in_err-expect_none-clause-shown c =
    shown-then c.args.self.now (record c.args.self.now { requests = c.close_under.new.self }) c.expect_none.new.self (shown-same c.args.self.now _ refl refl) c.expect_none.ensures.shown

pub returns-clause-shown : goal.returns-clause-shown
returns-clause-shown c =
    shown-then c.args.self.now c.expect_none.new.self c.close_each_request.new.self
    (shown-then c.args.self.now (record c.args.self.now { requests = c.close_under.new.self }) c.expect_none.new.self (shown-same c.args.self.now _ refl refl) c.expect_none.ensures.shown)
    c.close_each_request.ensures.shown

pub returns-clause-ok : goal.returns-clause-ok
returns-clause-ok c =
    on_ok_weaker c.close_each_request.result
    (requests_closed-moves c.args.self.now c.expect_none.new.self c.close_each_request.new.self c.args.fallen.now c.close_under.new.self _ c.in_ok-taken.ensures.rest (c.as_slice-requests.ensures.value ∙ c.in_ok-taken.ensures.taken) c.in_ok-expect_none.ensures.ok)
    c.close_each_request.ensures.ok
