use Rattle.std.proofs.Common.{◌≡◌, ◌+◌, ◌++◌, ◌∷◌, [], ℕ, List, take, take_all, sym, ap, ◌∙◌, subst}
use Rattle.std.proofs.lemmas.List.{take_more}
use Rattle.host_requests.specs.declared.request.Request.{Request}
use Rattle.host_model.specs.declared.due.Due.{Due}
use Rattle.host_tables.specs.Kept.{ExpectsNone}
use Rattle.host_tables.proofs.Settling.{expects_none-first, expects_none-next}
use Rattle.host_tables.proofs.ShownLemmas.{shown-itself, shown-then}
use Rattle.host_tables.proofs.tables.Tables.expect_none.Goals as goal

pub loop-request-init : goal.loop-request-init
loop-request-init c = record { none = expects_none-first c.args.self.now; shown = shown-itself c.args.self.now }

pub loop-request-preserved : goal.loop-request-preserved
loop-request-preserved c =
    let i : ℕ = c.loop-request.request-index in
    let requests : List (Request Due) = c.args.requests.now in
    let r : Request Due = c.request-item.result in
    let front : take i requests ++ r ∷ [] ≡ take (i + 1) requests =
    ap (λ (x : Request Due). take i requests ++ x ∷ []) c.request-item.is ∙ sym (take_more requests i r c.loop-request-test.true) in
    record {
      none =
          subst (λ (l : List (Request Due)). ExpectsNone l c.args.self.now c.expect_no_more.new.self) front
          (expects_none-next (take i requests) r c.args.self.now c.loop-request.self c.expect_no_more.new.self c.loop-request.invariant.none c.in_ok-expect_no_more.ensures.ok);
      shown = shown-then c.args.self.now c.loop-request.self c.expect_no_more.new.self c.loop-request.invariant.shown c.expect_no_more.ensures.shown;
    }

pub returns-in_err-expect_no_more-clause-shown : goal.returns-in_err-expect_no_more-clause-shown
returns-in_err-expect_no_more-clause-shown c = shown-then c.args.self.now c.loop-request.self c.expect_no_more.new.self c.loop-request.invariant.shown c.expect_no_more.ensures.shown

pub returns-clause-ok : goal.returns-clause-ok
returns-clause-ok c =
    subst (λ (l : List (Request Due)). ExpectsNone l c.args.self.now c.loop-request.self) (take_all c.loop-request.request-index c.args.requests.now c.loop-request-test.false)
    c.loop-request.invariant.none
