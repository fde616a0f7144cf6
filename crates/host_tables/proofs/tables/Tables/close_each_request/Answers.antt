use Rattle.std.proofs.Common.{◌≡◌, ◌+◌, ◌++◌, ◌∷◌, [], ℕ, List, IsTrue, is_some, take, take_all, refl, sym, ap, ◌∙◌, subst}
use Rattle.std.proofs.lemmas.List.{take_more}
use Rattle.object_tree.specs.declared.object.Object.{Object}
use Rattle.object_tree.specs.Objects.{numbered}
use Rattle.host_requests.specs.declared.request.Request.{Request}
use Rattle.host_model.specs.declared.due.Due.{Due}
use Rattle.host_model.specs.Falls.{all_closed}
use Rattle.host_tables.specs.Kept.{Moves}
use Rattle.host_tables.proofs.Settling.{closed-next, there-at}
use Rattle.host_tables.proofs.ShownLemmas.{shown-itself, shown-then}
use Rattle.host_tables.proofs.tables.Tables.close_each_request.Goals as goal

pub loop-request-init : goal.loop-request-init
loop-request-init c = record { closed = λ s k. k; tree = refl; shown = shown-itself c.args.self.now }

pub close_request-requires : goal.close_request-requires
close_request-requires c =
    subst (λ (l : List Object). IsTrue (is_some (numbered l c.request-item.result.under))) (sym c.loop-request.invariant.tree)
    (there-at c.args.self.now.tree c.args.requests.now c.loop-request.request-index c.request-item.result c.loop-request-test.true c.request-item.is c.requires)

pub loop-request-preserved : goal.loop-request-preserved
loop-request-preserved c =
    let i : ℕ = c.loop-request.request-index in
    let requests : List (Request Due) = c.args.requests.now in
    let r : Request Due = c.request-item.result in
    let front : take i requests ++ r ∷ [] ≡ take (i + 1) requests =
    ap (λ (x : Request Due). take i requests ++ x ∷ []) c.request-item.is ∙ sym (take_more requests i r c.loop-request-test.true) in
    record {
      closed =
          subst (λ (l : List (Request Due)). Moves (all_closed l) c.args.self.now c.close_request.new.self) front
          (closed-next (take i requests) r c.args.self.now c.loop-request.self c.close_request.new.self c.loop-request.invariant.closed c.in_ok-close_request.ensures.ok);
      tree = c.close_request.ensures.tree ∙ c.loop-request.invariant.tree;
      shown = shown-then c.args.self.now c.loop-request.self c.close_request.new.self c.loop-request.invariant.shown c.close_request.ensures.shown;
    }

pub returns-in_err-close_request-clause-shown : goal.returns-in_err-close_request-clause-shown
returns-in_err-close_request-clause-shown c = shown-then c.args.self.now c.loop-request.self c.close_request.new.self c.loop-request.invariant.shown c.close_request.ensures.shown

pub returns-clause-ok : goal.returns-clause-ok
returns-clause-ok c =
    subst (λ (l : List (Request Due)). Moves (all_closed l) c.args.self.now c.loop-request.self) (take_all c.loop-request.request-index c.args.requests.now c.loop-request-test.false)
    c.loop-request.invariant.closed
