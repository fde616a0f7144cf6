use Rattle.std.proofs.Common.{sym, ◌∙◌}
use Rattle.pending_calls.proofs.KeptLemmas.{are-kept-removed, found-settled, view-settled}
use Rattle.pending_calls.proofs.ListedLemmas.{listed-fewer, listed-less}
use Rattle.pending_calls.proofs.pending.Pending.settle.Goals as goal

pub invariant_of-self : goal.invariant_of-self
invariant_of-self c = record {
  by_id =
      are-kept-removed c.self.inside.last _ c.self.inside.waiting.entries c.remove.new.self.entries c.remove.ensures.entries c.remove.ensures.ordered c.self.invariant.by_id;
  by_object = listed-fewer c.self.inside.waiting c.remove.new.self c.self.inside.listed c.args.id c.remove.ensures.updates.0 c.self.invariant.by_object;
}

pub invariant_of-self-2 : goal.invariant_of-self-2
invariant_of-self-2 c = record {
  by_id =
      are-kept-removed c.self.inside.last _ c.self.inside.waiting.entries c.remove.new.self.entries c.remove.ensures.entries c.remove.ensures.ordered c.self.invariant.by_id;
  by_object =
      listed-less c.remove.new.self c.self.inside.listed c.remove-2.new.self c.in_ok-settled.settled.under.0 c.args.id c.remove.ensures.updates.1 c.remove-2.ensures.updates.0
      (listed-fewer c.self.inside.waiting c.remove.new.self c.self.inside.listed c.args.id c.remove.ensures.updates.0 c.self.invariant.by_object);
}

pub returns-in_err-settled-clause-found : goal.returns-in_err-settled-clause-found
returns-in_err-settled-clause-found c =
    c.from_residual.ensures ∙ sym c.in_err-settled.was ∙ c.remove.ensures.value
    ∙ found-settled c.args.id c.self.inside.last c.self.inside.waiting.entries c.args.self.now c.self.view_is c.self.invariant.by_id

pub returns-in_err-settled-clause-rest : goal.returns-in_err-settled-clause-rest
returns-in_err-settled-clause-rest c =
    view-settled c.args.id c.self.inside.last c.self.inside.waiting.entries c.remove.new.self.entries c.args.self.now c.self.view_is c.remove.ensures.entries c.self.invariant.by_id

pub returns-clause-found : goal.returns-clause-found
returns-clause-found c =
    sym c.in_ok-settled.was ∙ c.remove.ensures.value
    ∙ found-settled c.args.id c.self.inside.last c.self.inside.waiting.entries c.args.self.now c.self.view_is c.self.invariant.by_id

pub returns-clause-rest : goal.returns-clause-rest
returns-clause-rest c =
    view-settled c.args.id c.self.inside.last c.self.inside.waiting.entries c.remove.new.self.entries c.args.self.now c.self.view_is c.remove.ensures.entries c.self.invariant.by_id
