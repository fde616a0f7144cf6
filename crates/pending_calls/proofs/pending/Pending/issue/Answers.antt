use Rattle.std.proofs.Common.{◌≡◌, ◌+◌, refl, sym, subst, rules}
use Rattle.pending_calls.specs.declared.waiting.Waiting.{Waiting}
use Rattle.pending_calls.specs.Kept.{AreKept}
use Rattle.pending_calls.proofs.KeptLemmas.{are-kept-issued, view-issued}
use Rattle.pending_calls.proofs.ListedLemmas.{listed-issued, listed-less, listed-more, if-ok, if-err, listed-as}
use Rattle.pending_calls.proofs.pending.Pending.issue.Goals as goal

pub invariant_of-self-2 : goal.invariant_of-self-2
invariant_of-self-2 c =
    let next : c.in-Some.id ≡ c.self.inside.last + 1 = search rules in
    let request : Waiting = record { id = c.in-Some.id; owner = c.args.owner; under = c.args.under } in record {
      by_id =
          are-kept-issued c.in-Some.id c.self.inside.last request c.self.inside.waiting.entries c.insert-2.new.self.entries next refl
          (if-ok c.insert-2.result c.if-is_err.ensures.value c.insert-2.ensures.entries) c.self.invariant.by_id c.insert-2.ensures.ordered;
      by_object =
          listed-issued c.self.inside.waiting c.insert-2.new.self c.insert.new.self request c.in-Some.id
          (if-ok c.insert-2.result c.if-is_err.ensures.value c.insert-2.ensures.updates).0 c.in_ok-insert.ensures.updates.1
          (listed-more c.self.inside.waiting c.self.inside.listed c.insert.new.self (c.args.under.0, c.in-Some.id) c.in_ok-insert.ensures.updates.0 c.self.invariant.by_object);
    }

pub invariant_of-self-then-is_err : goal.invariant_of-self-then-is_err
invariant_of-self-then-is_err c =
    let same = if-err c.insert-2.result c.if-is_err.ensures.value c.insert-2.ensures.err in
    let absent = if-err c.insert-2.result c.if-is_err.ensures.value c.insert-2.ensures.absent in record {
      by_id = subst (λ es. AreKept es c.self.inside.last) (sym same) c.self.invariant.by_id;
      by_object =
          listed-as c.self.inside.waiting c.insert-2.new.self c.remove.new.self same
          (listed-less c.self.inside.waiting c.insert.new.self c.remove.new.self c.args.under.0 c.in-Some.id absent c.remove.ensures.updates.0
          (listed-more c.self.inside.waiting c.self.inside.listed c.insert.new.self (c.args.under.0, c.in-Some.id) c.in_ok-insert.ensures.updates.0 c.self.invariant.by_object));
    }

pub returns-clause-ok : goal.returns-clause-ok
returns-clause-ok c =
    let next : c.in-Some.id ≡ c.self.inside.last + 1 = search rules in
    view-issued c.in-Some.id c.self.inside.last c.args.owner c.args.under c.self.inside.waiting.entries c.insert-2.new.self.entries c.args.self.now c.self.view_is next
    (if-ok c.insert-2.result c.if-is_err.ensures.value c.insert-2.ensures.entries) c.self.invariant.by_id
