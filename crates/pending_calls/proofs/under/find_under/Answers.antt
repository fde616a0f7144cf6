use Rattle.std.proofs.Common.{ap, ◌∙◌}
use Rattle.std.proofs.lemmas.List.Folds.{list_any_more}
use Rattle.std.specs.BTreeMap.{get}
use Rattle.std.specs.Ordering.{nat_cmp}
use Rattle.pending_calls.specs.Pending.{same_serial}
use Rattle.pending_calls.specs.Kept.{passing_or}
use Rattle.pending_calls.proofs.UnderLemmas.{passing-more}
use Rattle.pending_calls.proofs.under.find_under.Goals as goal

pub loop-object-preserved : goal.loop-object-preserved
loop-object-preserved c = λ id.
    c.in_ok-add_under.ensures id
    ∙ ap (passing_or (λ w. same_serial _ w.under) (get nat_cmp c.args.waiting.now id)) (c.loop-object.invariant id)
    ∙ passing-more _ _ _ (λ w. list_any_more (λ o. same_serial o w.under) c.args.objects.now c.loop-object.object-index (record { 0 = 0 }) c.loop-object-test.true) (get nat_cmp c.args.waiting.now id)
