use Rattle.std.proofs.Common.{◌≡◌, ◌∙◌, filter, rules}
use Rattle.std.specs.BTreeMap.{get}
use Rattle.std.specs.BTreeMap.Range.{range_contains}
use Rattle.std.specs.Ordering.{nat_cmp}
use Rattle.std.specs.Range.{range_inclusive_start, range_inclusive_end}
use Rattle.std.specs.declared.ops.Bound.TheVariants.{Included}
use Rattle.pending_calls.proofs.ListedLemmas.{by_pair}
use Rattle.pending_calls.proofs.UnderLemmas.{filled-first}
use Rattle.pending_calls.proofs.under.add_under.Goals as goal

pub loop-pair-init : goal.loop-pair-init
loop-pair-init c =
    let from : range_inclusive_start c.new.result ≡ (c.args.object.0, 0) = search rules in
    let to : range_inclusive_end c.new.result ≡ (c.args.object.0, c.args.last) = search rules in
    filled-first c.args.object c.args.waiting.now c.args.listed.now c.args.last c.into_iter-pair-iterator.result c.requires
    (c.into_iter-pair-iterator.ensures.into_iter_gives ∙ c.range-pair-items.ensures.between (search rules)
    ∙ (λ i. filter (λ k. range_contains by_pair (Included (from i)) (Included (to i)) k) c.args.listed.now.keys))
    (get nat_cmp c.args.found.now)
