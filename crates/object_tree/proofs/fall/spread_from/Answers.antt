use Rattle.std.proofs.Common.{List, ℕ, ◌&&◌, subst}
use Rattle.std.proofs.lemmas.Result.{on_ok_weaker}
use Rattle.std.specs.Map.{values_of}
use Rattle.object_tree.specs.Falls.{leads}
use Rattle.object_tree.specs.Objects.{is_open}
use Rattle.object_tree.specs.Spread.{Grows, at}
use Rattle.object_tree.specs.Tables.{is_listed}
use Rattle.object_tree.proofs.FallLemmas.{grows-three, of-serial}
use Rattle.object_tree.proofs.fall.spread_from.Goals as goal

pub returns : goal.returns
returns c =
    let find = at c.args.objects.now in
    let from = c.args.from.now in
    let one =
    subst (λ (zs : List ℕ). Grows find (λ y. is_open y && leads from y && is_listed zs y.serial.0) c.args.fall.now c.add_listed.new.fall) c.of.ensures c.in_ok-add_listed.ensures
    in
    on_ok_weaker c.add_ends.result
    (λ last.
    grows-three find c.args.children.now c.args.ends.now c.requires.found from c.of-2.result.now c.of-2.ensures (of-serial (values_of c.args.objects.now.entries))
    c.args.fall.now c.add_listed.new.fall c.add_far.new.fall c.add_ends.new.fall one c.in_ok-add_far.ensures last)
    c.add_ends.ensures
