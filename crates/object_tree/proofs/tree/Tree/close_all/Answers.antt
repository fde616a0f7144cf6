use Rattle.std.specs.Map.{values_of}
use Rattle.object_tree.specs.Falls.{reason_of}
use Rattle.object_tree.proofs.ChangeLemmas.{indexed-closed}
use Rattle.object_tree.proofs.tree.Tree.close_all.Goals as goal

pub invariant_of-self : goal.invariant_of-self
invariant_of-self c =
    let inside = c.self.inside in
    let es = inside.objects.entries in
    indexed-closed inside.ids inside.children inside.ends (reason_of (values_of es) c.args.fallen.now c.args.roots.now c.args.reason) c.args.fallen.now
    es c.close_each.new.objects.entries inside.names c.close_each.ensures.keyed c.close_each.ensures.values c.self.invariant
