use Rattle.std.specs.Map.{values_of}
use Rattle.object_tree.proofs.FallLemmas.{are-found}
use Rattle.object_tree.proofs.tree.Tree.fallen.Goals as goal

pub fallen-requires-clause-found : goal.fallen-requires-clause-found
fallen-requires-clause-found c =
    let inside = c.self.inside in
    are-found (values_of inside.objects.entries) inside.ids inside.children inside.ends c.self.invariant.filed
