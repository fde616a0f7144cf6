use Rattle.std.proofs.Common.{ap, ◌∙◌}
use Rattle.object_tree.specs.Objects.{numbered}
use Rattle.object_tree.proofs.EntryLemmas.{lookup-numbered}
use Rattle.object_tree.proofs.tree.Tree.get.Goals as goal

pub returns-clause-found : goal.returns-clause-found
returns-clause-found c =
    c.object_at.ensures.value ∙ (lookup-numbered c.args.serial.0 c.self.inside.objects.entries c.self.invariant.keyed ∙ ap (λ xs. numbered xs c.args.serial) c.self.view_is)
