use Rattle.std.proofs.Common.{option_map, ap, ◌∙◌}
use Rattle.object_tree.specs.declared.object.Object.{Object}
use Rattle.object_tree.proofs.EntryLemmas.{lookup-numbered}
use Rattle.object_tree.proofs.close.kind_of.Goals as goal

pub returns-in-Some : goal.returns-in-Some
returns-in-Some c =
    ap (option_map (λ (o : Object). o.kind)) (c.in-Some.ensures.value ∙ lookup-numbered c.args.serial.0 c.args.objects.now.entries c.requires)

pub returns-in-None : goal.returns-in-None
returns-in-None c =
    ap (option_map (λ (o : Object). o.kind)) (c.in-None.ensures.value ∙ lookup-numbered c.args.serial.0 c.args.objects.now.entries c.requires)
