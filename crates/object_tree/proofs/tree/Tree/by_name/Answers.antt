use Rattle.std.proofs.Common.{ap, sym, ◌∙◌}
use Rattle.std.specs.Map.{values_of}
use Rattle.object_tree.specs.Objects.{named}
use Rattle.object_tree.specs.Tables.{serial_of}
use Rattle.object_tree.proofs.EntryLemmas.{lookup-numbered}
use Rattle.object_tree.proofs.NameLemmas.{named-at}
use Rattle.object_tree.proofs.tree.Tree.by_name.Goals as goal

pub returns : goal.returns
returns c =
    let es = c.self.inside.objects.entries in
    let serial = c.in_ok-serial.serial in
    c.object_at.ensures.value
    ∙ (lookup-numbered serial es c.self.invariant.keyed
    ∙ (named-at (values_of es) c.args.name.now serial c.self.invariant.rising
    (sym c.in_ok-serial.was ∙ (c.get.ensures ∙ (ap (serial_of c.self.inside.names) c.as_slice.ensures.value ∙ c.self.invariant.serials c.args.name.now)))
    ∙ ap (λ xs. named xs c.args.name.now) c.self.view_is))
