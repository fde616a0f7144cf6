use Rattle.std.proofs.Common.{sym, ◌∙◌}
use Rattle.std.proofs.lemmas.Result.{on_ok_weaker}
use Rattle.std.specs.Map.{values_of}
use Rattle.object_tree.specs.Objects.{is_open}
use Rattle.object_tree.proofs.EntryLemmas.{lookup-numbered}
use Rattle.object_tree.proofs.FallLemmas.{fails-grows, none-grows, one-grows}
use Rattle.object_tree.proofs.fall.add_root.Goals as goal

pub returns-in_default : goal.returns-in_default
returns-in_default c =
    let es = c.args.objects.now.entries in
    none-grows (values_of es) c.args.serial is_open c.args.fall.now (sym (lookup-numbered c.args.serial.0 es c.requires) ∙ sym c.in_default.ensures.value)

pub returns-then-is_open : goal.returns-then-is_open
returns-then-is_open c =
    let es = c.args.objects.now.entries in
    on_ok_weaker c.insert.result
    (λ h.
    one-grows (values_of es) c.args.serial is_open c.args.fall.now c.insert.new.self c.in-Some.object.now
    (sym (lookup-numbered c.args.serial.0 es c.requires) ∙ sym c.in-Some.ensures.value) (sym c.is_open.ensures ∙ c.if-is_open.true) h)
    c.insert.ensures

pub returns-else-is_open : goal.returns-else-is_open
returns-else-is_open c =
    let es = c.args.objects.now.entries in
    fails-grows (values_of es) c.args.serial is_open c.args.fall.now c.in-Some.object.now
    (sym (lookup-numbered c.args.serial.0 es c.requires) ∙ sym c.in-Some.ensures.value) (sym c.is_open.ensures ∙ c.if-is_open.false)
