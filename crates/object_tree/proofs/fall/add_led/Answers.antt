use Rattle.std.proofs.Common.{Bool, ◌&&◌, sym, ◌∙◌}
use Rattle.std.proofs.lemmas.Result.{on_ok_weaker}
use Rattle.std.specs.Map.{values_of}
use Rattle.object_tree.specs.declared.object.Object.{Object}
use Rattle.object_tree.specs.Falls.{leads}
use Rattle.object_tree.specs.Objects.{is_open}
use Rattle.object_tree.proofs.EntryLemmas.{as_serial, lookup-numbered}
use Rattle.object_tree.proofs.FallLemmas.{fails-grows, none-grows, one-grows}
use Rattle.object_tree.proofs.fall.add_led.Goals as goal

pub returns-in_default : goal.returns-in_default
returns-in_default c =
    let es = c.args.objects.now.entries in
    let test : Object → Bool = λ y. is_open y && leads c.args.from.now y in
    none-grows (values_of es) (as_serial c.args.serial) test c.args.fall.now (sym (lookup-numbered c.args.serial es c.requires) ∙ sym c.in_default.ensures.value)

pub returns-then-is_led_by : goal.returns-then-is_led_by
returns-then-is_led_by c =
    let es = c.args.objects.now.entries in
    let test : Object → Bool = λ y. is_open y && leads c.args.from.now y in
    on_ok_weaker c.insert.result
    (λ h.
    one-grows (values_of es) (as_serial c.args.serial) test c.args.fall.now c.insert.new.self c.in-Some.object.now
    (sym (lookup-numbered c.args.serial es c.requires) ∙ sym c.in-Some.ensures.value) (sym c.is_led_by.ensures ∙ c.if-is_led_by.true) h)
    c.insert.ensures

pub returns-else-is_led_by : goal.returns-else-is_led_by
returns-else-is_led_by c =
    let es = c.args.objects.now.entries in
    let test : Object → Bool = λ y. is_open y && leads c.args.from.now y in
    fails-grows (values_of es) (as_serial c.args.serial) test c.args.fall.now c.in-Some.object.now
    (sym (lookup-numbered c.args.serial es c.requires) ∙ sym c.in-Some.ensures.value) (sym c.is_led_by.ensures ∙ c.if-is_led_by.false)
