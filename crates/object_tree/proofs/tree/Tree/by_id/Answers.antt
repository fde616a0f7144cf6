use Rattle.std.proofs.Common.{◌≡◌, Some, None, option_copied, cond, ap, sym, ◌∙◌, rules}
use Rattle.std.specs.Map.{values_of}
use Rattle.object_tree.specs.declared.object.Object.{Object}
use Rattle.object_tree.specs.Objects.{numbered}
use Rattle.object_tree.proofs.EntryLemmas.{as_serial, lookup-numbered}
use Rattle.object_tree.proofs.IndexLemmas.{by-id, checked, is_open_with, looked_up}
use Rattle.object_tree.proofs.tree.Tree.by_id.Goals as goal

pub returns-in_err-serial : goal.returns-in_err-serial
returns-in_err-serial c =
    let inside = c.self.inside in
    let test = is_open_with c.args.worker c.args.kind c.args.id in
    let all = by-id inside.objects.entries inside.names inside.ids inside.children inside.ends c.self.invariant c.args.worker c.args.kind c.args.id c.requires c.args.self.now c.self.view_is in
    let none : option_copied c.from_residual.result ≡ None = search rules in
    none ∙ sym (all ∙ ap (looked_up test (values_of inside.objects.entries)) (sym c.get.ensures ∙ c.in_err-serial.was))

pub returns-in_err-object : goal.returns-in_err-object
returns-in_err-object c =
    let inside = c.self.inside in
    let es = inside.objects.entries in
    let serial = c.in_ok-serial.serial in
    let test = is_open_with c.args.worker c.args.kind c.args.id in
    let all = by-id es inside.names inside.ids inside.children inside.ends c.self.invariant c.args.worker c.args.kind c.args.id c.requires c.args.self.now c.self.view_is in
    let none : option_copied c.from_residual-in_err-object.result ≡ None = search rules in
    let there : numbered (values_of es) (as_serial serial) ≡ None = sym (lookup-numbered serial es c.self.invariant.keyed) ∙ sym c.in_err-object.ensures.value in
    none ∙ sym (all ∙ (ap (looked_up test (values_of es)) (sym c.get.ensures ∙ c.in_ok-serial.was) ∙ ap (checked test) there))

pub returns-then-is_open_with : goal.returns-then-is_open_with
returns-then-is_open_with c =
    let inside = c.self.inside in
    let es = inside.objects.entries in
    let serial = c.in_ok-serial.serial in
    let o : Object = c.in_ok-object.object.now in
    let test = is_open_with c.args.worker c.args.kind c.args.id in
    let all = by-id es inside.names inside.ids inside.children inside.ends c.self.invariant c.args.worker c.args.kind c.args.id c.requires c.args.self.now c.self.view_is in
    let there : numbered (values_of es) (as_serial serial) ≡ Some o = sym (lookup-numbered serial es c.self.invariant.keyed) ∙ sym c.in_ok-object.ensures.value in
    sym
    (all
    ∙ (ap (looked_up test (values_of es)) (sym c.get.ensures ∙ c.in_ok-serial.was)
    ∙ (ap (checked test) there ∙ ap (λ b. cond b (Some o) None) (sym c.is_open_with.ensures ∙ c.if-is_open_with.true))))

pub returns-else-is_open_with : goal.returns-else-is_open_with
returns-else-is_open_with c =
    let inside = c.self.inside in
    let es = inside.objects.entries in
    let serial = c.in_ok-serial.serial in
    let o : Object = c.in_ok-object.object.now in
    let test = is_open_with c.args.worker c.args.kind c.args.id in
    let all = by-id es inside.names inside.ids inside.children inside.ends c.self.invariant c.args.worker c.args.kind c.args.id c.requires c.args.self.now c.self.view_is in
    let there : numbered (values_of es) (as_serial serial) ≡ Some o = sym (lookup-numbered serial es c.self.invariant.keyed) ∙ sym c.in_ok-object.ensures.value in
    sym
    (all
    ∙ (ap (looked_up test (values_of es)) (sym c.get.ensures ∙ c.in_ok-serial.was)
    ∙ (ap (checked test) there ∙ ap (λ b. cond b (Some o) None) (sym c.is_open_with.ensures ∙ c.if-is_open_with.false))))
