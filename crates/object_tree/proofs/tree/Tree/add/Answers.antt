use Rattle.std.proofs.Common.{nat_cmp, refl, ap, ◌∙◌}
use Rattle.std.specs.BTreeMap.{insert_entry}
use Rattle.std.specs.Map.{values_of}
use Rattle.object_tree.proofs.IndexLemmas.{entries-kept, entries-removed, indexed-added, indexed-kept, names-kept, seen-added}
use Rattle.object_tree.proofs.tree.Tree.add.Goals as goal

pub invariant_of-self : goal.invariant_of-self
invariant_of-self c =
    let inside = c.self.inside in
    indexed-kept c.args.object inside.ids c.file_id.new.ids inside.children inside.children inside.ends inside.ends c.file_id.ensures.stay (λ p s h. h) (λ a s h. h)
    inside.objects.entries inside.names c.args.self.now c.self.view_is c.requires.apart c.self.invariant

pub invariant_of-self-in_err-file_parent : goal.invariant_of-self-in_err-file_parent
invariant_of-self-in_err-file_parent c =
    let inside = c.self.inside in
    indexed-kept c.args.object inside.ids c.file_id.new.ids inside.children c.file_parent.new.children inside.ends inside.ends c.file_id.ensures.stay c.file_parent.ensures.stay
    (λ a s h. h) inside.objects.entries inside.names c.args.self.now c.self.view_is c.requires.apart c.self.invariant

pub invariant_of-self-in_err-file_end : goal.invariant_of-self-in_err-file_end
invariant_of-self-in_err-file_end c =
    let inside = c.self.inside in
    indexed-kept c.args.object inside.ids c.file_id.new.ids inside.children c.file_parent.new.children inside.ends c.file_end.new.ends c.file_id.ensures.stay
    c.file_parent.ensures.stay c.file_end.ensures.stay inside.objects.entries inside.names c.args.self.now c.self.view_is c.requires.apart c.self.invariant

pub invariant_of-self-in_err-name : goal.invariant_of-self-in_err-name
invariant_of-self-in_err-name c =
    let inside = c.self.inside in
    indexed-kept c.args.object inside.ids c.file_id.new.ids inside.children c.file_parent.new.children inside.ends c.file_end.new.ends c.file_id.ensures.stay
    c.file_parent.ensures.stay c.file_end.ensures.stay inside.objects.entries inside.names c.args.self.now c.self.view_is c.requires.apart c.self.invariant

pub invariant_of-self-in_err-object : goal.invariant_of-self-in_err-object
invariant_of-self-in_err-object c =
    let inside = c.self.inside in
    indexed-kept c.args.object inside.ids c.file_id.new.ids inside.children c.file_parent.new.children inside.ends c.file_end.new.ends c.file_id.ensures.stay
    c.file_parent.ensures.stay c.file_end.ensures.stay inside.objects.entries inside.names c.args.self.now c.self.view_is c.requires.apart c.self.invariant

pub invariant_of-self-in_err-insert : goal.invariant_of-self-in_err-insert
invariant_of-self-in_err-insert c =
    let inside = c.self.inside in
    entries-kept inside.objects.entries c.insert.new.self.entries inside.names c.file_id.new.ids c.file_parent.new.children c.file_end.new.ends c.in_err-insert.ensures.err
    (indexed-kept c.args.object inside.ids c.file_id.new.ids inside.children c.file_parent.new.children inside.ends c.file_end.new.ends c.file_id.ensures.stay
    c.file_parent.ensures.stay c.file_end.ensures.stay inside.objects.entries inside.names c.args.self.now c.self.view_is c.requires.apart c.self.invariant)

pub invariant_of-self-in-Ok : goal.invariant_of-self-in-Ok
invariant_of-self-in-Ok c =
    let inside = c.self.inside in
    let es = inside.objects.entries in
    let before =
    indexed-kept c.args.object inside.ids c.file_id.new.ids inside.children c.file_parent.new.children inside.ends c.file_end.new.ends c.file_id.ensures.stay
    c.file_parent.ensures.stay c.file_end.ensures.stay es inside.names c.args.self.now c.self.view_is c.requires.apart c.self.invariant
    in
    indexed-added c.args.object c.args.object.serial.0 refl es c.insert.new.self.entries inside.names c.file_id.new.ids c.file_parent.new.children c.file_end.new.ends before
    c.args.self.now c.self.view_is c.requires.fresh (c.in_ok-insert.ensures.entries ∙ ap (insert_entry nat_cmp inside.objects.entries c.args.object.serial.0) c.in_ok-object.ensures) c.raise.new.self c.in_ok-name.name.items (c.in_ok-name.ensures.items ∙ c.as_slice.ensures.value)
    c.in-Ok.ensures.ok c.in_ok-file_id.ensures.ok c.in_ok-file_parent.ensures.ok c.in_ok-file_end.ensures.ok

pub returns-in-Ok-clause-ok : goal.returns-in-Ok-clause-ok
returns-in-Ok-clause-ok c =
    let inside = c.self.inside in
    seen-added c.args.object c.args.object.serial.0 refl inside.objects.entries c.insert.new.self.entries inside.names inside.ids inside.children inside.ends c.self.invariant
    c.args.self.now c.self.view_is c.requires.fresh (c.in_ok-insert.ensures.entries ∙ ap (insert_entry nat_cmp inside.objects.entries c.args.object.serial.0) c.in_ok-object.ensures)

pub invariant_of-self-in-Err : goal.invariant_of-self-in-Err
invariant_of-self-in-Err c =
    let inside = c.self.inside in
    let es = inside.objects.entries in
    entries-kept es c.take_back.new.objects.entries c.raise.new.self c.file_id.new.ids c.file_parent.new.children c.file_end.new.ends
    (entries-removed c.args.object c.args.object.serial.0 refl es c.insert.new.self.entries inside.names inside.ids inside.children inside.ends c.self.invariant
    c.args.self.now c.self.view_is c.requires.fresh (c.in_ok-insert.ensures.entries ∙ ap (insert_entry nat_cmp inside.objects.entries c.args.object.serial.0) c.in_ok-object.ensures) c.take_back.new.objects.entries c.take_back.ensures)
    (names-kept es inside.names c.raise.new.self c.file_id.new.ids c.file_parent.new.children c.file_end.new.ends c.in-Err.ensures.err
    (indexed-kept c.args.object inside.ids c.file_id.new.ids inside.children c.file_parent.new.children inside.ends c.file_end.new.ends c.file_id.ensures.stay
    c.file_parent.ensures.stay c.file_end.ensures.stay es inside.names c.args.self.now c.self.view_is c.requires.apart c.self.invariant))

pub returns-in-Err-clause-err : goal.returns-in-Err-clause-err
returns-in-Err-clause-err c =
    let inside = c.self.inside in
    ap values_of
    (entries-removed c.args.object c.args.object.serial.0 refl inside.objects.entries c.insert.new.self.entries inside.names inside.ids inside.children inside.ends c.self.invariant
    c.args.self.now c.self.view_is c.requires.fresh (c.in_ok-insert.ensures.entries ∙ ap (insert_entry nat_cmp inside.objects.entries c.args.object.serial.0) c.in_ok-object.ensures) c.take_back.new.objects.entries c.take_back.ensures)
    ∙ c.self.view_is
