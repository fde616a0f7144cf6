use Rattle.std.proofs.Common.{◌≡◌, sym, ap, ◌∙◌}
use Rattle.std.specs.Map.{values_of}
use Rattle.object_tree.specs.declared.object.Object.{Object}
use Rattle.object_tree.specs.Falls.{closed_by, reason_of}
use Rattle.object_tree.specs.Tables.{close_open}
use Rattle.object_tree.proofs.ChangeLemmas.{close-serial, closes, keyed-changed, same-found, stays-closed, values-changed, values-none, values-one}
use Rattle.object_tree.proofs.close.close_one.Goals as goal

pub returns-in_default-clause-values : goal.returns-in_default-clause-values
returns-in_default-clause-values c =
    let xs = values_of c.args.objects.now.entries in
    values-none (close_open (reason_of xs c.args.fallen.now c.args.roots.now c.args.reason)) c.args.serial c.args.objects.now.entries c.requires.keyed c.in_default.ensures.value

pub returns-then-is_some-clause-values : goal.returns-then-is_some-clause-values
returns-then-is_some-clause-values c =
    let xs = values_of c.args.objects.now.entries in
    let r = reason_of xs c.args.fallen.now c.args.roots.now c.args.reason in
    let o : Object = c.in-Some.object.now in
    values-one (close_open r) c.args.serial c.args.objects.now.entries o c.requires.keyed c.requires.in_order c.in-Some.ensures.value
    (stays-closed r o (sym c.is_some.ensures ∙ c.if-is_some.true))

pub returns-in-Some-get_mut-clause-keyed : goal.returns-in-Some-get_mut-clause-keyed
returns-in-Some-get_mut-clause-keyed c =
    let es = c.args.objects.now.entries in
    let r = reason_of (values_of es) c.args.fallen.now c.args.roots.now c.args.reason in
    let o : Object = c.in-Some-get_mut.object.now in
    let lent : Object = c.deref_mut.result.now in
    let w : Object = closed_by c.reason_of-why.result lent in
    let was : lent ≡ c.in-Some.object.now = c.deref_mut.ensures.shows ∙ same-found o c.in-Some.object.now _ c.in-Some-get_mut.ensures.value c.in-Some.ensures.value in
    let is : w ≡ close_open r o = closes r c.reason_of-why.result lent c.in-Some.object.now was (sym c.is_some.ensures ∙ c.if-is_some.false) c.reason_of-why.ensures ∙ ap (close_open r) c.deref_mut.ensures.shows in
    keyed-changed (close_open r) (close-serial r) c.args.serial es (c.get_mut.follows.lender w).entries o w c.requires.keyed c.requires.in_order c.in-Some-get_mut.ensures.value is
    (c.get_mut.follows.holds w).0

pub returns-in-Some-get_mut-clause-values : goal.returns-in-Some-get_mut-clause-values
returns-in-Some-get_mut-clause-values c =
    let es = c.args.objects.now.entries in
    let r = reason_of (values_of es) c.args.fallen.now c.args.roots.now c.args.reason in
    let o : Object = c.in-Some-get_mut.object.now in
    let lent : Object = c.deref_mut.result.now in
    let w : Object = closed_by c.reason_of-why.result lent in
    let was : lent ≡ c.in-Some.object.now = c.deref_mut.ensures.shows ∙ same-found o c.in-Some.object.now _ c.in-Some-get_mut.ensures.value c.in-Some.ensures.value in
    let is : w ≡ close_open r o = closes r c.reason_of-why.result lent c.in-Some.object.now was (sym c.is_some.ensures ∙ c.if-is_some.false) c.reason_of-why.ensures ∙ ap (close_open r) c.deref_mut.ensures.shows in
    values-changed (close_open r) (close-serial r) c.args.serial es (c.get_mut.follows.lender w).entries o w c.requires.keyed c.requires.in_order c.in-Some-get_mut.ensures.value is
    (c.get_mut.follows.holds w).0
