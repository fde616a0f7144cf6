use Rattle.std.proofs.Common.{◌≡◌, true, false, sym, ap, ◌∙◌}
use Rattle.object_tree.specs.declared.object.Object.{Object}
use Rattle.object_tree.specs.Tables.{has_end, may_be_linked}
use Rattle.object_tree.proofs.ChangeLemmas.{none-there, numbered-at, other-there}
use Rattle.object_tree.proofs.filing.turn_end.Goals as goal

pub returns-in_default-object_at-clause-here : goal.returns-in_default-object_at-clause-here
returns-in_default-object_at-clause-here c = λ o e linked.
    absurd (none-there c.args.serial c.args.objects.now.entries o c.requires.keyed c.in_default-object_at.ensures.value e)

pub turn-requires : goal.turn-requires
turn-requires c =
    let o : Object = c.in-Some.object.now in
    ap (λ n. has_end c.args.ends.now n c.args.serial.0) c.end_at.ensures
    ∙ c.requires.there o (numbered-at c.args.serial c.args.objects.now.entries o c.requires.keyed c.in-Some.ensures.value) (sym c.may_be_linked.ensures ∙ c.if-may_be_linked.true)

pub returns-else-may_be_linked-clause-here : goal.returns-else-may_be_linked-clause-here
returns-else-may_be_linked-clause-here c = λ o e linked.
    let same = other-there c.args.serial c.args.objects.now.entries o c.in-Some.object.now c.requires.keyed c.in-Some.ensures.value e in
    absurd
    (let clash : true ≡ false = sym linked ∙ (ap (λ (x : Object). may_be_linked x.kind) same ∙ (sym c.may_be_linked.ensures ∙ c.if-may_be_linked.false)) in cc)
