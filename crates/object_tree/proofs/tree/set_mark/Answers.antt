use Rattle.std.proofs.Common.{ap, ◌∙◌}
use Rattle.std.specs.Map.{values_of}
use Rattle.object_tree.specs.Objects.{marked}
use Rattle.object_tree.proofs.ChangeLemmas.{keyed-changed, marked-serial, values-changed, values-none}
use Rattle.object_tree.proofs.tree.set_mark.Goals as goal

pub returns-in-Some-clause-keyed : goal.returns-in-Some-clause-keyed
returns-in-Some-clause-keyed c =
    keyed-changed (marked c.args.mark) (marked-serial c.args.mark) c.args.serial c.args.objects.now.entries (c.get_mut.follows.lender c.set.new.self).entries c.in-Some.object.now
    c.set.new.self c.requires.keyed c.requires.in_order c.in-Some.ensures.value (c.set.ensures ∙ ap (marked c.args.mark) c.deref_mut.ensures.shows) (c.get_mut.follows.holds c.set.new.self).0

pub returns-in-Some-clause-values : goal.returns-in-Some-clause-values
returns-in-Some-clause-values c =
    values-changed (marked c.args.mark) (marked-serial c.args.mark) c.args.serial c.args.objects.now.entries (c.get_mut.follows.lender c.set.new.self).entries c.in-Some.object.now
    c.set.new.self c.requires.keyed c.requires.in_order c.in-Some.ensures.value (c.set.ensures ∙ ap (marked c.args.mark) c.deref_mut.ensures.shows) (c.get_mut.follows.holds c.set.new.self).0

pub returns-in_default-clause-values : goal.returns-in_default-clause-values
returns-in_default-clause-values c =
    ap (λ m. values_of m.entries) c.get_mut.follows.holds-at-none ∙ values-none (marked c.args.mark) c.args.serial c.args.objects.now.entries c.requires.keyed c.in_default.ensures.value
