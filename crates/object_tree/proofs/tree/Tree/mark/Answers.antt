use Rattle.std.proofs.Common.{refl}
use Rattle.std.specs.Map.{values_of}
use Rattle.object_tree.proofs.ChangeLemmas.{end-there, indexed-marked}
use Rattle.object_tree.proofs.tree.Tree.mark.Goals as goal

pub turn_end-requires-clause-there : goal.turn_end-requires-clause-there
turn_end-requires-clause-there c =
    let inside = c.self.inside in
    end-there c.args.serial inside.ids inside.children inside.ends (values_of inside.objects.entries) c.self.invariant.filed

pub invariant_of-self : goal.invariant_of-self
invariant_of-self c =
    let inside = c.self.inside in
    indexed-marked c.args.mark c.args.serial inside.ids inside.children inside.ends c.turn_end.new.ends (values_of inside.objects.entries) c.turn_end.ensures.here c.turn_end.ensures.stay
    inside.objects.entries c.set_mark.new.objects.entries inside.names refl c.set_mark.ensures.keyed c.set_mark.ensures.values c.self.invariant
