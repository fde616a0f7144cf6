use Rattle.std.proofs.Common.{map, refl, ap}
use Rattle.host_awaits.specs.Keeping.{watched}
use Rattle.host_awaits.specs.Watching.{Watching}
use Rattle.host_awaits.proofs.KeepLemmas.{kept-added, kept-more, kept-same, seen-added, times-kept}
use Rattle.host_awaits.proofs.awaits.Awaits.add.Goals as goal

pub invariant_of-self : goal.invariant_of-self
invariant_of-self c =
    let inside = c.self.inside in
    kept-same inside.next inside.names inside.names inside.waiting.entries inside.waiting.entries inside.touched.items c.push.new.self.items refl (λ of. refl) c.in_err-push.ensures.items
    c.self.invariant

pub invariant_of-self-in_err-insert : goal.invariant_of-self-in_err-insert
invariant_of-self-in_err-insert c =
    let inside = c.self.inside in
    kept-more inside.next inside.names inside.waiting.entries c.insert.new.self.entries inside.touched.items c.push.new.self.items c.in_err-insert.ensures.err c.in_ok-push.ensures.items
    c.self.invariant

pub invariant_of-self-2 : goal.invariant_of-self-2
invariant_of-self-2 c =
    let inside = c.self.inside in
    kept-added inside.next c.in_ok-next.next inside.names c.args.awaited inside.waiting.entries c.insert.new.self.entries inside.touched.items c.push.new.self.items c.in_ok-next.ensures
    c.in_ok-insert.ensures.entries c.in_ok-push.ensures.items c.self.invariant

pub returns-clause-waiting : goal.returns-clause-waiting
returns-clause-waiting c =
    let inside = c.self.inside in
    seen-added inside.next inside.names c.args.awaited inside.waiting.entries c.insert.new.self.entries c.args.self.now.waiting c.self.invariant.below c.in_ok-insert.ensures.entries
    (ap (λ (w : Watching). w.waiting) c.self.view_is)

pub returns-clause-times : goal.returns-clause-times
returns-clause-times c =
    let inside = c.self.inside in
    times-kept inside.names inside.names (map (watched inside.names) inside.waiting.entries) (map (watched inside.names) c.insert.new.self.entries) c.args.self.now c.self.view_is
    (λ name e. refl)
