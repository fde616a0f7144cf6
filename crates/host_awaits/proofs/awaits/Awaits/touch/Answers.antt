use Rattle.std.proofs.Common.{map, bytes_eq, refl, ap, ◌∙◌}
use Rattle.host_awaits.specs.Keeping.{watched}
use Rattle.host_awaits.specs.Watching.{Watching, touched_by}
use Rattle.host_awaits.proofs.KeepLemmas.{kept-same, kept-touched, seen-touched, times-kept}
use Rattle.host_awaits.proofs.awaits.Awaits.touch.Goals as goal

pub invariant_of-self : goal.invariant_of-self
invariant_of-self c =
    let inside = c.self.inside in
    kept-same inside.next inside.names c.touch.new.self inside.waiting.entries inside.waiting.entries inside.touched.items c.touch.new.touched.items refl c.in_err-touch.ensures.err
    c.in_err-touch.ensures.untouched c.self.invariant

pub invariant_of-self-2 : goal.invariant_of-self-2
invariant_of-self-2 c =
    let inside = c.self.inside in
    kept-touched inside.names c.touch.new.self c.args.name.now c.in_ok-touch.ensures.resting inside.next inside.waiting.entries inside.touched.items c.touch.new.touched.items
    c.in_ok-touch.ensures.touched c.self.invariant

pub returns-clause-waiting : goal.returns-clause-waiting
returns-clause-waiting c =
    let inside = c.self.inside in
    seen-touched inside.names c.touch.new.self c.args.name.now c.in_ok-touch.ensures.resting inside.waiting.entries
    ∙ ap (λ (w : Watching). map (touched_by (bytes_eq c.args.name.now)) w.waiting) c.self.view_is

pub returns-clause-times : goal.returns-clause-times
returns-clause-times c =
    let inside = c.self.inside in
    times-kept inside.names c.touch.new.self (map (watched inside.names) inside.waiting.entries) (map (watched c.touch.new.self) inside.waiting.entries) c.args.self.now c.self.view_is
    c.touch.ensures.noted
