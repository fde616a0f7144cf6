use Rattle.std.proofs.Common.{◌≡◌, ◌+◌, ℕ, List, map, cond, Option, Some, None, bytes_eq, refl, ap, subst, ◌∙◌, rules}
use Rattle.ms_base.specs.declared.keys.Event.{Event}
use Rattle.host_awaits.specs.Awaits.{event_of, is_event, is_named}
use Rattle.host_awaits.specs.Keeping.{watched}
use Rattle.host_awaits.specs.Watching.{Watched, Watching, times_in, touched_by}
use Rattle.host_awaits.proofs.KeepLemmas.{kept-same, kept-touched, seen-touched, seen-untouched, times-heard}
use Rattle.host_awaits.proofs.awaits.Awaits.hear.Goals as goal

pub returns-in_default-clause-waiting : goal.returns-in_default-clause-waiting
returns-in_default-clause-waiting c =
    let none : None ≡ event_of c.args.note.now = search rules in
    let waiting : List Watched = c.args.self.now.waiting in
    subst (λ (o : Option (List ℕ × Event)). waiting ≡ map (touched_by (λ name. is_named name o)) waiting) none (seen-untouched waiting)

pub returns-in_default-clause-times : goal.returns-in_default-clause-times
returns-in_default-clause-times c = λ name e.
    let none : None ≡ event_of c.args.note.now = search rules in
    ap (λ (o : Option (List ℕ × Event)). cond (is_event name e o) (times_in c.args.self.now name e + 1) (times_in c.args.self.now name e)) none

pub invariant_of-self : goal.invariant_of-self
invariant_of-self c =
    let inside = c.self.inside in
    kept-same inside.next inside.names c.hear.new.self inside.waiting.entries inside.waiting.entries inside.touched.items c.hear.new.touched.items refl c.in_err-hear.ensures.err
    c.in_err-hear.ensures.untouched c.self.invariant

pub invariant_of-self-2 : goal.invariant_of-self-2
invariant_of-self-2 c =
    let inside = c.self.inside in
    kept-touched inside.names c.hear.new.self c.in-Some.name.now c.in_ok-hear.ensures.resting inside.next inside.waiting.entries inside.touched.items c.hear.new.touched.items
    c.in_ok-hear.ensures.touched c.self.invariant

pub returns-clause-waiting : goal.returns-clause-waiting
returns-clause-waiting c =
    let inside = c.self.inside in
    let name = c.in-Some.name.now in
    let told : Some (name, c.in-Some.event) ≡ event_of c.args.note.now = search rules in
    let waiting : List Watched = c.args.self.now.waiting in
    subst (λ (o : Option (List ℕ × Event)). map (watched c.hear.new.self) inside.waiting.entries ≡ map (touched_by (λ n. is_named n o)) waiting) told
    (seen-touched inside.names c.hear.new.self name c.in_ok-hear.ensures.resting inside.waiting.entries
    ∙ ap (λ (w : Watching). map (touched_by (bytes_eq name)) w.waiting) c.self.view_is)

pub returns-clause-times : goal.returns-clause-times
returns-clause-times c =
    let inside = c.self.inside in
    let name = c.in-Some.name.now in
    let told : Some (name, c.in-Some.event) ≡ event_of c.args.note.now = search rules in
    times-heard inside.names c.hear.new.self (map (watched inside.names) inside.waiting.entries) (map (watched c.hear.new.self) inside.waiting.entries) c.args.self.now c.self.view_is name
    c.in-Some.event (event_of c.args.note.now) told c.in_ok-hear.ensures.noted
