use Rattle.std.proofs.Common.{List, ℕ, map, ap, sym, subst, ◌∙◌}
use Rattle.std.proofs.lemmas.List.Sorted.{IsNonDecreasingBy-from_sort}
use Rattle.host_awaits.specs.Awaits.{settled_by, waiting_by}
use Rattle.host_awaits.specs.Keeping.{AreKept, watched}
use Rattle.host_awaits.specs.Settling.{AreReady}
use Rattle.host_awaits.specs.Watching.{looked_at}
use Rattle.host_awaits.proofs.KeepLemmas.{awaits-same, kept-at-rest, known-sorted, none-unless-touched, seen-at-rest, times-kept, times-same}
use Rattle.host_awaits.proofs.awaits.Awaits.settle.Goals as goal

pub look_at_each-requires : goal.look_at_each-requires
look_at_each-requires g c =
    let inside = c.self.inside in
    let sorted = c.sort_unstable.new.self.items in
    subst (λ (l : List ℕ). AreReady inside.names inside.waiting.entries l) (sym c.as_slice.ensures.value)
    (record {
      rising = c.self.invariant.rising;
      in_order = IsNonDecreasingBy-from_sort (λ (n : ℕ). n) sorted c.sort_unstable.ensures.sorted;
      known = known-sorted inside.names inside.touched.items sorted c.sort_unstable.ensures.permutation inside.waiting.entries c.self.invariant.known;
    })

pub invariant_of-self : goal.invariant_of-self
invariant_of-self g c =
    let inside = c.self.inside in
    let names = c.look_at_each.new.names in
    let es = c.look_at_each.new.waiting.entries in
    subst (λ (l : List ℕ). AreKept inside.next es names l) c.as_slice.ensures.value
    (record {
      rising = c.look_at_each.ensures.rising;
      below = c.look_at_each.ensures.below inside.next c.self.invariant.below;
      known = c.in_err-settled.ensures.err;
    })

pub invariant_of-self-2 : goal.invariant_of-self-2
invariant_of-self-2 g c =
    let inside = c.self.inside in
    kept-at-rest inside.next c.look_at_each.new.names c.look_at_each.new.waiting.entries c.clear.new.self.items c.look_at_each.ensures.rising
    (c.look_at_each.ensures.below inside.next c.self.invariant.below) c.in_ok-settled.ensures.at_rest

pub returns-clause-settled : goal.returns-clause-settled
returns-clause-settled g c = λ yet.
    let inside = c.self.inside in
    let hopeless = g.S.Standing.hopeless c.args.standing.now in
    let times = times-same inside.names (map (watched inside.names) inside.waiting.entries) c.args.self.now c.self.view_is in
    let awaits = awaits-same inside.names inside.waiting.entries c.args.self.now c.self.view_is in
    let none = none-unless-touched hopeless inside.names inside.waiting.entries c.args.self.now c.self.view_is yet in
    c.in_ok-settled.ensures.settled none ∙ (λ i. settled_by (times i) hopeless (awaits i))

pub returns-clause-waiting : goal.returns-clause-waiting
returns-clause-waiting g c = λ yet.
    let inside = c.self.inside in
    let hopeless = g.S.Standing.hopeless c.args.standing.now in
    let times = times-same inside.names (map (watched inside.names) inside.waiting.entries) c.args.self.now c.self.view_is in
    let awaits = awaits-same inside.names inside.waiting.entries c.args.self.now c.self.view_is in
    let none = none-unless-touched hopeless inside.names inside.waiting.entries c.args.self.now c.self.view_is yet in
    seen-at-rest c.look_at_each.new.names c.look_at_each.new.waiting.entries c.in_ok-settled.ensures.at_rest
    ∙ ap (map looked_at) (c.in_ok-settled.ensures.waiting none ∙ (λ i. waiting_by (times i) hopeless (awaits i)))

pub returns-clause-times : goal.returns-clause-times
returns-clause-times g c =
    let inside = c.self.inside in
    times-kept inside.names c.look_at_each.new.names (map (watched inside.names) inside.waiting.entries) (map (watched c.look_at_each.new.names) c.look_at_each.new.waiting.entries)
    c.args.self.now c.self.view_is c.look_at_each.ensures.noted
