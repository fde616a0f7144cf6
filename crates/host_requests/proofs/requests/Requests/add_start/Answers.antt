use Rattle.std.proofs.Common.{◌≡◌, ◌+◌, refl, rules}
use Rattle.pending_calls.specs.declared.waiting.Owner.TheVariants as owners
use Rattle.host_requests.specs.declared.request.Via.TheVariants as vias
use Rattle.host_requests.proofs.RequestLemmas.{kept-started, next-start}
use Rattle.host_requests.proofs.TieLemmas.{tied-start}
use Rattle.host_requests.proofs.requests.Requests.add_start.Goals as goal

pub add-requires : goal.add-requires
add-requires g c = next-start c.self.inside.next c.self.inside.filed c.self.inside.channels c.self.invariant

pub invariant_of-self-2 : goal.invariant_of-self-2
invariant_of-self-2 g c =
    let up : c.in-Some.next ≡ c.self.inside.next + 1 = search rules in
    kept-started c.self.inside.next c.in-Some.next (record { via = vias.Start; owner = owners.Call c.args.call; under = c.args.under; due = c.args.due }) c.self.inside.filed c.add.new.self
    c.self.inside.channels up c.in_ok-add.ensures.ok refl
    (tied-start c.self.inside.next (record { via = vias.Start; owner = owners.Call c.args.call; under = c.args.under; due = c.args.due }) c.self.inside.filed c.add.new.self c.self.inside.channels
    c.in_ok-add.ensures.ok refl c.self.invariant.tied)
    c.self.invariant
