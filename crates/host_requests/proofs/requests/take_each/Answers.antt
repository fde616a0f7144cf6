use Rattle.std.proofs.Common.{ℕ, List, ap, refl, length, arith, ◌∙◌}
use Rattle.host_requests.proofs.RequestLemmas.{emptied, in-order-after, taking-done, taking-more}
use Rattle.host_requests.proofs.requests.take_each.Goals as goal

pub loop-number-init : goal.loop-number-init
loop-number-init g c = record {
  room = c.requires.room;
  in_order = c.requires.in_order;
  tied = λ h. h;
  lasts = refl;
  taken = λ p h. record { left = h; made = refl; rest = refl };
}

pub take_into-requires : goal.take_into-requires
take_into-requires g c = let split = ap (λ (ks : List ℕ). length ks) c.in-Some.ensures.removal in omega (arith, c.loop-number.invariant.room)

pub loop-number-smaller : goal.loop-number-smaller
loop-number-smaller g c = let split = ap (λ (ks : List ℕ). length ks) c.in-Some.ensures.removal in omega arith

pub loop-number-preserved : goal.loop-number-preserved
loop-number-preserved g c = record {
  room = let split = ap (λ (ks : List ℕ). length ks) c.in-Some.ensures.removal in omega (arith, c.loop-number.invariant.room);
  in_order = in-order-after c.in-Some.number c.loop-number.filed c.take_into.new.filed c.take_into.ensures.rest c.loop-number.invariant.in_order;
  tied = λ h. c.take_into.ensures.tied (c.loop-number.invariant.tied h);
  lasts = c.take_into.ensures.lasts ∙ c.loop-number.invariant.lasts;
  taken = λ p h.
      taking-more p c.args.filed.now c.loop-number.filed c.take_into.new.filed c.args.taken.now.items c.loop-number.taken.items c.take_into.new.taken.items c.loop-number.numbers.keys
      c.pop_first.new.self.keys c.in-Some.number c.in-Some.ensures.removal c.loop-number.invariant.in_order c.take_into.ensures.rest c.take_into.ensures.taken
      (c.loop-number.invariant.taken p h);
}

pub returns-clause-taken : goal.returns-clause-taken
returns-clause-taken g c = λ p h.
    taking-done p c.args.filed.now c.loop-number.filed c.args.taken.now.items c.loop-number.taken.items c.loop-number.numbers.keys
    (emptied c.loop-number.numbers.keys c.in_default.ensures.variant.1) (c.loop-number.invariant.taken p h)
