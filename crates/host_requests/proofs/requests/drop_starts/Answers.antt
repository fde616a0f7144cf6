use Rattle.std.proofs.Common.{◌∙◌}
use Rattle.host_requests.specs.Requests.{is_start_of}
use Rattle.host_requests.proofs.RequestLemmas.{one-less, rest-dropped, rest-kept}
use Rattle.host_requests.proofs.requests.drop_starts.Goals as goal

pub loop-number-smaller-in-Some : goal.loop-number-smaller-in-Some
loop-number-smaller-in-Some g c = one-less (is_start_of c.args.worker) c.in-Some.number c.loop-number.filed c.take.new.filed c.in-Some.ensures.first c.first_start.ensures.in_order c.take.ensures.rest

pub loop-number-smaller : goal.loop-number-smaller
loop-number-smaller g c = one-less (is_start_of c.args.worker) c.in-Some.number c.loop-number.filed c.take.new.filed c.in-Some.ensures.first c.first_start.ensures.in_order c.take.ensures.rest

pub loop-number-preserved-in-Some : goal.loop-number-preserved-in-Some
loop-number-preserved-in-Some g c = record {
  rest = rest-dropped (is_start_of c.args.worker) c.in-Some.number c.loop-number.filed c.take.new.filed c.in-Some.ensures.first c.first_start.ensures.in_order c.take.ensures.rest ∙ c.loop-number.invariant.rest;
  tied = λ h. c.take.ensures.tied (c.loop-number.invariant.tied h);
  lasts = c.take.ensures.lasts ∙ c.loop-number.invariant.lasts;
}

pub loop-number-preserved : goal.loop-number-preserved
loop-number-preserved g c = record {
  rest = rest-dropped (is_start_of c.args.worker) c.in-Some.number c.loop-number.filed c.take.new.filed c.in-Some.ensures.first c.first_start.ensures.in_order c.take.ensures.rest ∙ c.loop-number.invariant.rest;
  tied = λ h. c.take.ensures.tied (c.loop-number.invariant.tied h);
  lasts = c.take.ensures.lasts ∙ c.loop-number.invariant.lasts;
}

pub returns-clause-rest : goal.returns-clause-rest
returns-clause-rest g c = rest-kept (is_start_of c.args.worker) c.loop-number.filed c.in_default.ensures.first ∙ c.loop-number.invariant.rest
