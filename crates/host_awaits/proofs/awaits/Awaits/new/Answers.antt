use Rattle.std.proofs.Common.{map, ap, ◌∙◌}
use Rattle.host_awaits.specs.Keeping.{watched}
use Rattle.host_awaits.proofs.KeepLemmas.{kept-none, times-in}
use Rattle.host_awaits.proofs.awaits.Awaits.new.Goals as goal

pub invariant_of-result : goal.invariant_of-result
invariant_of-result c = kept-none c.new-names.result c.new-waiting.result.entries c.new.result.items c.new-waiting.ensures.empty c.new-names.ensures.resting

pub returns-clause-waiting : goal.returns-clause-waiting
returns-clause-waiting c = ap (map (watched c.new-names.result)) c.new-waiting.ensures.empty

pub returns-clause-times : goal.returns-clause-times
returns-clause-times c = λ name e.
    times-in c.new-names.result (map (watched c.new-names.result) c.new-waiting.result.entries) name e ∙ c.new-names.ensures.noted name e
