use Rattle.simple_consumer.proofs.Emitted.{goes-on, flags-add-nothing}
use Rattle.simple_consumer.proofs.laws.each_pass_goes_on.Goals as goal

pub returns-clause-pass : goal.returns-clause-pass
returns-clause-pass c = goes-on c.lower_laws.ensures

pub returns-clause-flags : goal.returns-clause-flags
returns-clause-flags c = flags-add-nothing c.lower_laws.ensures
