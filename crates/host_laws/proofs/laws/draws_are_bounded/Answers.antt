use Rattle.host_laws.proofs.DrawLemmas.{calls-few, drawn-few, trace-few}
use Rattle.host_laws.proofs.laws.draws_are_bounded.Goals as goal

pub returns-clause-steps : goal.returns-clause-steps
returns-clause-steps c = trace-few c.new_frames_take_a_byte_each.ensures

pub returns-clause-calls : goal.returns-clause-calls
returns-clause-calls c = calls-few c.calls_settle_once.ensures.entered

pub returns-clause-draws : goal.returns-clause-draws
returns-clause-draws c = λ j h. drawn-few c.calls_settle_once.ensures.entered j (c.hosts_are_sound.ensures.after j h).drawn
