use Rattle.std.proofs.Common.{arith}
use Rattle.std.proofs.lemmas.Grind.{common_steps}
use Rattle.script_text.proofs.Rests.{rest_of, rest_of_making, rest_of_telling, rest_of_turning}
use Rattle.script_text.proofs.write.push_args.Goals as goal

pub returns-in_ok-push_word-in-Worker-clause-ok : goal.returns-in_ok-push_word-in-Worker-clause-ok
returns-in_ok-push_word-in-Worker-clause-ok c = rw (rest_of _ _ c.in-Worker.is) (grind (arith, common_steps))

pub returns-in-Direct-clause-ok : goal.returns-in-Direct-clause-ok
returns-in-Direct-clause-ok c = rw (rest_of _ _ c.in-Direct.is) (grind (arith, common_steps))

pub returns-in_ok-push_word-in-Consume-clause-ok : goal.returns-in_ok-push_word-in-Consume-clause-ok
returns-in_ok-push_word-in-Consume-clause-ok c = rw (rest_of _ _ c.in-Consume.is) (grind (arith, common_steps))

pub returns-in_ok-push_word-in-Send-clause-ok : goal.returns-in_ok-push_word-in-Send-clause-ok
returns-in_ok-push_word-in-Send-clause-ok c = rw (rest_of _ _ c.in-Send.is) (grind (arith, common_steps))

pub returns-in_ok-push_names-in-PipeRouter-clause-ok : goal.returns-in_ok-push_names-in-PipeRouter-clause-ok
returns-in_ok-push_names-in-PipeRouter-clause-ok c = rw (rest_of _ _ c.in-PipeRouter.is) (grind (arith, common_steps))

pub returns-in-Pause-clause-ok : goal.returns-in-Pause-clause-ok
returns-in-Pause-clause-ok c = rw (rest_of_turning _ _ c.in-Pause.is) (grind (arith, common_steps))

pub returns-in_ok-push_word-in-Connect-clause-ok : goal.returns-in_ok-push_word-in-Connect-clause-ok
returns-in_ok-push_word-in-Connect-clause-ok c = rw (rest_of_telling _ _ _ c.in-Connect.is) (grind (arith, common_steps))

pub returns-in_ok-push_names-in-Router-clause-ok : goal.returns-in_ok-push_names-in-Router-clause-ok
returns-in_ok-push_names-in-Router-clause-ok c = rw (rest_of_making _ _ _ _ c.in-Router.is) (grind (arith, common_steps))
