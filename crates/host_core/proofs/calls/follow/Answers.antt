use Rattle.std.proofs.Common.{subst}
use Rattle.std.proofs.lemmas.Result.{on_ok_weaker}
use Rattle.host_model.specs.Answer as model
use Rattle.host_core.specs.Answers.{IsAnswer}
use Rattle.host_core.specs.declared.answer.Course.{Course}
use Rattle.host_core.proofs.CallLemmas.{issued-moves, told-moves}
use Rattle.host_core.proofs.calls.follow.Goals as goal

pub returns-in_ok-issue-in-Issues-clause-ok : goal.returns-in_ok-issue-in-Issues-clause-ok
returns-in_ok-issue-in-Issues-clause-ok c = λ a is _.
    issued-moves c.args.tables.now c.draw.new.self c.args.call c.args.op.now c.issue.new.self c.in-Issues.channel c.in-Issues.under c.in-Issues.due c.in-Issues.next c.in-Issues.payload
    c.in_ok-issue-in-Issues.ensures.ok c.draw.ensures.ok a (subst (λ (x : Course). IsAnswer c.args.op.now x a) c.in-Issues.is is)

pub returns-in_ok-note-in-Sends-clause-ok : goal.returns-in_ok-note-in-Sends-clause-ok
returns-in_ok-note-in-Sends-clause-ok c =
    on_ok_weaker c.settle_call-in-Sends.result
    (λ settles a is _.
    told-moves c.args.tables.now c.settle_call-in-Sends.new.self c.args.call c.args.op.now (model.Sends c.in-Sends.channel c.in-Sends.producer c.in-Sends.packet) a
    (subst (λ (x : Course). IsAnswer c.args.op.now x a) c.in-Sends.is is) (λ s k. settles _ (c.in_ok-note-in-Sends.ensures.ok s k)))
    c.settle_call-in-Sends.ensures.ok
