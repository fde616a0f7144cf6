use Rattle.std.proofs.Common.{sym, subst}
use Rattle.host_core.specs.Answers.{IsAnswer}
use Rattle.host_core.proofs.AnswerLemmas.{own-other}
use Rattle.host_core.proofs.answer.own.Goals as goal

pub returns-in-Router : goal.returns-in-Router
returns-in-Router c = record {
  answer = λ s k.
      subst (IsAnswer c.args.op.now c.tells.result) (sym (own-other s c.args.op.now c.args.told c.in-Router.is))
      (c.tells.ensures.answer c.args.op.now);
  due = c.tells.ensures.due c.args.tables.now;
}
