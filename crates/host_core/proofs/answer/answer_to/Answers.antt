use Rattle.std.proofs.Common.{◌≡◌, Bool, Ok, Err, Option, option_map, refl, sym, ap, ◌∙◌, subst}
use Rattle.serde_json.specs.View.{view}
use Rattle.request_build.specs.Asks as asks
use Rattle.request_build.specs.Asks.{Ask}
use Rattle.request_build.specs.Built.{built, built_view}
use Rattle.request_build.specs.Known.{known_of}
use Rattle.request_build.specs.Rules.{Gives}
use Rattle.request_build.specs.declared.built.Built.{Built}
use Rattle.request_build.specs.declared.built.BuildFault.TheVariants as fault
use Rattle.host_model.specs.Step.{due_of}
use Rattle.host_model.specs.Answer as model
use Rattle.host_model.specs.Answer.{answer, asked}
use Rattle.host_core.specs.Answers.{IsAnswer, issued_as}
use Rattle.host_core.specs.declared.answer.Course.{Course}
use Rattle.host_core.proofs.AnswerLemmas.{answer-as, issued-answer, own-answer}
use Rattle.host_core.proofs.answer.answer_to.Goals as goal

pub returns-in_ok-place-in-Ok-Ask-clause-answer : goal.returns-in_ok-place-in-Ok-Ask-clause-answer
returns-in_ok-place-in-Ok-Ask-clause-answer c = λ s k.
    let t = c.args.tables.now in
    let o = c.args.op.now in
    let b = c.in-Ok-Ask in
    let r : asks.Request =
    record { method = b.method; ids = b.ids; content = option_map view b.content; under = b.under; makes = b.makes; keeps = b.keeps; next = b.next } in
    let e : built (known_of t.tree t.kept t.next) o ≡ Ok (Ask r) = b.ensures ∙ ap (λ (x : Built). Ok (built_view x)) b.field-0-is in
    let place = c.in_ok-place-in-Ok-Ask.ensures.placed s r k refl refl (c.built_requests_have_whole_numbers.ensures.calls (known_of t.tree t.kept t.next) o r e) in
    let due = sym (c.due_of-due.ensures ∙ ap (λ (x : Option Bool). due_of x b.makes b.keeps) c.turn_of.ensures) in
    let code : Course = issued_as b.under c.due_of-due.result b.next c.in_ok-place-in-Ok-Ask.field-0 in
    let all : IsAnswer o code (asked s r) =
    issued-answer o r b.under c.due_of-due.result b.next c.in_ok-place-in-Ok-Ask.field-0 (asked s r) (record { under_is = refl; due_is = due; next_is = refl }) place in
    let whole : IsAnswer o code (answer s o) = subst (λ (a : model.Answer). IsAnswer o code a) (sym (answer-as s t k o (Ok (Ask r)) e)) all in
    subst (λ (a : Course). IsAnswer o a (answer s o)) (sym c.issue.ensures) whole

pub returns-in-Ok-Own-clause-answer : goal.returns-in-Ok-Own-clause-answer
returns-in-Ok-Own-clause-answer c =
    own-answer c.args.tables.now c.args.op.now c.in-Ok-Own.answer c.own.result (c.in-Ok-Own.ensures ∙ ap (λ (x : Built). Ok (built_view x)) c.in-Ok-Own.field-0-is)
    c.own.ensures.answer

pub returns-in-Err-Refused-clause-answer : goal.returns-in-Err-Refused-clause-answer
returns-in-Err-Refused-clause-answer c = λ s k.
    answer-as s c.args.tables.now k c.args.op.now (Err (fault.Refused c.in-Err-Refused.outcome)) (subst (λ w. Gives built_view (Err w) (built (known_of c.args.tables.now.tree c.args.tables.now.kept c.args.tables.now.next) c.args.op.now)) c.in-Err-Refused.field-0-is c.in-Err-Refused.ensures)
