use Rattle.std.proofs.Common.{ℕ, ◌^◌, ◌<◌, Ok, Err, sym, ◌∙◌, arith}
use Rattle.std.proofs.lemmas.Bool.{cond-true, cond-false}
use Rattle.script_text.proofs.Numbers.{number_refused, number_parsed, both_within, above, below}
use Rattle.script_text.proofs.words.read_number.Goals as goal

pub returns-then-not-is_plain-clause-value : goal.returns-then-not-is_plain-clause-value
returns-then-not-is_plain-clause-value c = sym (number_refused c.args.low c.args.high c.args.word.now (sym c.is_plain.ensures ∙ c.if-not-is_plain.true))

pub returns-in-Ok-clause-value : goal.returns-in-Ok-clause-value
returns-in-Ok-clause-value c =
    let fits : c.args.high < 2 ^ 64 = omega arith in
    let parsed = number_parsed {E = ℕ} c.args.low c.args.high c.args.word.now (Ok c.in-Ok.number) fits (sym c.is_plain.ensures ∙ c.if-not-is_plain.false) c.in-Ok.ensures.value.0 in
    sym (parsed ∙ cond-true _ _ _ (both_within _ _ _ c.if-low-number.true c.if-number-high.true))

pub returns-in_default-clause-value : goal.returns-in_default-clause-value
returns-in_default-clause-value c =
    let fits : c.args.high < 2 ^ 64 = omega arith in
    let parsed = number_parsed {E = ℕ} c.args.low c.args.high c.args.word.now (Ok c.in-Ok.number) fits (sym c.is_plain.ensures ∙ c.if-not-is_plain.false) c.in-Ok.ensures.value.0 in
    sym (parsed ∙ cond-false _ _ _ (above _ _ _ c.if-number-high.false))

pub returns-in_default-2-clause-value : goal.returns-in_default-2-clause-value
returns-in_default-2-clause-value c =
    let fits : c.args.high < 2 ^ 64 = omega arith in
    let parsed = number_parsed {E = ℕ} c.args.low c.args.high c.args.word.now (Ok c.in-Ok.number) fits (sym c.is_plain.ensures ∙ c.if-not-is_plain.false) c.in-Ok.ensures.value.0 in
    sym (parsed ∙ cond-false _ _ _ (below _ _ _ c.if-low-number.false))

pub returns-in_default-3-clause-value : goal.returns-in_default-3-clause-value
returns-in_default-3-clause-value c =
    let fits : c.args.high < 2 ^ 64 = omega arith in
    sym (number_parsed c.args.low c.args.high c.args.word.now (Err c.in_default.field-0) fits (sym c.is_plain.ensures ∙ c.if-not-is_plain.false) c.in_default.ensures.value.0)
