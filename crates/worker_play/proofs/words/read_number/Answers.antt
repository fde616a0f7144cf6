use Rattle.std.proofs.Common.{◌≡◌, decimal, arith, sym, ap, ◌∙◌}
use Rattle.worker_play.proofs.NumberLemmas.{no_text, parsed, same_number}
use Rattle.worker_play.proofs.words.read_number.Goals as goal
use Rattle.worker_play.proofs.words.read_number.Goals.{else-number-greatest-via-then-number-greatest+else-is_word, else-number-greatest-via-else-number-greatest}

pub returns-in_default : goal.returns-in_default
returns-in_default c = no_text c.args.greatest c.args.word.now (omega arith) c.in_default.ensures.cases.0

pub returns-in_default-parse : goal.returns-in_default-parse
returns-in_default-parse c =
    λ number is.
    c.in_default-parse.not-Ok number
    (parsed c.args.greatest c.in-Ok.digits.now c.parse.result (omega arith) c.parse.ensures.value.0 number (c.in-Ok.ensures.cases.0 ∙ is.0, is.1))

pub returns-else-number-greatest : goal.returns-else-number-greatest
returns-else-number-greatest c =
    λ number is.
    let read = parsed c.args.greatest c.in-Ok.digits.now c.parse.result (omega arith) c.parse.ensures.value.0 number (c.in-Ok.ensures.cases.0 ∙ is.0, is.1) in
    let same : c.in-Ok-parse.number ≡ number = same_number c.in-Ok-parse.number number c.parse.result c.in-Ok-parse.is read in
    elim c.else-number-greatest.branch [
      | else-number-greatest-via-then-number-greatest+else-is_word w ↦
          let written : c.args.word.now ≡ w.as_bytes.result.now = is.0 ∙ ap decimal (sym same) ∙ sym w.format.ensures.text ∙ sym w.as_bytes.ensures.value in
          let yes = w.is_word.ensures.1 written in
          cc
      | else-number-greatest-via-else-number-greatest w ↦ omega (arith, same, is.1, w.if-number-greatest.false)
    ]
