use Rattle.std.proofs.Common.{◌≡◌, ◌==◌, ◌&&◌, true, ap, sym, ◌∙◌, rules}
use Rattle.std.specs.Str.Parse.{digits_value}
use Rattle.std.proofs.lemmas.Fmt.{decimal_is_IsNumeral}
use Rattle.ortc_map.specs.Matching.{is_numeral}
use Rattle.ortc_map.proofs.NumeralLemmas.{digits_of_numeral}
use Rattle.ortc_map.proofs.matching.is_numeral_of.Goals as goal

pub is_same_numeral-requires-clause-digits : goal.is_same_numeral-requires-clause-digits
is_same_numeral-requires-clause-digits c =
    let passes : is_numeral c.args.word.now ≡ true = search rules in
    digits_of_numeral c.args.word.now passes

pub is_same_numeral-requires-clause-other : goal.is_same_numeral-requires-clause-other
is_same_numeral-requires-clause-other c =
    let written = c.as_bytes.ensures.value ∙ c.format.ensures.text in
    rw written (decimal_is_IsNumeral c.args.number (search rules)).0.1

pub returns : goal.returns
returns c =
    let passes : is_numeral c.args.word.now ≡ true = search rules in
    let written = c.as_bytes.ensures.value ∙ c.format.ensures.text in
    let number = ap (digits_value 10) written ∙ (decimal_is_IsNumeral c.args.number (search rules)).1 in
    c.is_same_numeral.ensures ∙ ap (λ n. digits_value 10 c.args.word.now == n) number ∙ ap (λ b. b && (digits_value 10 c.args.word.now == c.args.number)) (sym passes)
