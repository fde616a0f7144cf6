use Rattle.std.proofs.Common.{◌≡◌, true, rules}
use Rattle.ortc_map.specs.Matching.{is_numeral}
use Rattle.ortc_map.proofs.NumeralLemmas.{digits_of_numeral}
use Rattle.ortc_map.proofs.matching.is_same_word.Goals as goal

pub is_same_numeral-requires-clause-digits : goal.is_same_numeral-requires-clause-digits
is_same_numeral-requires-clause-digits c =
    let passes : is_numeral c.args.word.now ≡ true = search rules in
    digits_of_numeral c.args.word.now passes

pub is_same_numeral-requires-clause-other : goal.is_same_numeral-requires-clause-other
is_same_numeral-requires-clause-other c =
    let passes : is_numeral c.args.other.now ≡ true = search rules in
    digits_of_numeral c.args.other.now passes
