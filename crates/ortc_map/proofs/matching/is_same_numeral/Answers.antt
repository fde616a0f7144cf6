use Rattle.ortc_map.proofs.NumeralLemmas.{same_numeral}
use Rattle.ortc_map.proofs.matching.is_same_numeral.Goals as goal

pub returns : goal.returns
returns c =
    let same = same_numeral c.args.digits.now c.args.other.now c.requires.digits c.requires.other in
    cc
