use Rattle.keyframes.proofs.Pieces.{bytes_are}
use Rattle.keyframes.proofs.Vp9Grammar.{vp9-read, vp9-spelled}
use Rattle.keyframes.proofs.laws.vp9_reading_is_the_grammar.Goals as goal

pub returns : goal.returns
returns c = λ payload are. (vp9-read payload (bytes_are payload are), vp9-spelled payload)
