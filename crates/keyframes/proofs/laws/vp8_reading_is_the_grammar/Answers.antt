use Rattle.keyframes.proofs.Pieces.{bytes_are}
use Rattle.keyframes.proofs.Vp8Grammar.{vp8-read, vp8-spelled}
use Rattle.keyframes.proofs.laws.vp8_reading_is_the_grammar.Goals as goal

pub returns : goal.returns
returns c = λ payload are. (vp8-read payload (bytes_are payload are), vp8-spelled payload)
