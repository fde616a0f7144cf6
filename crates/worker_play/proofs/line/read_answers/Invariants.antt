use Rattle.std.proofs.Common.{map, take}
use Rattle.std.specs.List.{AllZip}
use Rattle.worker_play.specs.Reading.{IsAnswer}
use Rattle.worker_play.proofs.line.read_answers.Given as goal

abbrev pub invariant-loop-word : goal.invariant-loop-word
invariant-loop-word l = AllZip IsAnswer (map (λ word. word.now) (take l.word-index l.words)) l.answers.items
