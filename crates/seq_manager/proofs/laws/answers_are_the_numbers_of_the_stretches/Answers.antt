use Rattle.std.proofs.Common.{pos, None, map, ap, ◌∙◌}
use Rattle.seq_manager.specs.Extended.{low_16}
use Rattle.seq_manager.proofs.Running.{answers-low_16, whole_answers_are}
use Rattle.seq_manager.proofs.laws.answers_are_the_numbers_of_the_stretches.Goals as goal

pub returns : goal.returns
returns c = λ calls ok. answers-low_16 (pos 0) None calls ok ∙ ap (map low_16) (whole_answers_are calls)
