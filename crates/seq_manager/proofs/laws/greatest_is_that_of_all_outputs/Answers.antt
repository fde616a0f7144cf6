use Rattle.std.proofs.Common.{pos, None, [], ap, sym, ◌∙◌}
use Rattle.std.specs.Int.{int_max}
use Rattle.std.specs.List.{fold}
use Rattle.seq_manager.specs.Calls.{stretches}
use Rattle.seq_manager.specs.Extended.{low_16, greatest_of}
use Rattle.seq_manager.proofs.Running.{greatest-low_16, whole_answers-stretches, greatest_of-whole_outputs, outputs_after_is}
use Rattle.seq_manager.proofs.laws.greatest_is_that_of_all_outputs.Goals as goal

pub returns : goal.returns
returns c = λ calls ok.
    greatest-low_16 (pos 0) None calls ok
    ∙ ap (λ outputs. low_16 (fold int_max (pos 0) outputs)) (whole_answers-stretches (pos 0) None calls)
    ∙ ap low_16 (sym (greatest_of-whole_outputs (stretches calls)))
    ∙ ap (λ outputs. low_16 (greatest_of outputs)) (sym (outputs_after_is [] (stretches calls)))
