use Rattle.std.proofs.Common.{Result, ap, sym, subst}
use Rattle.ms_base.specs.declared.code.Code.{Code}
use Rattle.script_text.specs.declared.script.Step.{Step}
use Rattle.script_text.specs.Gives.{Gives}
use Rattle.script_text.specs.Script.{step_of}
use Rattle.script_text.proofs.read.read_step.Goals as goal

pub returns : goal.returns
unfolding step_of
returns c = subst (λ (r : Result Step Code). Gives c.read_words.result r) (sym (ap step_of c.first_word.ensures)) c.read_words.ensures
