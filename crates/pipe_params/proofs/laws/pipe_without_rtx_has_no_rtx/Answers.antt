use Rattle.pipe_params.proofs.PipeLaws.{pipe_has_no_rtx}
use Rattle.pipe_params.proofs.laws.pipe_without_rtx_has_no_rtx.Goals as goal

pub returns : goal.returns
returns c = pipe_has_no_rtx
