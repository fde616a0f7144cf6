use Rattle.pipe_params.proofs.PipeLaws.{pipe_row, pipe_rises}
use Rattle.pipe_params.proofs.laws.pipe_draws_ssrcs_in_a_row.Goals as goal

pub returns-clause-row : goal.returns-clause-row
returns-clause-row c = pipe_row

pub returns-clause-each_once : goal.returns-clause-each_once
returns-clause-each_once c = pipe_rises
