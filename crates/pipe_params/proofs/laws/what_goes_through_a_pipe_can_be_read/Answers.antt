use Rattle.pipe_params.proofs.PipeReads.{pipe_reads}
use Rattle.pipe_params.proofs.laws.what_goes_through_a_pipe_can_be_read.Goals as goal

pub returns : goal.returns
returns c = pipe_reads
