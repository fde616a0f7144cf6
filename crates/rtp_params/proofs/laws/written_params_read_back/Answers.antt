use Rattle.rtp_params.proofs.WholeBack.{params_back}
use Rattle.rtp_params.proofs.laws.written_params_read_back.Goals as goal

pub returns : goal.returns
returns c = params_back
