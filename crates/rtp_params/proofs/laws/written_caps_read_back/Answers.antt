use Rattle.rtp_params.proofs.WholeBack.{caps_back}
use Rattle.rtp_params.proofs.laws.written_caps_read_back.Goals as goal

pub returns : goal.returns
returns c = caps_back
