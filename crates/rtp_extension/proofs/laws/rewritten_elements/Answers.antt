use Rattle.rtp_extension.proofs.Packets.{rewritten_elements_are}
use Rattle.rtp_extension.proofs.laws.rewritten_elements.Goals as goal

pub returns : goal.returns
returns c = rewritten_elements_are
