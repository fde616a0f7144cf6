use Rattle.std.proofs.Common.{sym, ◌∙◌}
use Rattle.rtp_packet.proofs.Whole.{fields_from_packet}
use Rattle.rtp_packet.proofs.laws.one_reading.Goals as goal

pub returns : goal.returns
returns c bytes a b p q = sym (fields_from_packet a bytes p) ∙ fields_from_packet b bytes q
