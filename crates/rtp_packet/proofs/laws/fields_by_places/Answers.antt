use Rattle.rtp_packet.proofs.Whole.{fields_from_packet}
use Rattle.rtp_packet.proofs.laws.fields_by_places.Goals as goal

pub returns : goal.returns
returns c bytes fields is = fields_from_packet fields bytes is
