use Rattle.rtp_packet.specs.Reading.{fields_of}
use Rattle.rtp_packet.proofs.Whole.{IsSound-from_parses, takes, parses_from_packet}
use Rattle.rtp_packet.proofs.laws.grammar.Goals as goal

pub returns : goal.returns
returns c bytes fits =
    (λ parses. (fields_of bytes, takes bytes fits (IsSound-from_parses bytes parses)), λ (f, p). parses_from_packet f bytes p)
