-- Lists of calls of a Consumer, one by one.
use Rattle.std.specs.Prelude.{ℕ, List, [], ◌∷◌}
use Rattle.std.specs.List.{cons_option}
use Rattle.rtp_extension.specs.declared.mapped.Flags.{Flags}
use Rattle.rtp_packet.specs.Packet.{AreBytes}
use Rattle.rtp_packet.specs.Fault.{Parses}
use Rattle.simple_consumer.specs.Sending.{Offer, Sending, passed, behind_packet, behind_flags}

pub data Call : Type 0 where
  set_flags : Flags → Call
  pass : Offer → Call

-- each offer has a packet
abbrev pub ArePackets : List Call → Type 0
ArePackets [] = Unit {0}
ArePackets (set_flags f ∷ calls) = ArePackets calls
ArePackets (pass o ∷ calls) = AreBytes o.packet × Parses o.packet × ArePackets calls

-- the state behind a list of calls
abbrev pub sending_after : Sending → List Call → Sending
sending_after s [] = s
sending_after s (set_flags f ∷ calls) = sending_after (behind_flags s f) calls
sending_after s (pass o ∷ calls) = sending_after (behind_packet s o) calls

-- what its `pass` calls write
abbrev pub emissions : Sending → List Call → List (List ℕ)
emissions s [] = []
emissions s (set_flags f ∷ calls) = emissions (behind_flags s f) calls
emissions s (pass o ∷ calls) = cons_option (passed s o) (emissions (behind_packet s o) calls)
