-- What holds of the definitions of the crates below, which the laws of a Consumer rest on.
use Rattle.std.specs.Prelude.{◌≡◌, ◌↔◌, ℕ, List}
use Rattle.rtp_packet.specs.Packet.{Fields, IsPacket, AreBytes}
use Rattle.rtp_packet.specs.Fault.{Parses}
use Rattle.rtp_packet.specs.Reading.{fields_of}
use Rattle.seq_manager.specs.Laws.{AnswersAreSentNumbers, CallsGoOn}

pub record LowerLaws : Type 0 where
  -- bytes that parse are a packet, with the fields at their places
  pub grammar : (bytes : List ℕ) → AreBytes bytes → Parses bytes ↔ ((fields : Fields) × IsPacket fields bytes)
  pub fields : (bytes : List ℕ) (fields : Fields) → IsPacket fields bytes → fields_of bytes ≡ fields
  -- the answers of a numbering are the numbers of its stretches, and go on from the state
  pub answered : AnswersAreSentNumbers
  pub going : CallsGoOn
