-- What the parts of a view hold. This project's own.
use Rattle.std.specs.Prelude.{◌≡◌, ◌≤◌, ℕ, List, length, Option}
use denote.Ref.{Bor}
use Rattle.rtp_packet.specs.Packet.{AreBytes}
use Rattle.rtp_packet.specs.Fault.{Parses, behind_extension}
use Rattle.rtp_packet.specs.Reading.{fields_of, extension_value}

-- the bytes parse, and these are their extension, what follows it, and the payload
pub record IsView (bytes : List ℕ) (extension : Option (ℕ × Bor (List ℕ))) (body payload : List ℕ) : Type 0 where
  pub parses : Parses bytes
  pub are_bytes : AreBytes bytes
  pub whole_header : 12 ≤ length bytes
  pub extension_is : extension_value extension ≡ (fields_of bytes).extension
  pub body_is : body ≡ behind_extension bytes
  pub payload_is : payload ≡ (fields_of bytes).payload
