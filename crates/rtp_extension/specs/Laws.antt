-- What holds of every extension and every packet.
use Rattle.std.specs.Prelude.{◌≡◌, ◌↔◌, ℕ, ◌≤◌, List, length, Option, IfSome}
use Rattle.rtp_packet.specs.Packet.{Fields, IsPacket, AreBytes, packet_of}
use Rattle.rtp_extension.specs.declared.form.Form.{Form}
use Rattle.rtp_extension.specs.Elements.{Element, Spells}
use Rattle.rtp_extension.specs.Reading.{elements_in, elements_of}
use Rattle.rtp_extension.specs.Rewriting.{with_ids, kept_of}

-- the elements that are read are those of the grammar, and no others
abbrev pub ReadingIsTheGrammar : Type 0
ReadingIsTheGrammar =
    (form : Form) (es : List Element) (words : List ℕ) → AreBytes words → (es ≡ elements_in form words) ↔ Spells form es words

-- ids that a byte can hold, and none of them that of padding
abbrev pub AreIds : (ℕ → Option ℕ) → Type 0
AreIds ids = (id : ℕ) → IfSome (ids id) (λ new. (1 ≤ new) × (new ≤ 255))

-- the rewritten packet is one
abbrev pub RewrittenIsAPacket : Type 0
RewrittenIsAPacket = (ids : ℕ → Option ℕ) (f : Fields) (bytes : List ℕ) → AreBytes bytes → IsPacket f bytes → IsPacket (with_ids ids f) (packet_of (with_ids ids f))

-- its elements are the kept ones of the packet, under their new ids, in order
abbrev pub RewrittenElements : Type 0
RewrittenElements = (ids : ℕ → Option ℕ) (f : Fields) (bytes : List ℕ) → AreBytes bytes → AreIds ids → IsPacket f bytes → elements_of (with_ids ids f).extension ≡ kept_of ids f.extension

-- it is never longer than the packet
abbrev pub RewrittenIsNoLonger : Type 0
RewrittenIsNoLonger = (ids : ℕ → Option ℕ) (f : Fields) (bytes : List ℕ) → AreBytes bytes → IsPacket f bytes → length (packet_of (with_ids ids f)) ≤ length bytes
