-- Worked rows of the definitions, which compute.
use Rattle.std.specs.Prelude.{◌≡◌, ℕ, true, false, List, [], ◌∷◌, Some, None}
use mathlib.Core.Path.{refl}
use Rattle.rtp_packet.specs.declared.fault.RtpFault.TheVariants.{Short, BadVersion, CutCsrc, CutExtension, BadPadding}
use Rattle.rtp_packet.specs.Packet.{Fields, packet_of}
use Rattle.rtp_packet.specs.Fault.{fault_of, Parses}
use Rattle.rtp_packet.specs.Reading.{fields_of}
use Rattle.rtp_packet.specs.Rewriting.{rewritten}

-- ---- the first fault

eleven_bytes : fault_of (0x41 ∷ 0 ∷ 0 ∷ 0 ∷ 0 ∷ 0 ∷ 0 ∷ 0 ∷ 0 ∷ 0 ∷ 0 ∷ []) ≡ Some Short
unfolding fault_of
eleven_bytes = refl

version_one : fault_of (0x41 ∷ 0 ∷ 0 ∷ 0 ∷ 0 ∷ 0 ∷ 0 ∷ 0 ∷ 0 ∷ 0 ∷ 0 ∷ 0 ∷ []) ≡ Some BadVersion
unfolding fault_of
version_one = refl

one_csrc_of_two : fault_of (0x82 ∷ 0 ∷ 0 ∷ 0 ∷ 0 ∷ 0 ∷ 0 ∷ 0 ∷ 0 ∷ 0 ∷ 0 ∷ 0 ∷ 0 ∷ 0 ∷ 0 ∷ 0 ∷ []) ≡ Some CutCsrc
unfolding fault_of
one_csrc_of_two = refl

no_extension : fault_of (0x90 ∷ 0 ∷ 0 ∷ 0 ∷ 0 ∷ 0 ∷ 0 ∷ 0 ∷ 0 ∷ 0 ∷ 0 ∷ 0 ∷ []) ≡ Some CutExtension
unfolding fault_of
no_extension = refl

one_word_of_two : fault_of (0x90 ∷ 0 ∷ 0 ∷ 0 ∷ 0 ∷ 0 ∷ 0 ∷ 0 ∷ 0 ∷ 0 ∷ 0 ∷ 0 ∷ 0xbe ∷ 0xde ∷ 0 ∷ 2 ∷ 0 ∷ 0 ∷ 0 ∷ 0 ∷ []) ≡ Some CutExtension
unfolding fault_of
one_word_of_two = refl

padding_of_none : fault_of (0xa0 ∷ 0 ∷ 0 ∷ 0 ∷ 0 ∷ 0 ∷ 0 ∷ 0 ∷ 0 ∷ 0 ∷ 0 ∷ 0 ∷ 1 ∷ 0 ∷ []) ≡ Some BadPadding
unfolding fault_of
padding_of_none = refl

padding_of_three : fault_of (0xa0 ∷ 0 ∷ 0 ∷ 0 ∷ 0 ∷ 0 ∷ 0 ∷ 0 ∷ 0 ∷ 0 ∷ 0 ∷ 0 ∷ 1 ∷ 3 ∷ []) ≡ Some BadPadding
unfolding fault_of
padding_of_three = refl

padding_is_gone : fault_of (0xa0 ∷ 0 ∷ 0 ∷ 0 ∷ 0 ∷ 0 ∷ 0 ∷ 0 ∷ 0 ∷ 0 ∷ 0 ∷ 0 ∷ []) ≡ Some BadPadding
unfolding fault_of
padding_is_gone = refl

padding_of_two : Parses (0xa0 ∷ 0 ∷ 0 ∷ 0 ∷ 0 ∷ 0 ∷ 0 ∷ 0 ∷ 0 ∷ 0 ∷ 0 ∷ 0 ∷ 1 ∷ 2 ∷ [])
unfolding fault_of
padding_of_two = refl

-- ---- how a packet is written

-- an opus packet of two bytes, just before the sequence numbers wrap
opus : Fields
opus = record {
  marker = false;
  payload_type = 111;
  seq = 65534;
  timestamp = 10;
  ssrc = 2222;
  csrcs = [];
  extension = None;
  payload = 0xaa ∷ 0xbb ∷ [];
  padding = None;
}

opus_bytes : List ℕ
opus_bytes = 0x80 ∷ 0x6f ∷ 0xff ∷ 0xfe ∷ 0 ∷ 0 ∷ 0 ∷ 0x0a ∷ 0 ∷ 0 ∷ 0x08 ∷ 0xae ∷ 0xaa ∷ 0xbb ∷ []

opus_is_written : packet_of opus ≡ opus_bytes
unfolding opus opus_bytes
opus_is_written = refl

opus_is_read : fields_of opus_bytes ≡ opus
unfolding opus opus_bytes fields_of
opus_is_read = refl

opus_is_rewritten : rewritten opus_bytes 1 100000001 100 ≡ 0x80 ∷ 0x64 ∷ 0 ∷ 1 ∷ 0 ∷ 0 ∷ 0 ∷ 0x0a ∷ 0x05 ∷ 0xf5 ∷ 0xe1 ∷ 0x01 ∷ 0xaa ∷ 0xbb ∷ []
unfolding opus_bytes rewritten
opus_is_rewritten = refl

-- each part at once: two CSRCs, one word of extension, a payload of one byte, and three bytes of padding
full : Fields
full = record {
  marker = true;
  payload_type = 96;
  seq = 0x1234;
  timestamp = 0x01020304;
  ssrc = 0xdeadbeef;
  csrcs = 1 ∷ 2 ∷ [];
  extension = Some (0xbede, 0x10 ∷ 0xff ∷ 0 ∷ 0 ∷ []);
  payload = 7 ∷ [];
  padding = Some (0 ∷ 0 ∷ []);
}

full_bytes : List ℕ
full_bytes =
    0xb2 ∷ 0xe0 ∷ 0x12 ∷ 0x34 ∷ 1 ∷ 2 ∷ 3 ∷ 4 ∷ 0xde ∷ 0xad ∷ 0xbe ∷ 0xef ∷ 0 ∷ 0 ∷ 0 ∷ 1 ∷ 0 ∷ 0 ∷ 0 ∷ 2
    ∷ 0xbe ∷ 0xde ∷ 0 ∷ 1 ∷ 0x10 ∷ 0xff ∷ 0 ∷ 0 ∷ 7 ∷ 0 ∷ 0 ∷ 3 ∷ []

full_is_written : packet_of full ≡ full_bytes
unfolding full full_bytes
full_is_written = refl

full_is_read : fields_of full_bytes ≡ full
unfolding full full_bytes fields_of
full_is_read = refl
