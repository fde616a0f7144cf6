-- What a relay changes in a packet (RFC 3550, section 5.1): the sequence number, the SSRC and the
-- payload type. This project's own.
use Rattle.std.specs.Prelude.{ℕ, ◌+◌, ◌*◌, ◌/◌, List, ◌∷◌, ◌++◌, drop, slice_index, slice_range}
use Rattle.byteorder.specs.Endian.{big_bytes}
use Rattle.rtp_packet.specs.Packet.{Fields}

-- the fields with these three in place of their own
abbrev pub with_fields : Fields → ℕ → ℕ → ℕ → Fields
with_fields f seq ssrc payload_type = record f { payload_type = payload_type; seq = seq; ssrc = ssrc }

-- The bytes with these three in place of their own: the first byte, the marker bit, the timestamp and
-- all that follows the fixed header are as they were.
unfoldable pub rewritten : List ℕ → ℕ → ℕ → ℕ → List ℕ
rewritten bytes seq ssrc payload_type =
    slice_index bytes 0 ∷ (128 * (slice_index bytes 1 / 128) + payload_type) ∷ big_bytes 2 seq
    ++ slice_range bytes 4 8 ++ big_bytes 4 ssrc ++ drop 12 bytes
