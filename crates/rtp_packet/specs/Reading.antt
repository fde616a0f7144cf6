-- The fields that bytes have, each by its place: RFC 3550, section 5.1.
use Rattle.std.specs.Prelude.{ℕ, zero, suc, ◌-◌, ◌*◌, ◌%◌, nat_le, Bool, if◌then◌else◌, List, [], ◌∷◌, length, take, drop, slice_index, Option, Some, None}
use denote.Ref.{Bor}
use Rattle.std.specs.Option.{option_map}
use Rattle.byteorder.specs.Endian.{big_number}
use Rattle.rtp_packet.specs.Packet.{Fields}
use Rattle.rtp_packet.specs.Fault.{has_padding, has_extension, csrc_count, padding_len, behind_header, behind_csrcs, behind_extension}

-- the first numbers of four bytes each
abbrev pub words_of : ℕ → List ℕ → List ℕ
words_of zero bytes = []
words_of (suc count) bytes = big_number 4 bytes ∷ words_of count (drop 4 bytes)

-- the extension at the front of these bytes
abbrev pub extension_at : Bool → List ℕ → Option (ℕ × List ℕ)
extension_at there bytes =
    if there then Some (big_number 2 bytes, take (4 * big_number 2 (drop 2 bytes)) (drop 4 bytes)) else None

-- an extension without where it lies in memory
abbrev pub extension_value : Option (ℕ × Bor (List ℕ)) → Option (ℕ × List ℕ)
extension_value extension = option_map (λ e. (e.0, e.1.now)) extension

-- these bytes without the padding at their end
abbrev pub without_padding : Bool → List ℕ → List ℕ
without_padding there bytes = take (length bytes - padding_len there bytes) bytes

-- the padding at the end of these bytes, without its last byte
abbrev pub padding_at : Bool → List ℕ → Option (List ℕ)
padding_at there bytes =
    if there then Some (take (padding_len there bytes - 1) (drop (length bytes - padding_len there bytes) bytes)) else None

unfoldable pub fields_of : List ℕ → Fields
fields_of bytes = record {
  marker = nat_le 128 (slice_index bytes 1);
  payload_type = slice_index bytes 1 % 128;
  seq = big_number 2 (drop 2 bytes);
  timestamp = big_number 4 (drop 4 bytes);
  ssrc = big_number 4 (drop 8 bytes);
  csrcs = words_of (csrc_count bytes) (behind_header bytes);
  extension = extension_at (has_extension bytes) (behind_csrcs bytes);
  payload = without_padding (has_padding bytes) (behind_extension bytes);
  padding = padding_at (has_padding bytes) (behind_extension bytes);
}
