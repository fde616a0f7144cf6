-- Why bytes are no RTP packet: RFC 3550, section 5.1, from the first byte to the last.
use Rattle.std.specs.Prelude.{◌≡◌, ℕ, ◌+◌, ◌-◌, ◌*◌, ◌/◌, ◌%◌, Bool, not, ◌&&◌, ◌||◌, ◌==◌, nat_lt, if◌then◌else◌, List, length, drop, slice_index, Option, Some, None}
use Rattle.byteorder.specs.Endian.{big_number}
use Rattle.rtp_packet.specs.declared.fault.RtpFault.{RtpFault}
use Rattle.rtp_packet.specs.declared.fault.RtpFault.TheVariants.{Short, BadVersion, CutCsrc, CutExtension, BadPadding}

-- the parts of the first byte
abbrev pub version : List ℕ → ℕ
version bytes = slice_index bytes 0 / 64

abbrev pub has_padding : List ℕ → Bool
has_padding bytes = slice_index bytes 0 / 32 % 2 == 1

abbrev pub has_extension : List ℕ → Bool
has_extension bytes = slice_index bytes 0 / 16 % 2 == 1

abbrev pub csrc_count : List ℕ → ℕ
csrc_count bytes = slice_index bytes 0 % 16

-- how many bytes an extension takes that stands at the front of these: two of the profile's, two that
-- count words of four bytes, and the words
abbrev pub extension_len : Bool → List ℕ → ℕ
extension_len there bytes = if there then 4 + 4 * big_number 2 (drop 2 bytes) else 0

-- how many bytes of padding stand at the end of these: the last one tells it
abbrev pub padding_len : Bool → List ℕ → ℕ
padding_len there bytes = if there then slice_index bytes (length bytes - 1) else 0

-- what follows the fixed header
abbrev pub behind_header : List ℕ → List ℕ
behind_header bytes = drop 12 bytes

-- what follows the CSRCs
abbrev pub behind_csrcs : List ℕ → List ℕ
behind_csrcs bytes = drop (4 * csrc_count bytes) (behind_header bytes)

-- what follows the extension: the payload and the padding
abbrev pub behind_extension : List ℕ → List ℕ
behind_extension bytes = drop (extension_len (has_extension bytes) (behind_csrcs bytes)) (behind_csrcs bytes)

-- padding counts itself, and isn't more than what is there
abbrev pub is_bad_padding : Bool → List ℕ → Bool
is_bad_padding there bytes = there && (padding_len there bytes == 0 || nat_lt (length bytes) (padding_len there bytes))

-- the first thing that is wrong, if any is
unfoldable pub fault_of : List ℕ → Option RtpFault
fault_of bytes =
    if nat_lt (length bytes) 12 then Some Short
    else if not (version bytes == 2) then Some BadVersion
    else if nat_lt (length (behind_header bytes)) (4 * csrc_count bytes) then Some CutCsrc
    else if nat_lt (length (behind_csrcs bytes)) (extension_len (has_extension bytes) (behind_csrcs bytes)) then Some CutExtension
    else if is_bad_padding (has_padding bytes) (behind_extension bytes) then Some BadPadding
    else None

-- nothing is wrong
abbrev pub Parses : List ℕ → Type 0
Parses bytes = fault_of bytes ≡ None
