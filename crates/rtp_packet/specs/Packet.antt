-- What an RTP packet says, and how it is written: RFC 3550, section 5.1. A list of bytes is a list of
-- numbers below 256.
use Rattle.std.specs.Prelude.{◌≡◌, ℕ, ◌+◌, ◌*◌, ◌/◌, ◌%◌, ◌^◌, ◌<◌, Bool, if◌then◌else◌, List, [], ◌∷◌, ◌++◌, length, slice_index, Option, Some, None, is_some, IfSome}
use Rattle.std.specs.List.{flat_map, AllByRecursion}
use Rattle.byteorder.specs.Endian.{big_bytes}

-- each number is a byte's
abbrev pub AreBytes : List ℕ → Type 0
AreBytes bytes = (i : ℕ) → slice_index bytes i < 256

-- the fields of a packet
pub record Fields : Type 0 where
  pub marker : Bool
  pub payload_type : ℕ
  pub seq : ℕ
  pub timestamp : ℕ
  pub ssrc : ℕ
  pub csrcs : List ℕ
  -- what the profile defines, and the bytes of the words behind it
  pub extension : Option (ℕ × List ℕ)
  pub payload : List ℕ
  -- the bytes of padding before the last one, which counts itself and them
  pub padding : Option (List ℕ)

abbrev pub flag : Bool → ℕ
flag set = if set then 1 else 0

-- version 2, the padding bit, the extension bit and the number of CSRCs
abbrev pub first_byte : Fields → ℕ
first_byte f = 128 + 32 * flag (is_some f.padding) + 16 * flag (is_some f.extension) + length f.csrcs

-- the marker bit and the payload type
abbrev pub second_byte : Fields → ℕ
second_byte f = 128 * flag f.marker + f.payload_type

abbrev pub fixed_header : Fields → List ℕ
fixed_header f = first_byte f ∷ second_byte f ∷ big_bytes 2 f.seq ++ big_bytes 4 f.timestamp ++ big_bytes 4 f.ssrc

abbrev pub csrc_list : List ℕ → List ℕ
csrc_list csrcs = flat_map (big_bytes 4) csrcs

-- section 5.3.1: 16 bits of the profile's, the number of words, and the words
abbrev pub header_extension : Option (ℕ × List ℕ) → List ℕ
header_extension None = []
header_extension (Some e) = big_bytes 2 e.0 ++ big_bytes 2 (length e.1 / 4) ++ e.1

abbrev pub padding_bytes : Option (List ℕ) → List ℕ
padding_bytes None = []
padding_bytes (Some filler) = filler ++ (length filler + 1) ∷ []

-- the packet with these fields
abbrev pub packet_of : Fields → List ℕ
packet_of f = fixed_header f ++ (csrc_list f.csrcs ++ (header_extension f.extension ++ (f.payload ++ padding_bytes f.padding)))

-- whole words, as many as 16 bits can count
pub record IsExtension (profile : ℕ) (words : List ℕ) : Type 0 where
  pub profile_fits : profile < 2 ^ 16
  pub whole : length words % 4 ≡ 0
  pub count_fits : length words / 4 < 2 ^ 16

-- each field fits its place
pub record Fits (f : Fields) : Type 0 where
  pub payload_type : f.payload_type < 2 ^ 7
  pub seq : f.seq < 2 ^ 16
  pub timestamp : f.timestamp < 2 ^ 32
  pub ssrc : f.ssrc < 2 ^ 32
  pub csrc_count : length f.csrcs < 2 ^ 4
  pub csrcs : AllByRecursion (λ csrc. csrc < 2 ^ 32) f.csrcs
  pub extension : IfSome f.extension (λ e. IsExtension e.0 e.1)
  pub padding : IfSome f.padding (λ filler. length filler + 1 < 2 ^ 8)

-- the bytes are the packet with these fields
pub record IsPacket (f : Fields) (bytes : List ℕ) : Type 0 where
  pub fits : Fits f
  pub written : bytes ≡ packet_of f
