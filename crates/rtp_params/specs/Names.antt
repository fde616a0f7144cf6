-- Names that are compared without regard to ASCII case.
use Rattle.std.specs.Prelude.{ℕ, nat_le, List, [], ◌∷◌, Bool, codes, if◌then◌else◌, Option, Some, None, option_and_then, bytes_eq}
use Rattle.std.specs.Str.{str_eq_ignore_ascii_case}
use Rattle.std.specs.Prelude.{pos, negsuc}
use Rattle.rtp_params.specs.declared.codec.Codec.{Codec}
use Rattle.rtp_params.specs.declared.codec.Scalar.{Scalar}
use Rattle.rtp_params.specs.declared.codec.Scalar.TheVariants.{Number, Word}

-- media types and their parts are compared so (RFC 6838, section 4.2)
abbrev pub is_same_name : List ℕ → List ℕ → Bool
is_same_name a b = str_eq_ignore_ascii_case a b

-- a codec for retransmissions (RFC 4588, section 8): `rtx`
abbrev pub is_rtx : Codec → Bool
is_rtx codec = is_same_name codec.name (codes "rtx")

-- the value of the first parameter of a name
abbrev pub parameter_named : List ℕ → List (List ℕ × Scalar) → Option Scalar
parameter_named name [] = None
parameter_named name (p ∷ ps) = if bytes_eq p.0 name then Some p.1 else parameter_named name ps

-- a whole number that is a payload type, 0 to 127
abbrev pub as_payload_type : Scalar → Option ℕ
as_payload_type (Number (pos n)) = if nat_le n 127 then Some n else None
as_payload_type (Number (negsuc n)) = None
as_payload_type (Word text) = None

-- the payload type that a codec is associated with (RFC 4588, section 8.1): its parameter `apt`
abbrev pub apt_of : Codec → Option ℕ
apt_of codec = option_and_then as_payload_type (parameter_named (codes "apt") codec.parameters)
