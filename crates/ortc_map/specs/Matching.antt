-- When two codecs are one (this project's own, after ORTC's rules of codec capabilities).
use Rattle.std.specs.Prelude.{ℕ, ◌==◌, ◌&&◌, ◌||◌, not, List, length, Bool, true, false, codes, if◌then◌else◌, Option, Some, None, unwrap_or, pos, bytes_eq}
use Rattle.std.specs.Char.{is_ascii_digit}
use Rattle.std.specs.List.{list_all}
use Rattle.std.specs.Ordering.{int_eq}
use Rattle.std.specs.Str.Parse.{digits_value}
use Rattle.ms_base.specs.declared.keys.Media.{Media}
use Rattle.ms_base.specs.declared.keys.Media.TheVariants.{Audio, Video}
use Rattle.rtp_params.specs.declared.codec.Codec.{Codec}
use Rattle.rtp_params.specs.declared.codec.Scalar.{Scalar}
use Rattle.rtp_params.specs.declared.codec.Scalar.TheVariants.{Number, Word}
use Rattle.rtp_params.specs.Names.{is_same_name, parameter_named}

abbrev pub is_same_media : Media → Media → Bool
is_same_media Audio Audio = true
is_same_media Video Video = true
is_same_media Audio Video = false
is_same_media Video Audio = false

-- the same number, or none at both
abbrev pub is_same_number : Option ℕ → Option ℕ → Bool
is_same_number (Some m) (Some n) = m == n
is_same_number (Some m) None = false
is_same_number None (Some n) = false
is_same_number None None = true

-- media type and name without regard to case (RFC 6838, section 4.2), clock rate and channels
abbrev pub matches : Codec → Codec → Bool
matches codec other =
    is_same_media codec.media other.media
    && is_same_name codec.name other.name
    && (codec.clock_rate == other.clock_rate)
    && is_same_number codec.channels other.channels

-- a text of digits, of any length but none
abbrev pub is_numeral : List ℕ → Bool
is_numeral text = not (length text == 0) && list_all is_ascii_digit text

-- a text of digits counts as its number
abbrev pub counted : Scalar → Scalar
counted (Number z) = Number z
counted (Word text) = if is_numeral text then Number (pos (digits_value 10 text)) else Word text

abbrev pub is_same_scalar : Scalar → Scalar → Bool
is_same_scalar (Number y) (Number z) = int_eq y z
is_same_scalar (Number y) (Word text) = false
is_same_scalar (Word text) (Number z) = false
is_same_scalar (Word text) (Word other) = bytes_eq text other

-- the profile of VP9 (RFC 9628, section 6): `profile-id`, by default 0
abbrev pub profile_of : Codec → Scalar
profile_of codec = counted (unwrap_or (parameter_named (codes "profile-id") codec.parameters) (Number (pos 0)))

abbrev pub is_vp9 : Codec → Bool
is_vp9 codec = is_same_media codec.media Video && is_same_name codec.name (codes "VP9")

-- two that match, and of VP9 have one profile
abbrev pub strictly_matches : Codec → Codec → Bool
strictly_matches codec other = matches codec other && (not (is_vp9 codec) || is_same_scalar (profile_of codec) (profile_of other))
