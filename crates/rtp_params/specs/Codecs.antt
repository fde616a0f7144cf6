-- How a codec is read (this project's own), as parameters and as capabilities have it.
use Rattle.std.specs.Prelude.{ℕ, ◌==◌, ◌^◌, List, [], Bool, codes, if◌then◌else◌, Option, Some, None, option_and_then, Result, Ok, Err, ℤ, pos, neg_ℤ, bytes_eq, int_lt, ◌&&◌, not}
use Rattle.std.specs.List.{before_first, after_first}
use Rattle.serde_json.specs.Data.{Data, string, Members}
use Rattle.serde_json.specs.Find.{get_member, as_integer, as_number}
use Rattle.ms_base.specs.declared.code.Code.{Code}
use Rattle.ms_base.specs.declared.code.Code.TheVariants as code
use Rattle.ms_base.specs.declared.keys.Media.{Media}
use Rattle.ms_base.specs.declared.keys.Media.TheVariants.{Audio, Video}
use Rattle.rtp_params.specs.declared.codec.Codec.{Codec}
use Rattle.rtp_params.specs.declared.codec.Scalar.{Scalar}
use Rattle.rtp_params.specs.declared.codec.Scalar.TheVariants.{Number, Word}
use Rattle.rtp_params.specs.declared.place.Place.{Place}
use Rattle.rtp_params.specs.declared.place.Place.TheVariants.{InParams, InCaps}
use Rattle.rtp_params.specs.Names.{is_same_name}
use Rattle.rtp_params.specs.Reading.{◌>>=◌, or_form, number_of, text_of, not_empty, object_of, required, optional, or_default, members_list, read_behind, list_of}

abbrev pub is_slash : ℕ → Bool
is_slash c = c == 47

abbrev pub media_of : List ℕ → Result Media Code
media_of text =
    if is_same_name text (codes "audio") then Ok Audio
    else if is_same_name text (codes "video") then Ok Video
    else Err code.Form

-- a media type (RFC 6838): `audio/X` or `video/X`, where X is all behind the first slash and isn't empty
unfoldable pub mime_type_in : List ℕ → Result (Media × List ℕ) Code
mime_type_in text = do
  media ← media_of (before_first is_slash text)
  name ← not_empty (after_first is_slash text)
  Ok (media, name)

abbrev pub mime_type_of : Data → Result (Media × List ℕ) Code
mime_type_of d = text_of d >>= mime_type_in

-- audio alone has channels, 1 to 255, by default 1
abbrev pub channels_of : Media → Option Data → Result (Option ℕ) Code
channels_of Audio found = or_default 1 (number_of 1 255) found >>= (λ n. Ok (Some n))
channels_of Video found = Ok None

abbrev pub payload_type_name : Place → List ℕ
payload_type_name InParams = codes "payloadType"
payload_type_name InCaps = codes "preferredPayloadType"

-- capabilities may leave it open
abbrev pub payload_type_of : Place → Option Data → Result (Option ℕ) Code
payload_type_of InParams found = required (number_of 0 127) found >>= (λ n. Ok (Some n))
payload_type_of InCaps found = optional (number_of 0 127) found

-- whole numbers of 64 signed bits
abbrev pub is_64_bits : ℤ → Bool
is_64_bits z = not (int_lt z (neg_ℤ (pos (2 ^ 63)))) && int_lt z (pos (2 ^ 63))

abbrev pub if_64_bits : ℤ → Option ℤ
if_64_bits z = if is_64_bits z then Some z else None

abbrev pub scalar_of : Data → Result Scalar Code
scalar_of (string text) = Ok (Word text)
scalar_of other = or_form (option_and_then if_64_bits (option_and_then as_integer (as_number other))) >>= (λ z. Ok (Number z))

-- a payload type, which `apt` names
abbrev pub apt_value_of : Data → Result Scalar Code
apt_value_of d = number_of 0 127 d >>= (λ n. Ok (Number (pos n)))

abbrev pub value_of : List ℕ → Data → Result Scalar Code
value_of name d = if bytes_eq name (codes "apt") then apt_value_of d else scalar_of d

unfoldable pub parameter_of : List ℕ × Data → Result (List ℕ × Scalar) Code
parameter_of m = value_of m.0 m.1 >>= (λ value. Ok (m.0, value))

abbrev pub parameters_of : Data → Result (List (List ℕ × Scalar)) Code
parameters_of d = do
  members ← object_of d
  read_behind (λ _. parameter_of) [] (members_list members)

unfoldable pub feedback_in : Members → Result (List ℕ × List ℕ) Code
feedback_in members = do
  type ← required text_of (get_member (codes "type") members)
  parameter ← or_default [] text_of (get_member (codes "parameter") members)
  Ok (type, parameter)

abbrev pub feedback_of : Data → Result (List ℕ × List ℕ) Code
feedback_of d = object_of d >>= feedback_in

-- the members of a codec, in their order
unfoldable pub codec_in : Place → Members → Result Codec Code
codec_in place members = do
  mime_type ← required mime_type_of (get_member (codes "mimeType") members)
  clock_rate ← required (number_of 1 4294967295) (get_member (codes "clockRate") members)
  channels ← channels_of mime_type.0 (get_member (codes "channels") members)
  payload_type ← payload_type_of place (get_member (payload_type_name place) members)
  parameters ← or_default [] parameters_of (get_member (codes "parameters") members)
  feedback ← or_default [] (list_of feedback_of) (get_member (codes "rtcpFeedback") members)
  Ok (record { media = mime_type.0; name = mime_type.1; payload_type = payload_type; clock_rate = clock_rate; channels = channels; parameters = parameters; feedback = feedback })

abbrev pub codec_of : Place → Data → Result Codec Code
codec_of place d = object_of d >>= codec_in place
