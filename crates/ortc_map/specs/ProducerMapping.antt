-- How what a Producer sends is mapped to what its Router has (this project's own, after mediasoup's
-- `getProducerRtpParametersMapping`).
use Rattle.std.specs.Prelude.{ℕ, ◌+◌, ◌&&◌, not, List, [], ◌∷◌, Bool, filter, find, if◌then◌else◌, Option, option_and_then, Result, Ok, Err}
use Rattle.std.specs.Option.{ok_or}
use Rattle.rtp_params.specs.declared.codec.Codec.{Codec}
use Rattle.rtp_params.specs.declared.encoding.Encoding.{Encoding}
use Rattle.rtp_params.specs.declared.mapping.Mapping.{Mapping}
use Rattle.rtp_params.specs.declared.params.Caps.{Caps}
use Rattle.rtp_params.specs.declared.params.Params.{Params}
use Rattle.rtp_params.specs.Names.{is_rtx, apt_of}
use Rattle.ortc_map.specs.declared.fault.MapFault.{MapFault}
use Rattle.ortc_map.specs.Rules.{◌>>=◌, each_behind, unsupported_codec, wrong_apt}
use Rattle.ortc_map.specs.Matching.{strictly_matches}
use Rattle.ortc_map.specs.RouterCaps.{is_number, has_type}

-- a codec that carries media, and no retransmissions
abbrev pub is_media : Codec → Bool
is_media codec = not (is_rtx codec)

-- the payload type, without which a codec can't be mapped
abbrev pub type_of : Option Codec → Result ℕ MapFault
type_of codec = ok_or (option_and_then (λ c. c.payload_type) codec) unsupported_codec

-- the type of the first Router codec that strictly matches a codec that carries media
abbrev pub router_type : List Codec → Codec → Result ℕ MapFault
router_type router codec =
    if is_rtx codec then Err unsupported_codec else type_of (find (strictly_matches codec) router)

-- the Router's codec for the retransmissions of one of its types
abbrev pub is_rtx_of : ℕ → Codec → Bool
is_rtx_of type codec = is_rtx codec && is_number type (apt_of codec)

-- the type of the Router's first such codec
abbrev pub router_rtx_type : List Codec → ℕ → Result ℕ MapFault
router_rtx_type router type = type_of (find (is_rtx_of type) router)

-- the first codec of a payload type
abbrev pub codec_of_type : List Codec → ℕ → Option Codec
codec_of_type codecs type = find (has_type type) codecs

-- the codec whose retransmissions a codec is for
abbrev pub associated : List Codec → Codec → Result Codec MapFault
associated codecs codec = ok_or (option_and_then (codec_of_type codecs) (apt_of codec)) wrong_apt

-- a codec's own type, and the one that stands for it
abbrev pub with_own_type : Codec → ℕ → Result (ℕ × ℕ) MapFault
with_own_type codec mapped = ok_or codec.payload_type unsupported_codec >>= (λ own. Ok (own, mapped))

unfoldable pub media_types : List Codec → Codec → Result (ℕ × ℕ) MapFault
media_types router codec = router_type router codec >>= with_own_type codec

unfoldable pub rtx_types : List Codec → List Codec → Codec → Result (ℕ × ℕ) MapFault
rtx_types router codecs codec = do
  media ← associated codecs codec
  type ← router_type router media
  mapped ← router_rtx_type router type
  with_own_type codec mapped

-- those that carry media first, and then those for retransmissions
abbrev pub mapped_types : List Codec → List Codec → Result (List (ℕ × ℕ)) MapFault
mapped_types router codecs = do
  media ← each_behind (media_types router) [] (filter is_media codecs)
  each_behind (rtx_types router codecs) media (filter is_rtx codecs)

-- each SSRC, and the one that stands for it: numbers in a row
abbrev pub mapped_ssrcs : ℕ → List Encoding → List (ℕ × ℕ)
mapped_ssrcs next [] = []
mapped_ssrcs next (e ∷ es) = (e.ssrc, next) ∷ mapped_ssrcs (next + 1) es

abbrev pub producer_mapping : Params → Caps → ℕ → Result Mapping MapFault
producer_mapping params caps first_ssrc = do
  types ← mapped_types caps.codecs params.codecs
  Ok (record { codecs = types; encodings = mapped_ssrcs first_ssrc params.encodings })
