-- What a Producer says of a packet. RFC 3550, section 5.1, has the SSRC and the payload type; what they are mapped to is this project's
-- own, after mediasoup. When a payload starts a key frame stands in keyframes.
use Rattle.std.specs.Prelude.{ℕ, List, Bool, true, false, not, ◌&&◌, ◌==◌, find, codes, if◌then◌else◌, Option, Some, None, option_map, option_and_then}
use Rattle.std.specs.List.{list_any}
use Rattle.keyframes.specs.Reading.{is_vp8_key_start, is_vp9_key_start}
use Rattle.ms_base.specs.declared.keys.Media.{Media}
use Rattle.ms_base.specs.declared.keys.Media.TheVariants.{Audio, Video}
use Rattle.rtp_extension.specs.declared.mapped.Mapped.{Mapped}
use Rattle.rtp_packet.specs.Packet.{Fields}
use Rattle.rtp_params.specs.Names.{is_rtx, is_same_name}
use Rattle.rtp_params.specs.declared.codec.Codec.{Codec}
use Rattle.rtp_params.specs.declared.encoding.Encoding.{Encoding}
use Rattle.rtp_params.specs.declared.mapping.Mapping.{Mapping}
use Rattle.rtp_params.specs.declared.params.Params.{Params}

-- what a number is mapped to: the first pair counts
abbrev pub mapped_to : List (ℕ × ℕ) → ℕ → Option ℕ
mapped_to pairs n = option_map (λ pair. pair.1) (find (λ pair. pair.0 == n) pairs)

-- ---- the SSRC

-- an encoding has this SSRC as its own
abbrev pub is_media_ssrc : List Encoding → ℕ → Bool
is_media_ssrc encodings ssrc = list_any (λ e. e.ssrc == ssrc) encodings

abbrev pub mapped_ssrc : Params → Mapping → ℕ → Option ℕ
mapped_ssrc params mapping ssrc = if is_media_ssrc params.encodings ssrc then mapped_to mapping.encodings ssrc else None

-- ---- the payload type

-- a payload type is this one
abbrev pub has_type : Option ℕ → ℕ → Bool
has_type (Some own) t = own == t
has_type None t = false

-- a codec of media has this payload type: those of retransmissions are set aside
abbrev pub is_media_codec : ℕ → Codec → Bool
is_media_codec t codec = has_type codec.payload_type t && not (is_rtx codec)

-- the first codec of media with a payload type, and what the type is mapped to
abbrev pub media_of : Params → Mapping → ℕ → Option (Codec × ℕ)
media_of params mapping t =
    option_and_then (λ codec. option_map (λ mapped. (codec, mapped)) (mapped_to mapping.codecs t)) (find (is_media_codec t) params.codecs)

-- ---- key frames

abbrev pub is_video : Media → Bool
is_video Audio = false
is_video Video = true

-- of VP8 and VP9 by the payload; of another codec of video it isn't told
abbrev pub starts_key_as : Media → List ℕ → List ℕ → Bool
starts_key_as Audio name payload = false
starts_key_as Video name payload =
    if is_same_name name (codes "VP8") then is_vp8_key_start payload
    else if is_same_name name (codes "VP9") then is_vp9_key_start payload
    else false

abbrev pub starts_key : Codec → List ℕ → Bool
starts_key codec payload = starts_key_as codec.media codec.name payload

-- ---- the whole

abbrev pub mapped_as : List ℕ → Codec × ℕ → ℕ → Mapped
mapped_as payload kind ssrc = record { ssrc = ssrc; payload_type = kind.1; key = starts_key kind.0 payload; video = is_video kind.0.media }

-- None exactly where the packet's SSRC or payload type isn't one of the Producer's media, as far as the mapping has them
abbrev pub received : Params → Mapping → Fields → Option Mapped
received params mapping f =
    option_and_then (λ kind. option_map (mapped_as f.payload kind) (mapped_ssrc params mapping f.ssrc)) (media_of params mapping f.payload_type)
