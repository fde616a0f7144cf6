-- What a Producer keeps for packets beside what contracts see of it. This project's own.
use Rattle.std.specs.Prelude.{◌≡◌, ℕ, ◌<◌, List, length, get_or, Bool, true, false, codes, if◌then◌else◌, Option, None, option_map}
use Rattle.keyframes.specs.Reading.{is_vp8_key_start, is_vp9_key_start}
use Rattle.ms_base.specs.declared.keys.Media.{Media}
use Rattle.ms_base.specs.declared.keys.Media.TheVariants as media
use Rattle.rtp_params.specs.Names.{is_same_name}
use Rattle.rtp_params.specs.declared.codec.Codec.{Codec}
use Rattle.rtp_params.specs.declared.mapping.Mapping.{Mapping}
use Rattle.rtp_params.specs.declared.params.Params.{Params}
use Rattle.producer.specs.declared.coding.Coding.{Coding}
use Rattle.producer.specs.declared.coding.Coding.TheVariants.{Audio, Vp8, Vp9, OtherVideo}
use Rattle.producer.specs.declared.types.MediaType.{MediaType}
use Rattle.producer.specs.Received.{media_of}

abbrev pub coding_as : Media → List ℕ → Coding
coding_as media.Audio name = Audio
coding_as media.Video name = if is_same_name name (codes "VP8") then Vp8 else if is_same_name name (codes "VP9") then Vp9 else OtherVideo

abbrev pub coding_of : Codec → Coding
coding_of codec = coding_as codec.media codec.name

abbrev pub is_video_by : Coding → Bool
is_video_by Audio = false
is_video_by Vp8 = true
is_video_by Vp9 = true
is_video_by OtherVideo = true

abbrev pub starts_key_by : Coding → List ℕ → Bool
starts_key_by Audio payload = false
starts_key_by Vp8 payload = is_vp8_key_start payload
starts_key_by Vp9 payload = is_vp9_key_start payload
starts_key_by OtherVideo payload = false

abbrev pub kept_as : Codec × ℕ → MediaType
kept_as kind = record { mapped = kind.1; coding = coding_of kind.0 }

-- what is known of a payload type, if it is one of media and is mapped
abbrev pub media_type : Params → Mapping → ℕ → Option MediaType
media_type params mapping t = option_map kept_as (media_of params mapping t)

pub record AreMediaTypes (params : Params) (mapping : Mapping) (types : List (Option MediaType)) : Type 0 where
  pub places : length types ≡ 128
  pub each : (t : ℕ) → t < 128 → get_or types t None ≡ media_type params mapping t
