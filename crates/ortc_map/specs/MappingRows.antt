-- Worked rows: what a Producer sends, and how it is mapped.
use Rattle.std.specs.Prelude.{◌≡◌, ℕ, List, [], ◌∷◌, true, codes, Some, None, Ok, Err, pos, refl}
use Rattle.ms_base.specs.declared.keys.Media.TheVariants.{Audio}
use Rattle.rtp_params.specs.declared.codec.Codec.{Codec}
use Rattle.rtp_params.specs.declared.codec.Scalar.TheVariants.{Number}
use Rattle.rtp_params.specs.declared.params.Caps.{Caps}
use Rattle.rtp_params.specs.declared.params.Params.{Params}
use Rattle.ortc_map.specs.Rules.{unsupported_codec, wrong_apt}
use Rattle.ortc_map.specs.ProducerMapping.{media_types, rtx_types, mapped_ssrcs, mapped_types, producer_mapping}
use Rattle.ortc_map.specs.MatchingRows.{audio, video}
use Rattle.ortc_map.specs.RouterRows.{router_codecs}

abbrev vp8 : ℕ → Codec
vp8 type = video (codes "VP8") type []

abbrev rtx : ℕ → ℕ → Codec
rtx type apt = video (codes "RTX") type ((codes "apt", Number (pos apt)) ∷ [])

abbrev params_with : List Codec → Params
params_with codecs = record { codecs = codecs; exts = []; encodings = record { ssrc = 2222; rtx = Some 2223 } ∷ []; cname = []; reduced_size = true }

abbrev caps_with : List Codec → Caps
caps_with codecs = record { codecs = codecs; exts = [] }

-- VP8 with its retransmissions, for a Router of opus and VP8
a_camera : producer_mapping (params_with (vp8 96 ∷ rtx 97 96 ∷ [])) (caps_with router_codecs) 100000000
    ≡ Ok (record { codecs = (96, 101) ∷ (97, 102) ∷ []; encodings = (2222, 100000000) ∷ [] })
unfolding media_types rtx_types
a_camera = refl

-- those for retransmissions come last
rtx_first : mapped_types router_codecs (rtx 97 96 ∷ audio (codes "opus") 111 48000 2 ∷ vp8 96 ∷ []) ≡ Ok ((111, 100) ∷ (96, 101) ∷ (97, 102) ∷ [])
unfolding media_types rtx_types
rtx_first = refl

ssrcs_in_a_row : mapped_ssrcs 5 (record { ssrc = 7; rtx = None } ∷ record { ssrc = 5; rtx = None } ∷ []) ≡ (7, 5) ∷ (5, 6) ∷ []
ssrcs_in_a_row = refl

-- the faults: of those that carry media first
not_supported : mapped_types router_codecs (rtx 97 95 ∷ video (codes "VP9") 98 [] ∷ []) ≡ Err unsupported_codec
unfolding media_types
not_supported = refl

no_such_type : mapped_types router_codecs (vp8 96 ∷ rtx 97 95 ∷ []) ≡ Err wrong_apt
unfolding media_types rtx_types
no_such_type = refl

no_apt : mapped_types router_codecs (vp8 96 ∷ video (codes "rtx") 97 [] ∷ []) ≡ Err wrong_apt
unfolding media_types rtx_types
no_apt = refl

-- retransmissions of retransmissions
apt_of_rtx : mapped_types router_codecs (vp8 96 ∷ rtx 97 96 ∷ rtx 98 97 ∷ []) ≡ Err unsupported_codec
unfolding media_types rtx_types
apt_of_rtx = refl

-- the first codec of a payload type counts
two_of_one_type : mapped_types router_codecs (rtx 96 96 ∷ vp8 96 ∷ []) ≡ Err unsupported_codec
unfolding media_types rtx_types
two_of_one_type = refl

-- the Router has no retransmissions of audio
rtx_of_audio : mapped_types router_codecs (audio (codes "opus") 111 48000 2 ∷ record (rtx 112 111) { media = Audio } ∷ []) ≡ Err unsupported_codec
unfolding media_types rtx_types
rtx_of_audio = refl
