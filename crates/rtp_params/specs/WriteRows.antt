-- Worked rows: what parameters and capabilities are written as, with the members in the order of their names.
use Rattle.std.specs.Prelude.{◌≡◌, [], ◌∷◌, true, false, codes, Some, None, pos, refl}
use Rattle.serde_json.specs.Data.{boolean, string}
use Rattle.ms_base.specs.declared.keys.Media.TheVariants.{Audio, Video}
use Rattle.rtp_params.specs.declared.codec.Scalar.TheVariants.{Number, Word}
use Rattle.rtp_params.specs.declared.place.Place.TheVariants.{InParams, InCaps}
use Rattle.rtp_params.specs.ReadRows.{an_object, a_list}
use Rattle.rtp_params.specs.Writing.{number_value, codec_value, ext_value, encoding_value, params_value, caps_value}

opus_row : codec_value InParams (record { media = Audio; name = codes "opus"; payload_type = Some 111; clock_rate = 48000; channels = Some 2; parameters = (codes "useinbandfec", Number (pos 1)) ∷ (codes "minptime", Word (codes "10")) ∷ []; feedback = (codes "transport-cc", []) ∷ [] })
    ≡ an_object (
    (codes "channels", number_value 2)
    ∷ (codes "clockRate", number_value 48000)
    ∷ (codes "mimeType", string (codes "audio/opus"))
    ∷ (codes "parameters", an_object ((codes "minptime", string (codes "10")) ∷ (codes "useinbandfec", number_value 1) ∷ []))
    ∷ (codes "payloadType", number_value 111)
    ∷ (codes "rtcpFeedback", a_list (an_object ((codes "parameter", string []) ∷ (codes "type", string (codes "transport-cc")) ∷ []) ∷ []))
    ∷ []
    )
unfolding codec_value
opus_row = refl

-- capabilities may leave the payload type open, and video has no channels
vp8_row : codec_value InCaps (record { media = Video; name = codes "VP8"; payload_type = None; clock_rate = 90000; channels = None; parameters = []; feedback = [] })
    ≡ an_object (
    (codes "clockRate", number_value 90000)
    ∷ (codes "mimeType", string (codes "video/VP8"))
    ∷ (codes "parameters", an_object [])
    ∷ (codes "rtcpFeedback", a_list [])
    ∷ []
    )
unfolding codec_value
vp8_row = refl

preferred_row : codec_value InCaps (record { media = Video; name = codes "VP8"; payload_type = Some 100; clock_rate = 90000; channels = None; parameters = []; feedback = [] })
    ≡ an_object (
    (codes "clockRate", number_value 90000)
    ∷ (codes "mimeType", string (codes "video/VP8"))
    ∷ (codes "parameters", an_object [])
    ∷ (codes "preferredPayloadType", number_value 100)
    ∷ (codes "rtcpFeedback", a_list [])
    ∷ []
    )
unfolding codec_value
preferred_row = refl

ext_row : ext_value InCaps (record { media = Some Audio; uri = codes "urn:x"; id = 10; sends = false })
    ≡ an_object (
    (codes "direction", string (codes "recvonly"))
    ∷ (codes "kind", string (codes "audio"))
    ∷ (codes "preferredId", number_value 10)
    ∷ (codes "uri", string (codes "urn:x"))
    ∷ []
    )
unfolding ext_value
ext_row = refl

encoding_row : encoding_value (record { ssrc = 7; rtx = Some 8 })
    ≡ an_object ((codes "rtx", an_object ((codes "ssrc", number_value 8) ∷ [])) ∷ (codes "ssrc", number_value 7) ∷ [])
unfolding encoding_value
encoding_row = refl

params_row : params_value (record { codecs = []; exts = record { media = None; uri = codes "urn:x"; id = 3; sends = true } ∷ []; encodings = record { ssrc = 7; rtx = None } ∷ []; cname = codes "c"; reduced_size = false })
    ≡ an_object (
    (codes "codecs", a_list [])
    ∷ (codes "encodings", a_list (an_object ((codes "ssrc", number_value 7) ∷ []) ∷ []))
    ∷ (codes "headerExtensions", a_list (an_object ((codes "id", number_value 3) ∷ (codes "uri", string (codes "urn:x")) ∷ []) ∷ []))
    ∷ (codes "rtcp", an_object ((codes "cname", string (codes "c")) ∷ (codes "reducedSize", boolean false) ∷ []))
    ∷ []
    )
unfolding ext_value encoding_value params_value
params_row = refl

caps_row : caps_value (record { codecs = []; exts = [] }) ≡ an_object ((codes "codecs", a_list []) ∷ (codes "headerExtensions", a_list []) ∷ [])
unfolding caps_value
caps_row = refl
