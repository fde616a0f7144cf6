-- Worked rows: values, and what they are read as.
use Rattle.std.specs.Prelude.{◌≡◌, ℕ, ◌^◌, ◌-◌, List, [], ◌∷◌, true, false, codes, Some, None, Ok, Err, pos, negsuc, refl}
use Rattle.serde_json.specs.Data.{negative, Data, null, boolean, number, string, array, object, Items, no_items, item, Members, no_members, member}
use Rattle.ms_base.specs.declared.code.Code.TheVariants as code
use Rattle.ms_base.specs.declared.keys.Media.TheVariants.{Audio, Video}
use Rattle.rtp_params.specs.declared.codec.Codec.{Codec}
use Rattle.rtp_params.specs.declared.codec.Scalar.TheVariants.{Number, Word}
use Rattle.rtp_params.specs.declared.place.Place.TheVariants.{InParams, InCaps}
use Rattle.rtp_params.specs.Reading.{number_of}
use Rattle.rtp_params.specs.Codecs.{mime_type_in, parameter_of, feedback_in, feedback_of, parameters_of, codec_in, codec_of}
use Rattle.rtp_params.specs.Exts.{ext_in, ext_of}
use Rattle.rtp_params.specs.Encodings.{encoding_in, encodings_of}
use Rattle.rtp_params.specs.Mappings.{types_in, ssrcs_in, mapping_in, mapping_of}
use Rattle.rtp_params.specs.Names.{is_rtx, apt_of}
use Rattle.rtp_params.specs.Whole.{rtcp_in, rtcp_of, params_in, params_of, caps_in, caps_of}
use Rattle.rtp_params.specs.Writing.{number_value}

-- objects and lists, the members in the order of their names
abbrev members_with : List (List ℕ × Data) → Members
members_with [] = no_members
members_with (m ∷ ms) = member m.0 m.1 (members_with ms)

abbrev pub an_object : List (List ℕ × Data) → Data
an_object ms = object (members_with ms)

abbrev items_with : List Data → Items
items_with [] = no_items
items_with (d ∷ ds) = item d (items_with ds)

abbrev pub a_list : List Data → Data
a_list ds = array (items_with ds)

abbrev a_text : List ℕ → Data
a_text text = string text

-- opus as a browser offers it
abbrev opus_value : Data
opus_value =
    an_object (
    (codes "channels", number_value 2)
    ∷ (codes "clockRate", number_value 48000)
    ∷ (codes "mimeType", a_text (codes "audio/opus"))
    ∷ (codes "parameters", an_object ((codes "minptime", number_value 10) ∷ (codes "stereo", a_text (codes "1")) ∷ []))
    ∷ (codes "payloadType", number_value 111)
    ∷ (codes "rtcpFeedback", a_list (an_object ((codes "type", a_text (codes "transport-cc")) ∷ []) ∷ []))
    ∷ []
    )

abbrev opus : Codec
opus = record { media = Audio; name = codes "opus"; payload_type = Some 111; clock_rate = 48000; channels = Some 2; parameters = (codes "minptime", Number (pos 10)) ∷ (codes "stereo", Word (codes "1")) ∷ []; feedback = (codes "transport-cc", []) ∷ [] }

opus_row : codec_of InParams opus_value ≡ Ok opus
unfolding number_of mime_type_in parameter_of feedback_in codec_in
opus_row = refl

-- VP8 in capabilities: the media in any case, no payload type, and the channels of video aren't read
abbrev vp8_value : Data
vp8_value =
    an_object (
    (codes "channels", null)
    ∷ (codes "clockRate", number_value 90000)
    ∷ (codes "mimeType", a_text (codes "VIDEO/VP8"))
    ∷ (
      codes "rtcpFeedback",
      a_list (
          an_object ((codes "parameter", a_text (codes "pli")) ∷ (codes "type", a_text (codes "nack")) ∷ [])
          ∷ an_object ((codes "type", a_text (codes "goog-remb")) ∷ [])
          ∷ []
          ),
    )
    ∷ []
    )

abbrev vp8 : Codec
vp8 = record { media = Video; name = codes "VP8"; payload_type = None; clock_rate = 90000; channels = None; parameters = []; feedback = (codes "nack", codes "pli") ∷ (codes "goog-remb", []) ∷ [] }

vp8_row : codec_of InCaps vp8_value ≡ Ok vp8
unfolding number_of mime_type_in feedback_in codec_in
vp8_row = refl

-- the codec of VP8's retransmissions
abbrev rtx_value : Data
rtx_value =
    an_object (
    (codes "clockRate", number_value 90000)
    ∷ (codes "mimeType", a_text (codes "video/RTX"))
    ∷ (codes "parameters", an_object ((codes "apt", number_value 96) ∷ []))
    ∷ (codes "payloadType", number_value 97)
    ∷ []
    )

abbrev rtx : Codec
rtx = record { media = Video; name = codes "RTX"; payload_type = Some 97; clock_rate = 90000; channels = None; parameters = (codes "apt", Number (pos 96)) ∷ []; feedback = [] }

rtx_row : codec_of InParams rtx_value ≡ Ok rtx
unfolding number_of mime_type_in parameter_of codec_in
rtx_row = refl

rtx_is_rtx : is_rtx rtx ≡ true
rtx_is_rtx = refl

opus_is_not : is_rtx opus ≡ false
opus_is_not = refl

rtx_apt : apt_of rtx ≡ Some 96
rtx_apt = refl

-- audio has one channel where it names none
abbrev codec_in_params : List (List ℕ × Data) → Data
codec_in_params more = an_object ((codes "clockRate", number_value 8000) ∷ (codes "mimeType", a_text (codes "audio/PCMU")) ∷ more)

one_channel : codec_of InParams (codec_in_params ((codes "payloadType", number_value 0) ∷ []))
    ≡ Ok (record { media = Audio; name = codes "PCMU"; payload_type = Some 0; clock_rate = 8000; channels = Some 1; parameters = []; feedback = [] })
unfolding number_of mime_type_in codec_in
one_channel = refl

-- the faults of a codec
no_mime_type : codec_of InParams (an_object []) ≡ Err code.Form
unfolding codec_in
no_mime_type = refl

other_media : mime_type_in (codes "text/opus") ≡ Err code.Form
unfolding mime_type_in
other_media = refl

no_slash : mime_type_in (codes "audio") ≡ Err code.Form
unfolding mime_type_in
no_slash = refl

no_name : mime_type_in (codes "audio/") ≡ Err code.Form
unfolding mime_type_in
no_name = refl

-- the name is all behind the first slash
two_slashes : mime_type_in (codes "Audio/a/b") ≡ Ok (Audio, codes "a/b")
unfolding mime_type_in
two_slashes = refl

no_clock_rate : number_of 1 4294967295 (number_value 0) ≡ Err code.Form
unfolding number_of
no_clock_rate = refl

high_clock_rate : number_of 1 4294967295 (number_value (2 ^ 32)) ≡ Err code.Form
unfolding number_of
high_clock_rate = refl

-- a `null` isn't a member that was left out
null_channels : codec_of InParams (an_object ((codes "channels", null) ∷ (codes "clockRate", number_value 8000) ∷ (codes "mimeType", a_text (codes "audio/PCMU")) ∷ (codes "payloadType", number_value 0) ∷ [])) ≡ Err code.Form
unfolding number_of mime_type_in codec_in
null_channels = refl

no_payload_type : codec_of InParams (codec_in_params []) ≡ Err code.Form
unfolding number_of mime_type_in codec_in
no_payload_type = refl

high_payload_type : codec_of InParams (codec_in_params ((codes "payloadType", number_value 128) ∷ [])) ≡ Err code.Form
unfolding number_of mime_type_in codec_in
high_payload_type = refl

least_number : parameter_of (codes "x", number (negative (negsuc (2 ^ 63 - 1)))) ≡ Ok (codes "x", Number (negsuc (2 ^ 63 - 1)))
unfolding parameter_of
least_number = refl

great_parameter : parameters_of (an_object ((codes "x", number_value (2 ^ 63)) ∷ [])) ≡ Err code.Form
unfolding parameter_of
great_parameter = refl

bool_parameter : parameters_of (an_object ((codes "x", boolean true) ∷ [])) ≡ Err code.Form
unfolding parameter_of
bool_parameter = refl

high_apt : parameters_of (an_object ((codes "apt", number_value 128) ∷ [])) ≡ Err code.Form
unfolding number_of parameter_of
high_apt = refl

text_apt : parameters_of (an_object ((codes "apt", a_text (codes "96")) ∷ [])) ≡ Err code.Form
unfolding number_of parameter_of
text_apt = refl

no_feedback_type : feedback_of (an_object ((codes "parameter", a_text (codes "pli")) ∷ [])) ≡ Err code.Form
unfolding feedback_in
no_feedback_type = refl

-- extensions
ext_of_params_row : ext_of InParams (an_object ((codes "id", number_value 3) ∷ (codes "uri", a_text (codes "urn:x")) ∷ [])) ≡ Ok (record { media = None; uri = codes "urn:x"; id = 3; sends = true })
unfolding number_of ext_in
ext_of_params_row = refl

ext_of_caps_row : ext_of InCaps (an_object ((codes "direction", a_text (codes "recvonly")) ∷ (codes "kind", a_text (codes "video")) ∷ (codes "preferredId", number_value 3) ∷ (codes "uri", a_text (codes "urn:x")) ∷ []))
    ≡ Ok (record { media = Some Video; uri = codes "urn:x"; id = 3; sends = false })
unfolding number_of ext_in
ext_of_caps_row = refl

empty_uri : ext_of InParams (an_object ((codes "id", number_value 3) ∷ (codes "uri", a_text []) ∷ [])) ≡ Err code.Form
unfolding number_of ext_in
empty_uri = refl

no_id : ext_of InParams (an_object ((codes "id", number_value 0) ∷ (codes "uri", a_text (codes "urn:x")) ∷ [])) ≡ Err code.Form
unfolding number_of ext_in
no_id = refl

other_kind : ext_of InCaps (an_object ((codes "kind", a_text (codes "Video")) ∷ (codes "preferredId", number_value 3) ∷ (codes "uri", a_text (codes "urn:x")) ∷ [])) ≡ Err code.Form
unfolding number_of ext_in
other_kind = refl

-- encodings
abbrev with_ssrc : ℕ → List (List ℕ × Data) → Data
with_ssrc ssrc more = an_object ((codes "ssrc", number_value ssrc) ∷ more)

abbrev rtx_of_ssrc : Data → Data → Data
rtx_of_ssrc ssrc retransmissions = an_object ((codes "rtx", retransmissions) ∷ (codes "ssrc", ssrc) ∷ [])

encodings_row : encodings_of (a_list (rtx_of_ssrc (number_value 7) (with_ssrc 7 []) ∷ with_ssrc 8 [] ∷ []))
    ≡ Ok (record { ssrc = 7; rtx = Some 7 } ∷ record { ssrc = 8; rtx = None } ∷ [])
unfolding number_of encoding_in
encodings_row = refl

no_object : encodings_of (a_list (number_value 7 ∷ [])) ≡ Err code.Form
no_object = refl

no_ssrc : encodings_of (a_list (an_object [] ∷ [])) ≡ Err code.Ssrc
unfolding encoding_in
no_ssrc = refl

high_ssrc : encodings_of (a_list (with_ssrc (2 ^ 32) [] ∷ [])) ≡ Err code.Ssrc
unfolding number_of encoding_in
high_ssrc = refl

-- a repeated SSRC is found before what else is wrong with the item, and behind what is wrong with those before it
same_ssrc : encodings_of (a_list (with_ssrc 7 [] ∷ rtx_of_ssrc (number_value 7) null ∷ [])) ≡ Err code.Ssrc
unfolding number_of encoding_in
same_ssrc = refl

earlier_rtx : encodings_of (a_list (rtx_of_ssrc (number_value 7) null ∷ with_ssrc 7 [] ∷ [])) ≡ Err code.Form
unfolding number_of encoding_in
earlier_rtx = refl

high_rtx : encodings_of (a_list (rtx_of_ssrc (number_value 7) (with_ssrc (2 ^ 32) []) ∷ [])) ≡ Err code.Form
unfolding number_of encoding_in
high_rtx = refl

-- the whole
params_row : params_of (an_object ((codes "codecs", a_list (opus_value ∷ [])) ∷ (codes "encodings", a_list (with_ssrc 7 [] ∷ [])) ∷ []))
    ≡ Ok (record { codecs = opus ∷ []; exts = []; encodings = record { ssrc = 7; rtx = None } ∷ []; cname = []; reduced_size = true })
unfolding number_of mime_type_in parameter_of feedback_in codec_in encoding_in rtcp_in params_in
params_row = refl

no_codecs : params_of (an_object ((codes "encodings", a_list []) ∷ [])) ≡ Err code.Form
unfolding params_in
no_codecs = refl

no_encodings : params_of (an_object ((codes "codecs", a_list []) ∷ [])) ≡ Err code.Form
unfolding params_in
no_encodings = refl

-- the encodings are read behind the extensions and before `rtcp`
in_order : params_of (an_object ((codes "codecs", a_list []) ∷ (codes "encodings", a_list (an_object [] ∷ [])) ∷ (codes "headerExtensions", a_list []) ∷ (codes "rtcp", null) ∷ [])) ≡ Err code.Ssrc
unfolding encoding_in params_in
in_order = refl

exts_first : params_of (an_object ((codes "codecs", a_list []) ∷ (codes "encodings", a_list (an_object [] ∷ [])) ∷ (codes "headerExtensions", null) ∷ [])) ≡ Err code.Form
unfolding encoding_in params_in
exts_first = refl

null_rtcp : rtcp_of (Some null) ≡ Err code.Form
null_rtcp = refl

text_for_size : rtcp_of (Some (an_object ((codes "reducedSize", a_text (codes "true")) ∷ []))) ≡ Err code.Form
unfolding rtcp_in
text_for_size = refl

no_caps : caps_of (an_object []) ≡ Ok (record { codecs = []; exts = [] })
unfolding caps_in
no_caps = refl

null_caps : caps_of null ≡ Err code.Form
null_caps = refl

-- mappings: of what the sender has, and what stands for it
abbrev types_item : ℕ → ℕ → Data
types_item mapped payload_type = an_object ((codes "mappedPayloadType", number_value mapped) ∷ (codes "payloadType", number_value payload_type) ∷ [])

abbrev ssrcs_item : ℕ → ℕ → Data
ssrcs_item mapped ssrc = an_object ((codes "mappedSsrc", number_value mapped) ∷ (codes "ssrc", number_value ssrc) ∷ [])

abbrev mapping_with : List Data → List Data → Data
mapping_with codecs encodings = an_object ((codes "codecs", a_list codecs) ∷ (codes "encodings", a_list encodings) ∷ [])

mapping_row : mapping_of (mapping_with (types_item 101 96 ∷ types_item 102 97 ∷ []) (ssrcs_item 100000000 2222 ∷ []))
    ≡ Ok (record { codecs = (96, 101) ∷ (97, 102) ∷ []; encodings = (2222, 100000000) ∷ [] })
unfolding number_of types_in ssrcs_in mapping_in
mapping_row = refl

no_codecs_of_mapping : mapping_of (an_object ((codes "encodings", a_list []) ∷ [])) ≡ Err code.Form
unfolding mapping_in
no_codecs_of_mapping = refl

no_encodings_of_mapping : mapping_of (an_object ((codes "codecs", a_list []) ∷ [])) ≡ Err code.Form
unfolding mapping_in
no_encodings_of_mapping = refl

high_mapped_type : mapping_of (mapping_with (types_item 128 96 ∷ []) []) ≡ Err code.Form
unfolding number_of types_in mapping_in
high_mapped_type = refl

high_mapped_ssrc : mapping_of (mapping_with [] (ssrcs_item (2 ^ 32) 7 ∷ [])) ≡ Err code.Form
unfolding number_of ssrcs_in mapping_in
high_mapped_ssrc = refl
