-- Worked rows: what a Router was given, and its codecs or the first fault.
use Rattle.std.specs.Prelude.{◌≡◌, ℕ, List, [], ◌∷◌, map, codes, Option, Some, None, Ok, Err, pos, refl}
use Rattle.ms_base.specs.declared.keys.Media.TheVariants.{Audio, Video}
use Rattle.rtp_params.specs.declared.codec.Codec.{Codec}
use Rattle.rtp_params.specs.declared.codec.Scalar.TheVariants.{Number}
use Rattle.rtp_params.specs.Table.{ext_table}
use Rattle.ortc_map.specs.Rules.{unsupported_codec, no_type_left, duplicate_type}
use Rattle.ortc_map.specs.Supported.{supported_codecs, audio_feedback, video_feedback}
use Rattle.ortc_map.specs.RouterCaps.{dynamic_types, next_type, rtx_codec, router_caps, with_codec, with_codecs}

-- codecs as a Router is given them
abbrev pub opus_for : Option ℕ → Codec
opus_for type = record { media = Audio; name = codes "OPUS"; payload_type = type; clock_rate = 48000; channels = Some 2; parameters = (codes "useinbandfec", Number (pos 1)) ∷ []; feedback = [] }

abbrev pub vp8_for : Option ℕ → Codec
vp8_for type = record { media = Video; name = codes "VP8"; payload_type = type; clock_rate = 90000; channels = None; parameters = []; feedback = (codes "nack", codes "other") ∷ [] }

abbrev pcmu : Codec
pcmu = record { media = Audio; name = codes "PCMU"; payload_type = None; clock_rate = 8000; channels = Some 1; parameters = []; feedback = [] }

-- opus, and VP8 with its retransmissions
abbrev pub router_opus : Codec
router_opus = record { media = Audio; name = codes "opus"; payload_type = Some 100; clock_rate = 48000; channels = Some 2; parameters = (codes "useinbandfec", Number (pos 1)) ∷ []; feedback = audio_feedback }

abbrev pub router_vp8 : Codec
router_vp8 = record { media = Video; name = codes "VP8"; payload_type = Some 101; clock_rate = 90000; channels = None; parameters = []; feedback = video_feedback }

abbrev pub router_rtx : Codec
router_rtx = record { media = Video; name = codes "rtx"; payload_type = Some 102; clock_rate = 90000; channels = None; parameters = (codes "apt", Number (pos 101)) ∷ []; feedback = [] }

abbrev pub router_codecs : List Codec
router_codecs = router_opus ∷ router_vp8 ∷ router_rtx ∷ []

opus_and_vp8 : router_caps (opus_for None ∷ vp8_for None ∷ []) ≡ Ok (record { codecs = router_codecs; exts = ext_table })
unfolding supported_codecs dynamic_types with_codec
opus_and_vp8 = refl

no_codecs : router_caps [] ≡ Ok (record { codecs = []; exts = ext_table })
no_codecs = refl

-- a payload type that is given isn't drawn, the table's own comes before the next, and retransmissions draw theirs
abbrev given_types : List Codec
given_types = vp8_for (Some 100) ∷ pcmu ∷ opus_for None ∷ []

types_row : with_codecs [] given_types
    ≡ Ok (
    record router_vp8 { payload_type = Some 100 }
    ∷ rtx_codec 101 90000 100
    ∷ record pcmu { payload_type = Some 0; feedback = audio_feedback }
    ∷ record router_opus { payload_type = Some 102 }
    ∷ []
    )
unfolding supported_codecs dynamic_types with_codec
types_row = refl

-- the faults: codec by codec the first counts
abbrev isac : Codec
isac = record pcmu { name = codes "ISAC"; clock_rate = 16000 }

not_supported : router_caps (opus_for None ∷ isac ∷ []) ≡ Err unsupported_codec
unfolding supported_codecs dynamic_types with_codec
not_supported = refl

-- retransmissions come by themselves
rtx_is_not_supported : router_caps (rtx_codec 97 90000 96 ∷ []) ≡ Err unsupported_codec
unfolding supported_codecs with_codec
rtx_is_not_supported = refl

one_type_twice : router_caps (opus_for (Some 7) ∷ vp8_for (Some 7) ∷ isac ∷ []) ≡ Err duplicate_type
unfolding supported_codecs dynamic_types with_codec
one_type_twice = refl

drawn_before : router_caps (opus_for None ∷ opus_for (Some 100) ∷ []) ≡ Err duplicate_type
unfolding supported_codecs dynamic_types with_codec
drawn_before = refl

table_type_twice : router_caps (pcmu ∷ pcmu ∷ []) ≡ Err duplicate_type
unfolding supported_codecs with_codec
table_type_twice = refl

-- all 32 are drawn in their order, and then none is left
abbrev typed : List ℕ → List Codec
typed types = map (λ t. opus_for (Some t)) types

abbrev up_to_126 : List ℕ
up_to_126 =
    100 ∷ 101 ∷ 102 ∷ 103 ∷ 104 ∷ 105 ∷ 106 ∷ 107 ∷ 108 ∷ 109 ∷ 110 ∷ 111 ∷ 112 ∷ 113 ∷ 114 ∷ 115 ∷ 116 ∷ 117 ∷ 118
    ∷ 119 ∷ 120 ∷ 121 ∷ 122 ∷ 123 ∷ 124 ∷ 125 ∷ 126 ∷ []

next_after_126 : next_type (typed up_to_126) ≡ Ok 127
unfolding dynamic_types
next_after_126 = refl

next_after_127 : next_type (typed (127 ∷ up_to_126)) ≡ Ok 96
unfolding dynamic_types
next_after_127 = refl

last : next_type (typed (127 ∷ 96 ∷ 97 ∷ 98 ∷ up_to_126)) ≡ Ok 99
unfolding dynamic_types
last = refl

none_left : next_type (typed (127 ∷ 96 ∷ 97 ∷ 98 ∷ 99 ∷ up_to_126)) ≡ Err no_type_left
unfolding dynamic_types
none_left = refl
