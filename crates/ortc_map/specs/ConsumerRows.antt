-- Worked rows: what is offered of a camera, and what is received of it.
use Rattle.std.specs.Prelude.{◌≡◌, ℕ, List, [], ◌∷◌, true, false, codes, Option, Some, None, Ok, Err, pos, refl}
use Rattle.ms_base.specs.declared.code.Code.TheVariants as code
use Rattle.ms_base.specs.declared.keys.Media.TheVariants.{Video}
use Rattle.rtp_params.specs.declared.codec.Codec.{Codec}
use Rattle.rtp_params.specs.declared.codec.Scalar.TheVariants.{Number, Word}
use Rattle.rtp_params.specs.declared.encoding.Encoding.{Encoding}
use Rattle.rtp_params.specs.declared.ext.Ext.{Ext}
use Rattle.rtp_params.specs.declared.mapping.Mapping.{Mapping}
use Rattle.rtp_params.specs.declared.params.Caps.{Caps}
use Rattle.rtp_params.specs.declared.params.Params.{Params}
use Rattle.rtp_params.specs.Table.{ext_table}
use Rattle.ortc_map.specs.declared.fault.MapFault.TheVariants.{Unsupported}
use Rattle.ortc_map.specs.Consumable.{consumable}
use Rattle.ortc_map.specs.ConsumerParams.{can_consume, consumer_params}
use Rattle.ortc_map.specs.MatchingRows.{video}
use Rattle.ortc_map.specs.RouterRows.{router_codecs, router_vp8, router_rtx}

-- a Producer of VP8 with a parameter of its own, and its retransmissions
abbrev vp8 : Codec
vp8 = video (codes "vp8") 96 ((codes "x-note", Word (codes "a")) ∷ [])

abbrev rtx : Codec
rtx = video (codes "rtx") 97 ((codes "apt", Number (pos 96)) ∷ [])

abbrev ext : ℕ → List ℕ → Ext
ext id uri = record { media = None; uri = uri; id = id; sends = true }

abbrev time_of_sending : Ext
time_of_sending = ext 4 (codes "http://www.webrtc.org/experiments/rtp-hdrext/abs-send-time")

abbrev transport_wide : Ext
transport_wide = ext 5 (codes "http://www.ietf.org/id/draft-holmer-rmcat-transport-wide-cc-extensions-01")

abbrev stream : ℕ → Option ℕ → List Encoding
stream ssrc again = record { ssrc = ssrc; rtx = again } ∷ []

abbrev camera : Params
camera = record { codecs = vp8 ∷ rtx ∷ []; exts = ext 9 (codes "urn:x") ∷ []; encodings = stream 2222 (Some 2223); cname = codes "c"; reduced_size = false }

abbrev its_mapping : Mapping
its_mapping = record { codecs = (96, 101) ∷ (97, 102) ∷ []; encodings = (2222, 100000000) ∷ [] }

abbrev offered_vp8 : Codec
offered_vp8 = record router_vp8 { parameters = vp8.parameters }

abbrev offer_of : List Codec → List Ext → Params
offer_of codecs exts = record { codecs = codecs; exts = exts; encodings = stream 100000000 None; cname = codes "c"; reduced_size = true }

-- the Router's codecs, ids and SSRC, with the Producer's parameters
offer_row : consumable Video camera (record { codecs = router_codecs; exts = ext_table }) its_mapping
    ≡ offer_of
    (offered_vp8 ∷ router_rtx ∷ [])
    (
    ext 1 (codes "urn:ietf:params:rtp-hdrext:sdes:mid")
    ∷ time_of_sending
    ∷ transport_wide
    ∷ ext 7 (codes "urn:ietf:params:rtp-hdrext:framemarking")
    ∷ ext 11 (codes "urn:3gpp:video-orientation")
    ∷ ext 12 (codes "urn:ietf:params:rtp-hdrext:toffset")
    ∷ []
    )
unfolding consumable ext_table
offer_row = refl

-- without a codec of the Router for its retransmissions a codec is offered alone, and one that is not mapped isn't
offer_alone : (consumable Video camera (record { codecs = router_vp8 ∷ []; exts = [] }) its_mapping).codecs ≡ offered_vp8 ∷ []
unfolding consumable
offer_alone = refl

offer_of_none : (consumable Video camera (record { codecs = router_codecs; exts = [] }) (record { codecs = (97, 102) ∷ []; encodings = [] })).codecs ≡ []
unfolding consumable
offer_of_none = refl

-- Receivers.

abbrev can : List ℕ → List (List ℕ × List ℕ) → Codec
can name feedback = record (video name 120 []) { feedback = feedback }

abbrev all_feedback : List (List ℕ × List ℕ)
all_feedback = (codes "nack", []) ∷ (codes "goog-remb", codes "x") ∷ (codes "transport-cc", []) ∷ []

abbrev caps_with : List Codec → List Ext → Caps
caps_with codecs exts = record { codecs = codecs; exts = exts }

abbrev both : Params
both = offer_of (offered_vp8 ∷ router_rtx ∷ []) (time_of_sending ∷ transport_wide ∷ [])

can_with_vp8 : can_consume both (caps_with (can (codes "VP8") [] ∷ []) []) ≡ true
unfolding can_consume
can_with_vp8 = refl

cannot_with_vp9 : can_consume both (caps_with (can (codes "VP9") [] ∷ []) []) ≡ false
unfolding can_consume
cannot_with_vp9 = refl

cannot_with_rtx : can_consume both (caps_with (can (codes "rtx") [] ∷ []) []) ≡ false
unfolding can_consume
cannot_with_rtx = refl

vp9_alone : consumer_params both (caps_with (can (codes "VP9") [] ∷ []) []) 7 ≡ Err (Unsupported code.Codecs)
unfolding consumer_params
vp9_alone = refl

rtx_alone : consumer_params both (caps_with (can (codes "rtx") [] ∷ []) []) 7 ≡ Err (Unsupported code.Codecs)
unfolding consumer_params
rtx_alone = refl

abbrev received_of : List Codec → List Ext → Option ℕ → Params
received_of codecs exts again = record (offer_of codecs exts) { encodings = stream 7 again }

abbrev vp8_with : List (List ℕ × List ℕ) → Codec
vp8_with feedback = record offered_vp8 { feedback = feedback }

-- with both extensions bandwidth is estimated by the numbers, with one by it, and with none it isn't
with_numbers : consumer_params both (caps_with (can (codes "VP8") all_feedback ∷ []) (transport_wide ∷ time_of_sending ∷ [])) 7
    ≡ Ok (received_of (vp8_with ((codes "nack", []) ∷ (codes "transport-cc", []) ∷ []) ∷ []) (time_of_sending ∷ transport_wide ∷ []) None)
unfolding consumer_params
with_numbers = refl

with_times : consumer_params both (caps_with (can (codes "VP8") all_feedback ∷ []) (time_of_sending ∷ record transport_wide { id = 6 } ∷ [])) 7
    ≡ Ok (received_of (vp8_with ((codes "nack", []) ∷ (codes "goog-remb", codes "x") ∷ []) ∷ []) (time_of_sending ∷ []) None)
unfolding consumer_params
with_times = refl

with_neither : consumer_params both (caps_with (can (codes "VP8") all_feedback ∷ []) []) 7
    ≡ Ok (received_of (vp8_with ((codes "nack", []) ∷ []) ∷ []) [] None)
unfolding consumer_params
with_neither = refl

-- the first capability that matches gives the feedback; retransmissions have the next SSRC
with_rtx : consumer_params both (caps_with (can (codes "RTX") [] ∷ can (codes "VP8") [] ∷ can (codes "VP8") all_feedback ∷ []) []) 7
    ≡ Ok (received_of (vp8_with [] ∷ router_rtx ∷ []) [] (Some 8))
unfolding consumer_params
with_rtx = refl

-- Of two codecs the second alone is matched, and the codec for retransmissions of the first: that one is matched first, and
-- doesn't stay. So it can't be consumed, and yet the parameters aren't refused.
abbrev two : Params
two = offer_of (record router_vp8 { name = codes "H264" } ∷ router_rtx ∷ record router_vp8 { payload_type = Some 103 } ∷ []) []

abbrev vp8_and_rtx : Caps
vp8_and_rtx = caps_with (can (codes "VP8") [] ∷ can (codes "rtx") [] ∷ []) []

cannot_with_second : can_consume two vp8_and_rtx ≡ false
unfolding can_consume
cannot_with_second = refl

second_alone : consumer_params two vp8_and_rtx 7
    ≡ Ok (record { codecs = record router_vp8 { payload_type = Some 103; feedback = [] } ∷ []; exts = []; encodings = stream 7 None; cname = codes "c"; reduced_size = true })
unfolding consumer_params
second_alone = refl
