-- What a Consumer receives of consumable parameters, by the capabilities of its receiver (this project's own, after
-- mediasoup's `canConsume` and `getConsumerRtpParameters`).
use Rattle.std.specs.Prelude.{ℕ, ◌==◌, ◌+◌, ◌&&◌, ◌||◌, not, List, [], ◌∷◌, Bool, false, codes, filter, find, map, if◌then◌else◌, Option, Some, None, is_some, Result, Ok, Err, bytes_eq}
use Rattle.std.specs.List.{list_any}
use Rattle.ms_base.specs.declared.code.Code.TheVariants as code
use Rattle.rtp_params.specs.declared.codec.Codec.{Codec}
use Rattle.rtp_params.specs.declared.encoding.Encoding.{Encoding}
use Rattle.rtp_params.specs.declared.ext.Ext.{Ext}
use Rattle.rtp_params.specs.declared.params.Caps.{Caps}
use Rattle.rtp_params.specs.declared.params.Params.{Params}
use Rattle.rtp_params.specs.Names.{is_rtx, apt_of}
use Rattle.ortc_map.specs.declared.fault.MapFault.{MapFault}
use Rattle.ortc_map.specs.declared.fault.MapFault.TheVariants.{Unsupported}
use Rattle.ortc_map.specs.Matching.{strictly_matches}
use Rattle.ortc_map.specs.RouterCaps.{has_type}
use Rattle.ortc_map.specs.ProducerMapping.{is_media}

-- the first of the capabilities that strictly matches a codec
abbrev pub capability_for : List Codec → Codec → Option Codec
capability_for caps codec = find (strictly_matches codec) caps

abbrev pub is_matched : List Codec → Codec → Bool
is_matched caps codec = is_some (capability_for caps codec)

-- there is a codec, and it carries media
abbrev pub carries_media : Option Codec → Bool
carries_media (Some codec) = is_media codec
carries_media None = false

-- whether the first consumable codec that is matched carries media
unfoldable pub can_consume : Params → Caps → Bool
can_consume consumable caps = carries_media (find (is_matched caps.codecs) consumable.codecs)

-- Which codecs stay.

-- a codec that carries media stays where it is matched
abbrev pub media_stays : List Codec → Codec → Bool
media_stays caps codec = is_media codec && is_matched caps codec

-- one that carries media, stays, and has this type
abbrev pub stays_with_type : List Codec → ℕ → Codec → Bool
stays_with_type caps type codec = has_type type codec && media_stays caps codec

-- retransmissions are associated by `apt` (RFC 4588, section 8.1) with a codec that stays
abbrev pub has_associated : List Codec → List Codec → Option ℕ → Bool
has_associated caps codecs None = false
has_associated caps codecs (Some apt) = list_any (stays_with_type caps apt) codecs

-- those that are matched, less those for retransmissions whose associated codec doesn't stay
abbrev pub stays : List Codec → List Codec → Codec → Bool
stays caps codecs codec = is_matched caps codec && (is_media codec || has_associated caps codecs (apt_of codec))

-- Header extensions.

abbrev pub is_same_ext : Ext → Ext → Bool
is_same_ext ext other = bytes_eq ext.uri other.uri && ext.id == other.id

-- one of the capabilities has its uri and its id
abbrev pub is_known : List Ext → Ext → Bool
is_known caps ext = list_any (is_same_ext ext) caps

abbrev pub consumer_exts : List Ext → List Ext → List Ext
consumer_exts caps exts = filter (is_known caps) exts

-- Feedback: bandwidth is estimated by numbers over the whole transport (`transport-cc`, extension 5) or by the times
-- of sending (`goog-remb`, extension 4), whatever parameter the feedback has.

abbrev pub has_ext : ℕ → List Ext → Bool
has_ext id exts = list_any (λ ext. ext.id == id) exts

abbrev pub is_remb : List ℕ × List ℕ → Bool
is_remb feedback = bytes_eq feedback.0 (codes "goog-remb")

abbrev pub is_transport_cc : List ℕ × List ℕ → Bool
is_transport_cc feedback = bytes_eq feedback.0 (codes "transport-cc")

abbrev pub feedback_goes : List Ext → List ℕ × List ℕ → Bool
feedback_goes exts feedback =
    if has_ext 5 exts then is_remb feedback
    else if has_ext 4 exts then is_transport_cc feedback
    else is_remb feedback || is_transport_cc feedback

abbrev pub feedback_stays : List Ext → List ℕ × List ℕ → Bool
feedback_stays exts feedback = not (feedback_goes exts feedback)

-- the feedback of a capability
abbrev pub feedback_of : Option Codec → List (List ℕ × List ℕ)
feedback_of (Some capability) = capability.feedback
feedback_of None = []

-- a codec with the feedback of the first capability that matches it
abbrev pub consumer_codec : List Codec → List Ext → Codec → Codec
consumer_codec caps exts codec = record codec { feedback = filter (feedback_stays exts) (feedback_of (capability_for caps codec)) }

abbrev pub consumer_codecs : List Codec → List Ext → List Codec → List Codec
consumer_codecs caps exts codecs = map (consumer_codec caps exts) (filter (stays caps codecs) codecs)

-- The whole.

-- there is a first one, and it carries media
abbrev pub start_with_media : List Codec → Bool
start_with_media [] = false
start_with_media (codec ∷ codecs) = is_media codec

-- the one stream, with retransmissions where a codec is for them
abbrev pub consumer_encoding : List Codec → ℕ → Encoding
consumer_encoding codecs ssrc = record { ssrc = ssrc; rtx = if list_any is_rtx codecs then Some (ssrc + 1) else None }

abbrev pub received : Params → List Codec → List Ext → ℕ → Result Params MapFault
received consumable codecs exts first_ssrc =
    if start_with_media codecs
    then Ok (record { codecs = codecs; exts = exts; encodings = consumer_encoding codecs first_ssrc ∷ []; cname = consumable.cname; reduced_size = consumable.reduced_size })
    else Err (Unsupported code.Codecs)

unfoldable pub consumer_params : Params → Caps → ℕ → Result Params MapFault
consumer_params consumable caps first_ssrc =
    let exts : List Ext = consumer_exts caps.exts consumable.exts in
    received consumable (consumer_codecs caps.codecs exts consumable.codecs) exts first_ssrc
