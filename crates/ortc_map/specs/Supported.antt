-- The codecs that are supported (this project's own): the table of their clock rates, channels, payload types and
-- feedback. The types of PCMU and PCMA are those of RFC 3551, section 6; the others have none of their own.
use Rattle.std.specs.Prelude.{ℕ, List, [], ◌∷◌, codes, Option, Some, None}
use Rattle.ms_base.specs.declared.keys.Media.{Media}
use Rattle.ms_base.specs.declared.keys.Media.TheVariants.{Audio, Video}
use Rattle.rtp_params.specs.declared.codec.Codec.{Codec}
use Rattle.ortc_map.specs.declared.supported.Row.{Row}
use Rattle.ortc_map.specs.declared.supported.FeedbackRow.{FeedbackRow}

-- of audio: packets are numbered over the whole transport
abbrev pub audio_feedback : List (List ℕ × List ℕ)
audio_feedback = (codes "transport-cc", []) ∷ []

-- of video (RFC 4585, sections 6.2.1 and 6.3.1; RFC 5104, section 4.3.1)
abbrev pub video_feedback : List (List ℕ × List ℕ)
video_feedback =
    (codes "nack", [])
    ∷ (codes "nack", codes "pli")
    ∷ (codes "ccm", codes "fir")
    ∷ (codes "goog-remb", [])
    ∷ (codes "transport-cc", [])
    ∷ []

abbrev pub audio_codec : List ℕ → ℕ → ℕ → Option ℕ → Codec
audio_codec name clock_rate channels payload_type = record { media = Audio; name = name; payload_type = payload_type; clock_rate = clock_rate; channels = Some channels; parameters = []; feedback = audio_feedback }

abbrev pub video_codec : List ℕ → ℕ → Codec
video_codec name clock_rate = record { media = Video; name = name; payload_type = None; clock_rate = clock_rate; channels = None; parameters = []; feedback = video_feedback }

unfoldable pub supported_codecs : List Codec
supported_codecs =
    audio_codec (codes "opus") 48000 2 None
    ∷ audio_codec (codes "PCMU") 8000 1 (Some 0)
    ∷ audio_codec (codes "PCMA") 8000 1 (Some 8)
    ∷ video_codec (codes "VP8") 90000
    ∷ video_codec (codes "VP9") 90000
    ∷ []

abbrev pub feedback_for : Media → List (List ℕ × List ℕ)
feedback_for Audio = audio_feedback
feedback_for Video = video_feedback

-- the codec that a row of the table in the code is
abbrev pub codec_of_row : Row → Codec
codec_of_row r = record { media = r.media; name = r.name.now; payload_type = r.payload_type; clock_rate = r.clock_rate; channels = r.channels; parameters = []; feedback = feedback_for r.media }

-- the feedback that a row of a table in the code is
abbrev pub feedback_of_row : FeedbackRow → List ℕ × List ℕ
feedback_of_row r = (r.kind.now, r.parameter.now)
