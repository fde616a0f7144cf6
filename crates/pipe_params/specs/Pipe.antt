-- What goes through a pipe between two Routers (this project's own). A pipe has a stream for each encoding, and asks
-- for key frames and, where it retransmits, for lost packets; what depends on one receiver doesn't go through.
use Rattle.std.specs.Prelude.{ℕ, ◌+◌, ◌==◌, ◌&&◌, ◌||◌, List, [], ◌++◌, length, map, filter, Bool, not, codes, if◌then◌else◌, Some, None, bytes_eq}
use Rattle.std.specs.List.{range_with_len, filter_map}
use Rattle.rtp_params.specs.declared.codec.Codec.{Codec}
use Rattle.rtp_params.specs.declared.encoding.Encoding.{Encoding}
use Rattle.rtp_params.specs.declared.ext.Ext.{Ext}
use Rattle.rtp_params.specs.declared.params.Params.{Params}
use Rattle.rtp_params.specs.Names.{is_rtx}

-- a kind of feedback (RFC 4585, section 4.2), its type and its parameter letter by letter
abbrev pub is_feedback : List ℕ → List ℕ → List ℕ × List ℕ → Bool
is_feedback type parameter f = bytes_eq f.0 type && bytes_eq f.1 parameter

-- the requests for a key frame: picture loss (RFC 4585, section 6.3.1) and full intra request (RFC 5104, section 4.3.1)
abbrev pub asks_for_key_frame : List ℕ × List ℕ → Bool
asks_for_key_frame f = is_feedback (codes "nack") (codes "pli") f || is_feedback (codes "ccm") (codes "fir") f

-- the request for a lost packet (RFC 4585, section 6.2.1)
abbrev pub asks_for_packet : List ℕ × List ℕ → Bool
asks_for_packet f = is_feedback (codes "nack") [] f

abbrev pub feedback_stays : Bool → List ℕ × List ℕ → Bool
feedback_stays with_rtx f = asks_for_key_frame f || (with_rtx && asks_for_packet f)

-- codecs for retransmissions are for a pipe that retransmits
abbrev pub codec_stays : Bool → Codec → Bool
codec_stays with_rtx codec = with_rtx || not (is_rtx codec)

abbrev pub pipe_codec : Bool → Codec → Codec
pipe_codec with_rtx codec = record codec { feedback = filter (feedback_stays with_rtx) codec.feedback }

abbrev pub pipe_codecs : Bool → List Codec → List Codec
pipe_codecs with_rtx codecs = map (pipe_codec with_rtx) (filter (codec_stays with_rtx) codecs)

-- the ids of the media identification, the time of sending and the transport-wide number, which each transport
-- writes for itself
abbrev pub is_of_one_transport : Ext → Bool
is_of_one_transport ext = ext.id == 1 || ext.id == 4 || ext.id == 5

abbrev pub pipe_exts : List Ext → List Ext
pipe_exts exts = filter (λ ext. not (is_of_one_transport ext)) exts

-- one of so many encodings: the SSRCs of the retransmissions stand behind all others
abbrev pub pipe_encoding : Bool → ℕ → ℕ → Encoding
pipe_encoding with_rtx count ssrc = record { ssrc = ssrc; rtx = if with_rtx then Some (ssrc + count) else None }

-- so many encodings, with the SSRCs from the first on
abbrev pub pipe_encodings : Bool → ℕ → ℕ → List Encoding
pipe_encodings with_rtx first count = map (pipe_encoding with_rtx count) (range_with_len first count)

-- the parameters of a pipe's Consumer, of the consumable ones
unfoldable pub pipe_params : Params → Bool → ℕ → Params
pipe_params consumable with_rtx first =
    record {
      codecs = pipe_codecs with_rtx consumable.codecs;
      exts = pipe_exts consumable.exts;
      encodings = pipe_encodings with_rtx first (length consumable.encodings);
      cname = consumable.cname;
      reduced_size = consumable.reduced_size;
    }

-- how many SSRCs so many encodings draw
abbrev pub ssrcs_drawn : Bool → ℕ → ℕ
ssrcs_drawn with_rtx count = if with_rtx then count + count else count

-- the SSRCs of encodings: their own, then those of the retransmissions
abbrev pub ssrcs_of : List Encoding → List ℕ
ssrcs_of encodings = map (λ e. e.ssrc) encodings ++ filter_map (λ e. e.rtx) encodings
