-- The header extensions that are supported (this project's own): their ids, what they are for, and whether
-- they are sent.
use Rattle.std.specs.Prelude.{ℕ, ◌&&◌, List, [], ◌∷◌, Bool, true, false, codes, filter, Option, Some, None}
use Rattle.ms_base.specs.declared.keys.Media.{Media}
use Rattle.ms_base.specs.declared.keys.Media.TheVariants.{Audio, Video}
use Rattle.rtp_params.specs.declared.ext.Ext.{Ext}
use Rattle.rtp_params.specs.declared.table.Row.{Row}

abbrev pub ext_row : ℕ → List ℕ → Option Media → Bool → Ext
ext_row id uri media sends = record { media = media; uri = uri; id = id; sends = sends }

unfoldable pub ext_table : List Ext
ext_table =
    ext_row 1 (codes "urn:ietf:params:rtp-hdrext:sdes:mid") None true
    ∷ ext_row 2 (codes "urn:ietf:params:rtp-hdrext:sdes:rtp-stream-id") (Some Video) false
    ∷ ext_row 3 (codes "urn:ietf:params:rtp-hdrext:sdes:repaired-rtp-stream-id") (Some Video) false
    ∷ ext_row 4 (codes "http://www.webrtc.org/experiments/rtp-hdrext/abs-send-time") None true
    ∷ ext_row 5 (codes "http://www.ietf.org/id/draft-holmer-rmcat-transport-wide-cc-extensions-01") None true
    ∷ ext_row 7 (codes "urn:ietf:params:rtp-hdrext:framemarking") (Some Video) true
    ∷ ext_row 10 (codes "urn:ietf:params:rtp-hdrext:ssrc-audio-level") (Some Audio) true
    ∷ ext_row 11 (codes "urn:3gpp:video-orientation") (Some Video) true
    ∷ ext_row 12 (codes "urn:ietf:params:rtp-hdrext:toffset") (Some Video) true
    ∷ []

-- the extension that a row of the table in the code is
abbrev pub ext_of_row : Row → Ext
ext_of_row r = ext_row r.id r.uri.now r.media r.sends

-- whether it is for this media
abbrev pub is_for : Media → Option Media → Bool
is_for media None = true
is_for Audio (Some Audio) = true
is_for Video (Some Video) = true
is_for Audio (Some Video) = false
is_for Video (Some Audio) = false

abbrev pub is_sent_for : Media → Ext → Bool
is_sent_for media ext = ext.sends && is_for media ext.media

-- those that are sent for this media, in the table's order
abbrev pub sent_exts : Media → List Ext
sent_exts media = filter (is_sent_for media) ext_table
