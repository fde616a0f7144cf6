-- Worked rows: what goes through a pipe, with retransmissions and without.
use Rattle.std.specs.Prelude.{◌≡◌, ℕ, List, [], ◌∷◌, true, false, codes, Some, None, pos, refl}
use Rattle.ms_base.specs.declared.keys.Media.TheVariants.{Video}
use Rattle.rtp_params.specs.declared.codec.Codec.{Codec}
use Rattle.rtp_params.specs.declared.codec.Scalar.TheVariants.{Number}
use Rattle.rtp_params.specs.declared.encoding.Encoding.{Encoding}
use Rattle.rtp_params.specs.declared.ext.Ext.{Ext}
use Rattle.rtp_params.specs.declared.params.Params.{Params}
use Rattle.pipe_params.specs.Pipe.{pipe_params}

abbrev vp8 : List (List ℕ × List ℕ) → Codec
vp8 feedback = record { media = Video; name = codes "VP8"; payload_type = Some 101; clock_rate = 90000; channels = None; parameters = []; feedback = feedback }

abbrev rtx : Codec
rtx = record { media = Video; name = codes "rtx"; payload_type = Some 102; clock_rate = 90000; channels = None; parameters = (codes "apt", Number (pos 101)) ∷ []; feedback = [] }

abbrev ext : ℕ → Ext
ext id = record { media = None; uri = codes "urn:x"; id = id; sends = true }

abbrev stream : ℕ → Encoding
stream ssrc = record { ssrc = ssrc; rtx = None }

abbrev doubled : ℕ → ℕ → Encoding
doubled ssrc rtx = record { ssrc = ssrc; rtx = Some rtx }

abbrev made_of : List Codec → List Ext → List Encoding → Params
made_of codecs exts encodings = record { codecs = codecs; exts = exts; encodings = encodings; cname = codes "c"; reduced_size = true }

abbrev camera : Params
camera =
    made_of
    (vp8 ((codes "nack", []) ∷ (codes "nack", codes "pli") ∷ (codes "ccm", codes "fir") ∷ (codes "goog-remb", []) ∷ (codes "transport-cc", []) ∷ []) ∷ rtx ∷ [])
    (ext 1 ∷ ext 4 ∷ ext 5 ∷ ext 7 ∷ ext 12 ∷ [])
    (stream 7 ∷ stream 9 ∷ stream 8 ∷ [])

plain_row : pipe_params camera false 100
    ≡ made_of (vp8 ((codes "nack", codes "pli") ∷ (codes "ccm", codes "fir") ∷ []) ∷ []) (ext 7 ∷ ext 12 ∷ []) (stream 100 ∷ stream 101 ∷ stream 102 ∷ [])
unfolding pipe_params
plain_row = refl

rtx_row : pipe_params camera true 100
    ≡ made_of
    (vp8 ((codes "nack", []) ∷ (codes "nack", codes "pli") ∷ (codes "ccm", codes "fir") ∷ []) ∷ rtx ∷ [])
    (ext 7 ∷ ext 12 ∷ [])
    (doubled 100 103 ∷ doubled 101 104 ∷ doubled 102 105 ∷ [])
unfolding pipe_params
rtx_row = refl

-- other feedback of the same types doesn't go through
other_row : pipe_params (made_of (vp8 ((codes "nack", codes "rpsi") ∷ (codes "ccm", []) ∷ (codes "NACK", codes "pli") ∷ []) ∷ []) [] []) true 100
    ≡ made_of (vp8 [] ∷ []) [] []
unfolding pipe_params
other_row = refl
