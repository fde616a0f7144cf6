-- Parameters and capabilities read back from what they are written as.
use Rattle.std.proofs.Common.{◌≡◌, ℕ, List, [], ◌∷◌, ◌++◌, Bool, true, false, map, codes, eqb, Option, Some, None, option_map, Ok, refl, sym, ap, ◌∙◌, append_assoc, arith}
use Rattle.std.proofs.lemmas.Bool.{or_from, or_parts}
use Rattle.serde_json.specs.Data.{Data, boolean, string, Members, no_members, member}
use Rattle.serde_json.specs.Find.{get_member}
use Rattle.ms_base.specs.declared.keys.Media.{Media}
use Rattle.ms_base.specs.declared.keys.Media.TheVariants.{Audio, Video}
use Rattle.rtp_params.specs.declared.encoding.Encoding.{Encoding}
use Rattle.rtp_params.specs.declared.ext.Ext.{Ext}
use Rattle.rtp_params.specs.declared.params.Params.{Params}
use Rattle.rtp_params.specs.declared.params.Caps.{Caps}
use Rattle.rtp_params.specs.declared.place.Place.{Place}
use Rattle.rtp_params.specs.declared.place.Place.TheVariants.{InParams, InCaps}
use Rattle.rtp_params.specs.Reading.{optional}
use Rattle.rtp_params.specs.Codecs.{codec_of}
use Rattle.rtp_params.specs.Exts.{kind_of, is_sent, ext_in, ext_of}
use Rattle.rtp_params.specs.Encodings.{is_own, rtx_of, encoding_in, encoding_of, encodings_of}
use Rattle.rtp_params.specs.Whole.{rtcp_in, params_in, params_of, caps_in, caps_of}
use Rattle.rtp_params.specs.Writing.{number_value, put_optional, list_value, codec_value, direction_text, kind_text, ext_value, rtx_value, encoding_value, params_value, caps_value}
use Rattle.rtp_params.specs.Readable.{Each, IsCodec, IsExt, HasRtx, IsEncoding, AreApart, IsParams, IsCaps}
use Rattle.rtp_params.proofs.ReadLemmas.{items_list_of, eqb_swapped}
use Rattle.rtp_params.proofs.Back.{number_back, filled_back, EachBehind, read_back, list_back}
use Rattle.rtp_params.proofs.CodecBack.{codec_back}

kind_back : (media : Option Media) → kind_of (string (kind_text media)) ≡ Ok media
kind_back None = refl
kind_back (Some Audio) = refl
kind_back (Some Video) = refl

sends_back : (sends : Bool) → is_sent (direction_text sends) ≡ sends
sends_back true = refl
sends_back false = refl

-- an extension of parameters is known by its uri and its id
of_params : (ext : Ext) → ext.media ≡ None → ext.sends ≡ true → ◌≡◌ {A = Ext} (record { media = None; uri = ext.uri; id = ext.id; sends = true }) ext
of_params ext both sent =
    ap (λ (m : Option Media). record { media = m; uri = ext.uri; id = ext.id; sends = true }) (sym both)
    ∙ ap (λ (s : Bool). record { media = ext.media; uri = ext.uri; id = ext.id; sends = s }) (sym sent)

ext_back : (place : Place) (ext : Ext) → IsExt place ext → ext_of place (ext_value place ext) ≡ Ok ext
unfolding ext_in ext_value
ext_back InParams ext h = rw (filled_back ext.uri h.uri, number_back 1 255 ext.id h.id) (ap Ok (of_params ext h.direction.0 h.direction.1))
ext_back InCaps ext h = rw (kind_back ext.media, filled_back ext.uri h.uri, number_back 1 255 ext.id h.id, sends_back ext.sends) refl

-- ---- encodings

rtx_back : (rtx : Option ℕ) → HasRtx rtx → optional rtx_of (option_map rtx_value rtx) ≡ Ok rtx
rtx_back (Some ssrc) h = rw (number_back 0 4294967295 ssrc (omega arith, h)) refl
rtx_back None h = refl

found : (rtx : Option ℕ) (ssrc : Data)
    → let ms : Members = put_optional (codes "rtx") (option_map rtx_value rtx) (member (codes "ssrc") ssrc no_members) in
    (get_member (codes "ssrc") ms ≡ Some ssrc) × (get_member (codes "rtx") ms ≡ option_map rtx_value rtx)
found (Some n) ssrc = (refl, refl)
found None ssrc = (refl, refl)

encoding_back : (before : List Encoding) (encoding : Encoding) → IsEncoding encoding → is_own before encoding.ssrc ≡ false
    → encoding_of before (encoding_value encoding) ≡ Ok encoding
unfolding encoding_in encoding_value
encoding_back before encoding h new =
    let at = found encoding.rtx (number_value encoding.ssrc) in
    rw (at.0, number_back 0 4294967295 encoding.ssrc (omega arith, h.0), new, at.1, rtx_back encoding.rtx h.1) refl

other_middle : (before : List Encoding) (e : Encoding) (es : List Encoding) (ssrc : ℕ) → is_own (before ++ e ∷ es) ssrc ≡ false → eqb ssrc e.ssrc ≡ false
other_middle [] e es ssrc h = eqb_swapped e.ssrc ssrc (or_parts (eqb e.ssrc ssrc) (is_own es ssrc) h).0
other_middle (b ∷ before) e es ssrc h = other_middle before e es ssrc (or_parts (eqb b.ssrc ssrc) (is_own (before ++ e ∷ es) ssrc) h).1

-- no encoding before it has the SSRC of one that stands apart from all others
apart_behind : (before : List Encoding) (e : Encoding) (es : List Encoding) → AreApart (before ++ e ∷ es) → is_own before e.ssrc ≡ false
apart_behind [] e es h = refl
apart_behind (b ∷ before) e es h = or_from (eqb b.ssrc e.ssrc) (is_own before e.ssrc) (other_middle before e es b.ssrc h.0) (apart_behind before e es h.1)

encodings_behind : (before es : List Encoding) → Each IsEncoding es → AreApart (before ++ es)
    → EachBehind (λ bs e. encoding_of bs (encoding_value e) ≡ Ok e) before es
encodings_behind before [] h apart = tt
encodings_behind before (e ∷ es) h apart =
    let next : AreApart ((before ++ e ∷ []) ++ es) = rw (append_assoc before (e ∷ []) es) apart in
    (encoding_back before e h.0 (apart_behind before e es apart), encodings_behind (before ++ e ∷ []) es h.1 next)

encodings_back : (es : List Encoding) → Each IsEncoding es → AreApart es → encodings_of (list_value encoding_value es) ≡ Ok es
encodings_back es h apart =
    rw (items_list_of (map encoding_value es)) (read_back encoding_of encoding_value [] es (encodings_behind [] es h apart))

-- ---- the whole

rtcp_back : (cname : List ℕ) (reduced_size : Bool)
    → rtcp_in (member (codes "cname") (string cname) (member (codes "reducedSize") (boolean reduced_size) no_members)) ≡ Ok (cname, reduced_size)
unfolding rtcp_in
rtcp_back cname reduced_size = refl

pub params_back : (params : Params) → IsParams params → params_of (params_value params) ≡ Ok params
unfolding params_in params_value
params_back params h =
    rw (
      list_back (codec_of InParams) (codec_value InParams) (IsCodec InParams) (codec_back InParams) params.codecs h.codecs,
      list_back (ext_of InParams) (ext_value InParams) (IsExt InParams) (ext_back InParams) params.exts h.exts,
      encodings_back params.encodings h.encodings h.apart,
      rtcp_back params.cname params.reduced_size,
    ) refl

pub caps_back : (caps : Caps) → IsCaps caps → caps_of (caps_value caps) ≡ Ok caps
unfolding caps_in caps_value
caps_back caps h =
    rw (
      list_back (codec_of InCaps) (codec_value InCaps) (IsCodec InCaps) (codec_back InCaps) caps.codecs h.codecs,
      list_back (ext_of InCaps) (ext_value InCaps) (IsExt InCaps) (ext_back InCaps) caps.exts h.exts,
    ) refl
