-- Parameters and capabilities that are read are such as can be read.
use Rattle.std.proofs.Common.{IfOk, ◌≡◌, ℕ, ◌≤◌, ◌^◌, List, [], ◌∷◌, ◌++◌, Bool, true, false, codes, cond, eqb, Option, Some, None, IsSome, option_and_then, Result, Ok, Err, ℤ, pos, refl, sym, ap, ◌∙◌, subst, arith}
use Rattle.std.proofs.lemmas.Bool.{or_from, or_parts, le-leb, lt-ltb, false≢true}
use Rattle.std.proofs.lemmas.Slice.Eq.{bytes_eq-Decides}
use Rattle.std.specs.List.{before_first, after_first}
use Rattle.std.specs.Str.{bytes_eq}
use Rattle.serde_json.specs.Data.{Data, null, boolean, number, string, array, object, Members}
use Rattle.serde_json.specs.Find.{get_member, as_number, as_integer, as_array}
use Rattle.ms_base.specs.declared.code.Code.{Code}
use Rattle.ms_base.specs.declared.code.Code.TheVariants as code
use Rattle.ms_base.specs.declared.keys.Media.{Media}
use Rattle.ms_base.specs.declared.keys.Media.TheVariants.{Audio, Video}
use Rattle.rtp_params.specs.declared.codec.Codec.{Codec}
use Rattle.rtp_params.specs.declared.codec.Scalar.{Scalar}
use Rattle.rtp_params.specs.declared.codec.Scalar.TheVariants.{Number, Word}
use Rattle.rtp_params.specs.declared.encoding.Encoding.{Encoding}
use Rattle.rtp_params.specs.declared.ext.Ext.{Ext}
use Rattle.rtp_params.specs.declared.fault.ParamFault.{ParamFault}
use Rattle.rtp_params.specs.declared.params.Params.{Params}
use Rattle.rtp_params.specs.declared.params.Caps.{Caps}
use Rattle.rtp_params.specs.declared.place.Place.{Place}
use Rattle.rtp_params.specs.declared.place.Place.TheVariants.{InParams, InCaps}
use Rattle.rtp_params.specs.Reading.{◌>>=◌, or_form, text_of, number_of, object_of, not_empty, filled_text_of, required, optional, or_default, items_list, members_list, list_of}
use Rattle.rtp_params.specs.Codecs.{is_slash, media_of, mime_type_in, mime_type_of, channels_of, payload_type_name, payload_type_of, is_64_bits, if_64_bits, scalar_of, apt_value_of, value_of, parameter_of, parameters_of, feedback_of, codec_in, codec_of}
use Rattle.rtp_params.specs.Exts.{kind_of, sends_of, ext_in, ext_of}
use Rattle.rtp_params.specs.Encodings.{is_own, ssrc_of, own_ssrc_of, rtx_of, encoding_in, encoding_of, encodings_of}
use Rattle.rtp_params.specs.Whole.{codecs_of, exts_of, rtcp_of, params_in, params_of, caps_in, caps_of}
use Rattle.rtp_params.specs.Gives.{Gives}
use Rattle.rtp_params.specs.Names.{as_payload_type}
use Rattle.rtp_params.specs.Readable.{IsWithin, Each, HasChannels, HasPayloadType, IsScalar, IsParameter, HasAscending, IsCodec, IsExt, HasRtx, IsEncoding, AreApart, IsParams, IsCaps}
use Rattle.rtp_params.proofs.ReadLemmas.{each_push, eqb_swapped}
use Rattle.rtp_params.proofs.Holds.{bind_ok, ok_is, number_holds, not_empty_holds, filled_text_holds, required_holds, default_holds, optional_holds, read_keeps, each_read, list_holds, each_both}

-- ---- codecs

mime_type_holds : (d : Data) (m : Media × List ℕ) → mime_type_of d ≡ Ok m → m.1 ≡ [] → ⊥
unfolding mime_type_in
mime_type_holds d m h none =
    let text = bind_ok (text_of d) mime_type_in m h in
    let media = bind_ok (media_of (before_first is_slash text.0)) _ m text.2 in
    let name = bind_ok (not_empty (after_first is_slash text.0)) _ m media.2 in
    not_empty_holds (after_first is_slash text.0) name.0 name.1 (ap (λ (x : Media × List ℕ). x.1) (ok_is (media.0, name.0) m name.2) ∙ none)

channels_hold : (media : Media) (found : Option Data) (channels : Option ℕ) → channels_of media found ≡ Ok channels → HasChannels media channels
channels_hold Audio found channels h =
    let read = bind_ok (or_default 1 (number_of 1 255) found) (λ n. Ok (Some n)) channels h in
    subst (HasChannels Audio) (ok_is (Some read.0) channels read.2) (default_holds (IsWithin 1 255) (number_of 1 255) 1 (omega arith, omega arith) (number_holds 1 255) found read.0 read.1)
channels_hold Video found channels h = subst (HasChannels Video) (ok_is None channels h) tt

payload_type_holds : (place : Place) (found : Option Data) (payload_type : Option ℕ) → payload_type_of place found ≡ Ok payload_type → HasPayloadType place payload_type
payload_type_holds InParams found payload_type h =
    let read = bind_ok (required (number_of 0 127) found) (λ n. Ok (Some n)) payload_type h in
    subst (HasPayloadType InParams) (ok_is (Some read.0) payload_type read.2) (required_holds (λ n. n ≤ 127) (number_of 0 127) (λ d n e. (number_holds 0 127 d n e).1) found read.0 read.1)
payload_type_holds InCaps found payload_type h =
    optional_holds (HasPayloadType InCaps) (number_of 0 127) tt (λ d n e. (number_holds 0 127 d n e).1) found payload_type h

fits_by : (b : Bool) (o z : ℤ) → is_64_bits o ≡ b → cond b (Some o) None ≡ Some z → is_64_bits z ≡ true
fits_by true o z is h = let same : o ≡ z = cc in subst (λ w. is_64_bits w ≡ true) same is
fits_by false o z is h = absurd cc

fits : (o : Option ℤ) (z : ℤ) → option_and_then if_64_bits o ≡ Some z → is_64_bits z ≡ true
fits None z h = absurd cc
fits (Some o) z h = fits_by (is_64_bits o) o z refl h

form_is : {A : Type 0} (o : Option A) (x : A) → or_form o ≡ Ok x → o ≡ Some x
form_is (Some y) x h = cc
form_is None x h = absurd cc

number_fits : (d : Data) (scalar : Scalar) → (or_form (option_and_then if_64_bits (option_and_then as_integer (as_number d))) >>= (λ z. Ok (Number z))) ≡ Ok scalar → IsScalar scalar
number_fits d scalar h =
    let read = bind_ok (or_form (option_and_then if_64_bits (option_and_then as_integer (as_number d)))) (λ z. Ok (Number z)) scalar h in
    subst IsScalar (ok_is (Number read.0) scalar read.2) (fits (option_and_then as_integer (as_number d)) read.0 (form_is _ read.0 read.1))

scalar_holds : (d : Data) (scalar : Scalar) → scalar_of d ≡ Ok scalar → IsScalar scalar
scalar_holds null scalar h = number_fits null scalar h
scalar_holds (boolean b) scalar h = number_fits (boolean b) scalar h
scalar_holds (number n) scalar h = number_fits (number n) scalar h
scalar_holds (string text) scalar h = subst IsScalar (ok_is (Word text) scalar h) tt
scalar_holds (array ds) scalar h = number_fits (array ds) scalar h
scalar_holds (object ms) scalar h = number_fits (object ms) scalar h

apt_fits : (n : ℕ) → n ≤ 127 → (is_64_bits (pos n) ≡ true) × IsSome (as_payload_type (Number (pos n)))
apt_fits n h = (lt-ltb n (2 ^ 63) (omega arith), rw (le-leb n 127 h) refl)

apt_holds : (d : Data) (scalar : Scalar) → apt_value_of d ≡ Ok scalar → IsScalar scalar × IsSome (as_payload_type scalar)
apt_holds d scalar h =
    let read = bind_ok (number_of 0 127 d) (λ n. Ok (Number (pos n))) scalar h in
    subst (λ (s : Scalar). IsScalar s × IsSome (as_payload_type s)) (ok_is (Number (pos read.0)) scalar read.2) (apt_fits read.0 (number_holds 0 127 d read.0 read.1).1)

value_holds_by : (b : Bool) (name : List ℕ) (d : Data) (scalar : Scalar) → bytes_eq name (codes "apt") ≡ b → cond b (apt_value_of d) (scalar_of d) ≡ Ok scalar → IsParameter (name, scalar)
value_holds_by true name d scalar is h = let apt = apt_holds d scalar h in (apt.0, λ _. apt.1)
value_holds_by false name d scalar is h = (scalar_holds d scalar h, λ same. absurd (false≢true (sym is ∙ (bytes_eq-Decides name (codes "apt")).1 same)))

parameter_holds : (m : List ℕ × Data) (p : List ℕ × Scalar) → parameter_of m ≡ Ok p → IsParameter p
unfolding parameter_of
parameter_holds m p h =
    let read = bind_ok (value_of m.0 m.1) _ p h in
    subst IsParameter (ok_is (m.0, read.0) p read.2) (value_holds_by (bytes_eq m.0 (codes "apt")) m.0 m.1 read.0 refl read.1)

parameters_hold : (d : Data) (ps : List (List ℕ × Scalar)) → parameters_of d ≡ Ok ps → Each IsParameter ps
parameters_hold d ps h =
    let read = bind_ok (object_of d) _ ps h in each_read IsParameter parameter_of parameter_holds (members_list read.0) ps read.2

codec_holds_in : (place : Place) (ms : Members) (codec : Codec) → codec_in place ms ≡ Ok codec → HasAscending codec → IsCodec place codec
unfolding codec_in
codec_holds_in place ms codec h ascending =
    let mime_type = bind_ok (required mime_type_of (get_member (codes "mimeType") ms)) _ codec h in
    let clock_rate = bind_ok (required (number_of 1 4294967295) (get_member (codes "clockRate") ms)) _ codec mime_type.2 in
    let channels = bind_ok (channels_of mime_type.0.0 (get_member (codes "channels") ms)) _ codec clock_rate.2 in
    let payload_type = bind_ok (payload_type_of place (get_member (payload_type_name place) ms)) _ codec channels.2 in
    let parameters = bind_ok (or_default [] parameters_of (get_member (codes "parameters") ms)) _ codec payload_type.2 in
    let feedback = bind_ok (or_default [] (list_of feedback_of) (get_member (codes "rtcpFeedback") ms)) _ codec parameters.2 in
    let made : record { media = mime_type.0.0; name = mime_type.0.1; payload_type = payload_type.0; clock_rate = clock_rate.0; channels = channels.0; parameters = parameters.0; feedback = feedback.0 } ≡ codec = ok_is _ codec feedback.2 in
    subst (IsCodec place) made (record {
      named = required_holds (λ (m : Media × List ℕ). m.1 ≡ [] → ⊥) mime_type_of mime_type_holds (get_member (codes "mimeType") ms) mime_type.0 mime_type.1;
      clock_rate = required_holds (IsWithin 1 4294967295) (number_of 1 4294967295) (number_holds 1 4294967295) (get_member (codes "clockRate") ms) clock_rate.0 clock_rate.1;
      channels = channels_hold mime_type.0.0 (get_member (codes "channels") ms) channels.0 channels.1;
      payload_type = payload_type_holds place (get_member (payload_type_name place) ms) payload_type.0 payload_type.1;
      parameters = default_holds (Each IsParameter) parameters_of [] tt parameters_hold (get_member (codes "parameters") ms) parameters.0 parameters.1;
      ascending = subst HasAscending (sym made) ascending;
    })

codec_holds : (place : Place) (d : Data) (codec : Codec) → codec_of place d ≡ Ok codec → HasAscending codec → IsCodec place codec
codec_holds place d codec h = let read = bind_ok (object_of d) (codec_in place) codec h in codec_holds_in place read.0 codec read.2

codecs_hold : (place : Place) (d : Data) (codecs : List Codec) → codecs_of place d ≡ Ok codecs → Each (λ codec. HasAscending codec → IsCodec place codec) codecs
codecs_hold place d codecs h = list_holds (λ codec. HasAscending codec → IsCodec place codec) (codec_of place) (codec_holds place) d codecs h

all_codecs : (place : Place) (codecs : List Codec) → Each (λ codec. HasAscending codec → IsCodec place codec) codecs → Each HasAscending codecs → Each (IsCodec place) codecs
all_codecs place codecs h ascending = each_both (λ codec. HasAscending codec → IsCodec place codec) HasAscending (IsCodec place) (λ codec so own. so own) codecs h ascending

-- ---- extensions

ext_holds_in : (place : Place) (ms : Members) (ext : Ext) → ext_in place ms ≡ Ok ext → IsExt place ext
unfolding ext_in
ext_holds_in InParams ms ext h =
    let uri = bind_ok (required filled_text_of (get_member (codes "uri") ms)) _ ext h in
    let id = bind_ok (required (number_of 1 255) (get_member (codes "id") ms)) _ ext uri.2 in
    subst (IsExt InParams) (ok_is _ ext id.2) (record {
      uri = required_holds (λ text. text ≡ [] → ⊥) filled_text_of filled_text_holds (get_member (codes "uri") ms) uri.0 uri.1;
      id = required_holds (IsWithin 1 255) (number_of 1 255) (number_holds 1 255) (get_member (codes "id") ms) id.0 id.1;
      direction = (refl, refl);
    })
ext_holds_in InCaps ms ext h =
    let media = bind_ok (or_default None kind_of (get_member (codes "kind") ms)) _ ext h in
    let uri = bind_ok (required filled_text_of (get_member (codes "uri") ms)) _ ext media.2 in
    let id = bind_ok (required (number_of 1 255) (get_member (codes "preferredId") ms)) _ ext uri.2 in
    let sends = bind_ok (sends_of (get_member (codes "direction") ms)) _ ext id.2 in
    subst (IsExt InCaps) (ok_is _ ext sends.2) (record {
      uri = required_holds (λ text. text ≡ [] → ⊥) filled_text_of filled_text_holds (get_member (codes "uri") ms) uri.0 uri.1;
      id = required_holds (IsWithin 1 255) (number_of 1 255) (number_holds 1 255) (get_member (codes "preferredId") ms) id.0 id.1;
      direction = tt;
    })

exts_hold : (place : Place) (d : Data) (exts : List Ext) → exts_of place d ≡ Ok exts → Each (IsExt place) exts
exts_hold place d exts h =
    list_holds (IsExt place) (ext_of place) (λ item ext e. let read = bind_ok (object_of item) (ext_in place) ext e in ext_holds_in place read.0 ext read.2) d exts h

-- ---- encodings

own_ssrc_by : (b : Bool) (before : List Encoding) (ssrc n : ℕ) → is_own before ssrc ≡ b → cond b (Err code.Ssrc) (Ok ssrc) ≡ Ok n → (is_own before n ≡ false) × (n ≡ ssrc)
own_ssrc_by true before ssrc n is h = absurd cc
own_ssrc_by false before ssrc n is h = let same : ssrc ≡ n = ok_is ssrc n h in (subst (λ m. is_own before m ≡ false) same is, sym same)

own_ssrc_holds : (before : List Encoding) (r : Result ℕ Code) (n : ℕ) → ((m : ℕ) → r ≡ Ok m → m ≤ 4294967295) → own_ssrc_of before r ≡ Ok n → (is_own before n ≡ false) × (n ≤ 4294967295)
own_ssrc_holds before (Ok ssrc) n so h = let own = own_ssrc_by (is_own before ssrc) before ssrc n refl h in (own.0, subst (λ m. m ≤ 4294967295) (sym own.1) (so ssrc refl))
own_ssrc_holds before (Err e) n so h = absurd cc

rtx_holds : (d : Data) (ssrc : ℕ) → rtx_of d ≡ Ok ssrc → ssrc ≤ 4294967295
rtx_holds d ssrc h =
    let read = bind_ok (object_of d) _ ssrc h in
    required_holds (λ n. n ≤ 4294967295) ssrc_of (λ item n e. (number_holds 0 4294967295 item n e).1) (get_member (codes "ssrc") read.0) ssrc read.2

encoding_holds : (before : List Encoding) (d : Data) (encoding : Encoding) → encoding_of before d ≡ Ok encoding → IsEncoding encoding × (is_own before encoding.ssrc ≡ false)
unfolding encoding_in
encoding_holds before d encoding h =
    let read = bind_ok (object_of d) (encoding_in before) encoding h in
    let ms = read.0 in
    let ssrc = bind_ok (own_ssrc_of before (required ssrc_of (get_member (codes "ssrc") ms))) _ encoding read.2 in
    let rtx = bind_ok (optional rtx_of (get_member (codes "rtx") ms)) _ encoding ssrc.2 in
    let own = own_ssrc_holds before (required ssrc_of (get_member (codes "ssrc") ms)) ssrc.0 (required_holds (λ n. n ≤ 4294967295) ssrc_of (λ item n e. (number_holds 0 4294967295 item n e).1) (get_member (codes "ssrc") ms)) ssrc.1 in
    subst (λ (e : Encoding). IsEncoding e × (is_own before e.ssrc ≡ false)) (ok_is (record { ssrc = ssrc.0; rtx = rtx.0 }) encoding rtx.2)
    ((own.1, optional_holds HasRtx rtx_of tt rtx_holds (get_member (codes "rtx") ms) rtx.0 rtx.1), own.0)

own_push : (es : List Encoding) (e : Encoding) (ssrc : ℕ) → is_own es ssrc ≡ false → eqb e.ssrc ssrc ≡ false → is_own (es ++ e ∷ []) ssrc ≡ false
own_push [] e ssrc none other = or_from (eqb e.ssrc ssrc) false other refl
own_push (x ∷ es) e ssrc none other =
    let parts = or_parts (eqb x.ssrc ssrc) (is_own es ssrc) none in or_from (eqb x.ssrc ssrc) (is_own (es ++ e ∷ []) ssrc) parts.0 (own_push es e ssrc parts.1 other)

apart_push : (before : List Encoding) (e : Encoding) → AreApart before → is_own before e.ssrc ≡ false → AreApart (before ++ e ∷ [])
apart_push [] e apart new = (refl, tt)
apart_push (b ∷ before) e apart new =
    let parts = or_parts (eqb b.ssrc e.ssrc) (is_own before e.ssrc) new in
    (own_push before e b.ssrc apart.0 (eqb_swapped b.ssrc e.ssrc parts.0), apart_push before e apart.1 parts.1)

pub encodings_hold : (d : Data) (es : List Encoding) → encodings_of d ≡ Ok es → Each IsEncoding es × AreApart es
encodings_hold d es h =
    let read = bind_ok (or_form (as_array d)) _ es h in
    read_keeps (λ (bs : List Encoding). Each IsEncoding bs × AreApart bs) encoding_of
    (λ before item e own is. let now = encoding_holds before item e is in (each_push IsEncoding before e own.0 now.0, apart_push before e own.1 now.1))
    [] (items_list read.0) es (tt, tt) read.2

-- ---- the whole

pub params_hold : (d : Data) (params : Params) → params_of d ≡ Ok params → Each HasAscending params.codecs → IsParams params
unfolding params_in
params_hold d params h ascending =
    let read = bind_ok (object_of d) params_in params h in
    let ms = read.0 in
    let codecs = bind_ok (required (codecs_of InParams) (get_member (codes "codecs") ms)) _ params read.2 in
    let exts = bind_ok (or_default [] (exts_of InParams) (get_member (codes "headerExtensions") ms)) _ params codecs.2 in
    let encodings = bind_ok (required encodings_of (get_member (codes "encodings") ms)) _ params exts.2 in
    let rtcp = bind_ok (rtcp_of (get_member (codes "rtcp") ms)) _ params encodings.2 in
    let made : record { codecs = codecs.0; exts = exts.0; encodings = encodings.0; cname = rtcp.0.0; reduced_size = rtcp.0.1 } ≡ params = ok_is _ params rtcp.2 in
    let streams = required_holds (λ (es : List Encoding). Each IsEncoding es × AreApart es) encodings_of encodings_hold (get_member (codes "encodings") ms) encodings.0 encodings.1 in
    subst IsParams made (record {
      codecs = all_codecs InParams codecs.0 (required_holds (Each (λ codec. HasAscending codec → IsCodec InParams codec)) (codecs_of InParams) (codecs_hold InParams) (get_member (codes "codecs") ms) codecs.0 codecs.1)
          (subst (λ (p : Params). Each HasAscending p.codecs) (sym made) ascending);
      exts = default_holds (Each (IsExt InParams)) (exts_of InParams) [] tt (exts_hold InParams) (get_member (codes "headerExtensions") ms) exts.0 exts.1;
      encodings = streams.0;
      apart = streams.1;
    })

pub caps_hold : (d : Data) (caps : Caps) → caps_of d ≡ Ok caps → Each HasAscending caps.codecs → IsCaps caps
unfolding caps_in
caps_hold d caps h ascending =
    let read = bind_ok (object_of d) caps_in caps h in
    let ms = read.0 in
    let codecs = bind_ok (or_default [] (codecs_of InCaps) (get_member (codes "codecs") ms)) _ caps read.2 in
    let exts = bind_ok (or_default [] (exts_of InCaps) (get_member (codes "headerExtensions") ms)) _ caps codecs.2 in
    let made : record { codecs = codecs.0; exts = exts.0 } ≡ caps = ok_is _ caps exts.2 in
    subst IsCaps made (record {
      codecs = all_codecs InCaps codecs.0 (default_holds (Each (λ codec. HasAscending codec → IsCodec InCaps codec)) (codecs_of InCaps) [] tt (codecs_hold InCaps) (get_member (codes "codecs") ms) codecs.0 codecs.1)
          (subst (λ (p : Caps). Each HasAscending p.codecs) (sym made) ascending);
      exts = default_holds (Each (IsExt InCaps)) (exts_of InCaps) [] tt (exts_hold InCaps) (get_member (codes "headerExtensions") ms) exts.0 exts.1;
    })

-- what a reader returned

pub params_readable : (d : Data) (r : Result Params ParamFault) → Gives r (params_of d) → IfOk r (λ params. Each HasAscending params.codecs) → IfOk r IsParams
params_readable d (Ok params) h ascending = params_hold d params h ascending
params_readable d (Err e) h ascending = tt

pub caps_readable : (d : Data) (r : Result Caps ParamFault) → Gives r (caps_of d) → IfOk r (λ caps. Each HasAscending caps.codecs) → IfOk r IsCaps
caps_readable d (Ok caps) h ascending = caps_hold d caps h ascending
caps_readable d (Err e) h ascending = tt

-- ---- the streams alone, whatever the names of parameters

pub streams_hold : (d : Data) (params : Params) → params_of d ≡ Ok params → Each IsEncoding params.encodings × AreApart params.encodings
unfolding params_in
streams_hold d params h =
    let read = bind_ok (object_of d) params_in params h in
    let ms = read.0 in
    let codecs = bind_ok (required (codecs_of InParams) (get_member (codes "codecs") ms)) _ params read.2 in
    let exts = bind_ok (or_default [] (exts_of InParams) (get_member (codes "headerExtensions") ms)) _ params codecs.2 in
    let encodings = bind_ok (required encodings_of (get_member (codes "encodings") ms)) _ params exts.2 in
    let rtcp = bind_ok (rtcp_of (get_member (codes "rtcp") ms)) _ params encodings.2 in
    let made : record { codecs = codecs.0; exts = exts.0; encodings = encodings.0; cname = rtcp.0.0; reduced_size = rtcp.0.1 } ≡ params = ok_is _ params rtcp.2 in
    subst (λ (p : Params). Each IsEncoding p.encodings × AreApart p.encodings) made
    (required_holds (λ (es : List Encoding). Each IsEncoding es × AreApart es) encodings_of encodings_hold (get_member (codes "encodings") ms) encodings.0 encodings.1)
