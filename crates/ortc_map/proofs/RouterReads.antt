-- What a Router has is such as reading can give.
use Rattle.std.proofs.Common.{◌≡◌, ◌≢◌, ℕ, ◌<◌, ◌≤◌, Bool, true, not, leb, lit≤, rules, List, [], ◌∷◌, ◌++◌, find, Option, Some, None, Ok, refl, subst, arith, inl, inr, codes, pos}
use Rattle.std.specs.Bool.{⊤}
use Rattle.std.specs.Option.{ok_or}
use Rattle.std.specs.List.Sorted.{IsStrictlySortedBy}
use Rattle.std.proofs.lemmas.Bool.{le-leb}
use Rattle.std.proofs.lemmas.Bool.Decides.{Decides-ltb}
use Rattle.ms_base.specs.declared.keys.Media.{Media}
use Rattle.ms_base.specs.declared.keys.Media.TheVariants.{Audio, Video}
use Rattle.rtp_params.specs.declared.codec.Codec.{Codec}
use Rattle.rtp_params.specs.declared.codec.Scalar.{Scalar}
use Rattle.rtp_params.specs.declared.codec.Scalar.TheVariants.{Number}
use Rattle.rtp_params.specs.declared.params.Caps.{Caps}
use Rattle.rtp_params.specs.Readable.{Each, IsWithin, HasChannels, HasPayloadType, IsParameter, HasAscending, HasDirection, IsCodec, IsExt, IsCaps}
use Rattle.rtp_params.specs.Table.{ext_row, ext_table}
use Rattle.ortc_map.specs.Rules.{◌>>=◌, unsupported_codec, no_type_left}
use Rattle.ortc_map.specs.Matching.{matches}
use Rattle.ortc_map.specs.Supported.{audio_codec, video_codec, supported_codecs}
use Rattle.ortc_map.specs.RouterCaps.{is_taken, dynamic_types, next_type, type_for, unused, new_type, router_codec, rtx_codec, with_rtx, with_codec, with_codecs, router_caps}
use Rattle.ortc_map.proofs.RouterLemmas.{known, bound, found_of, same_ok, unused_gives, typed, caps_of}

each_found : {A : Type 0} (P : A → Type 0) (test : A → Bool) (xs : List A) (x : A) → Each P xs → find test xs ≡ Some x → P x
each_found P test [] x each e = cc
each_found P test (y ∷ ys) x each e =
    elim (known (test y)) [
      | inl passing ↦ let this : Some y ≡ Some x = rw passing at e in let is : y ≡ x = cc in subst P is each.0
      | inr failing ↦ let later : find test ys ≡ Some x = rw failing at e in each_found P test ys x each.1 later
    ]

one_more : {A : Type 0} (P : A → Type 0) (xs : List A) (x : A) → Each P xs → P x → Each P (xs ++ x ∷ [])
one_more P [] x each here = (here, tt)
one_more P (y ∷ ys) x each here = (each.0, one_more P ys x each.1 here)

-- Payload types.

abbrev pub IsType : ℕ → Type 0
IsType type = type ≤ 127

dynamic_fit : Each IsType dynamic_types
unfolding dynamic_types
dynamic_fit = search rules

next_fits : (codecs : List Codec) (t : ℕ) → next_type codecs ≡ Ok t → IsType t
next_fits codecs t e =
    each_found IsType (λ type. not (is_taken codecs type)) dynamic_types t dynamic_fit (found_of (find (λ type. not (is_taken codecs type)) dynamic_types) no_type_left t e)

-- what there is of a payload type fits
abbrev pub Fits : Option ℕ → Type 0
Fits (Some t) = IsType t
Fits None = ⊤

type_fits : (codecs : List Codec) (given fixed : Option ℕ) (t : ℕ) → Fits given → Fits fixed → type_for codecs given fixed ≡ Ok t → IsType t
type_fits codecs (Some g) fixed t own row e = subst IsType (same_ok g t e) own
type_fits codecs None (Some f) t own row e = subst IsType (same_ok f t e) row
type_fits codecs None None t own row e = next_fits codecs t e

new_fits : (codecs : List Codec) (given fixed : Option ℕ) (t : ℕ) → Fits given → Fits fixed → new_type codecs given fixed ≡ Ok t → IsType t
new_fits codecs given fixed t own row e =
    let drawn = bound (type_for codecs given fixed) (unused codecs) t e in
    subst IsType (unused_gives codecs drawn.0 t drawn.2) (type_fits codecs given fixed drawn.0 own row drawn.1)

pub given_fits : (place : _) (type : Option ℕ) → HasPayloadType place type → Fits type
given_fits place (Some t) own = own
given_fits place None own = tt

-- Codecs.

-- what the table has is in its range
record IsRow (codec : Codec) : Type 0 where
  named : codec.name ≢ []
  clock_rate : IsWithin 1 4294967295 codec.clock_rate
  channels : HasChannels codec.media codec.channels
  payload_type : Fits codec.payload_type

audio_fits : (name : List ℕ) (clock_rate channels : ℕ) (type : Option ℕ) → name ≢ [] → IsWithin 1 4294967295 clock_rate → IsWithin 1 255 channels → Fits type → IsRow (audio_codec name clock_rate channels type)
audio_fits name clock_rate channels type filled rate few own = record { named = filled; clock_rate = rate; channels = few; payload_type = own }

video_fits : (name : List ℕ) (clock_rate : ℕ) → name ≢ [] → IsWithin 1 4294967295 clock_rate → IsRow (video_codec name clock_rate)
video_fits name clock_rate filled rate = record { named = filled; clock_rate = rate; channels = tt; payload_type = tt }

table_fits : Each IsRow supported_codecs
unfolding supported_codecs
table_fits = (
  audio_fits _ _ _ _ (λ e. cc) (lit≤ tt, lit≤ tt) (lit≤ tt, lit≤ tt) tt,
  (
    audio_fits _ _ _ _ (λ e. cc) (lit≤ tt, lit≤ tt) (lit≤ tt, lit≤ tt) (lit≤ tt),
    (
      audio_fits _ _ _ _ (λ e. cc) (lit≤ tt, lit≤ tt) (lit≤ tt, lit≤ tt) (lit≤ tt),
      (video_fits _ _ (λ e. cc) (lit≤ tt, lit≤ tt), (video_fits _ _ (λ e. cc) (lit≤ tt, lit≤ tt), tt)),
    ),
  ),
)

codec_reads : (place : _) (given supported : Codec) (t : ℕ) → IsCodec place given → IsRow supported → IsType t → IsCodec place (router_codec given supported t)
codec_reads place given supported t own row fits =
    record {
      named = row.named;
      clock_rate = row.clock_rate;
      channels = row.channels;
      payload_type = fits;
      parameters = own.parameters;
      ascending = own.ascending;
    }

abbrev apt_parameter : ℕ → List ℕ × Scalar
apt_parameter apt = (codes "apt", Number (pos apt))

apt_reads : (apt : ℕ) → IsType apt → IsParameter (apt_parameter apt)
apt_reads apt fits =
    let small : apt < 9223372036854775808 = omega arith in
    let within : leb apt 127 ≡ true = le-leb apt 127 fits in
    ((Decides-ltb apt 9223372036854775808).1 small, λ _. rw within refl)

apt_ascends : (type clock_rate apt : ℕ) → HasAscending (rtx_codec type clock_rate apt)
unfolding IsStrictlySortedBy
apt_ascends type clock_rate apt = (tt, tt)

rtx_reads : (place : _) (type clock_rate apt : ℕ) → IsType type → IsWithin 1 4294967295 clock_rate → IsType apt → IsCodec place (rtx_codec type clock_rate apt)
rtx_reads place type clock_rate apt fits rate own =
    record {
      named = λ e. cc;
      clock_rate = rate;
      channels = tt;
      payload_type = fits;
      parameters = (apt_reads apt own, tt);
      ascending = apt_ascends type clock_rate apt;
    }

rtx_kept : (place : _) (media : Media) (clock_rate apt : ℕ) (codecs now : List Codec) → IsWithin 1 4294967295 clock_rate → IsType apt → with_rtx media clock_rate apt codecs ≡ Ok now → Each (IsCodec place) codecs → Each (IsCodec place) now
rtx_kept place Audio clock_rate apt codecs now rate own e each = subst (Each (IsCodec place)) (same_ok codecs now e) each
rtx_kept place Video clock_rate apt codecs now rate own e each =
    let drawn = bound (next_type codecs) (λ type. Ok (codecs ++ rtx_codec type clock_rate apt ∷ [])) now e in
    subst (Each (IsCodec place)) (same_ok (codecs ++ rtx_codec drawn.0 clock_rate apt ∷ []) now drawn.2)
    (one_more (IsCodec place) codecs (rtx_codec drawn.0 clock_rate apt) each (rtx_reads place drawn.0 clock_rate apt (next_fits codecs drawn.0 drawn.1) rate own))

codec_kept : (place : _) (codecs : List Codec) (given : Codec) (now : List Codec) → with_codec codecs given ≡ Ok now → IsCodec place given → Each (IsCodec place) codecs → Each (IsCodec place) now
unfolding with_codec
codec_kept place codecs given now e own each =
    let row = bound (ok_or (find (matches given) supported_codecs) unsupported_codec) (λ supported. new_type codecs given.payload_type supported.payload_type >>= typed codecs given supported) now e in
    let drawn = bound (new_type codecs given.payload_type row.0.payload_type) (typed codecs given row.0) now row.2 in
    let fits = each_found IsRow (matches given) supported_codecs row.0 table_fits (found_of (find (matches given) supported_codecs) unsupported_codec row.0 row.1) in
    let type = new_fits codecs given.payload_type row.0.payload_type drawn.0 (given_fits place given.payload_type own.payload_type) fits.payload_type drawn.1 in
    rtx_kept place row.0.media row.0.clock_rate drawn.0 (codecs ++ router_codec given row.0 drawn.0 ∷ []) now fits.clock_rate type drawn.2
    (one_more (IsCodec place) codecs (router_codec given row.0 drawn.0) each (codec_reads place given row.0 drawn.0 own fits type))

codecs_kept : (place : _) (codecs given now : List Codec) → with_codecs codecs given ≡ Ok now → Each (IsCodec place) given → Each (IsCodec place) codecs → Each (IsCodec place) now
codecs_kept place codecs [] now e own each = subst (Each (IsCodec place)) (same_ok codecs now e) each
codecs_kept place codecs (given ∷ others) now e own each =
    let added = bound (with_codec codecs given) (λ more. with_codecs more others) now e in
    codecs_kept place added.0 others now added.2 own.1 (codec_kept place codecs given added.0 added.1 own.0 each)

-- Extensions.

ext_reads : (place : _) (id : ℕ) (uri : List ℕ) (media : Option Media) (sends : Bool) → uri ≢ [] → IsWithin 1 255 id → HasDirection place (ext_row id uri media sends) → IsExt place (ext_row id uri media sends)
ext_reads place id uri media sends filled fits direction = record { uri = filled; id = fits; direction = direction }

pub router_reads : (given caps : Caps) → IsCaps given → router_caps given.codecs ≡ Ok caps → IsCaps caps
unfolding ext_table
router_reads given caps own e =
    let made = bound (with_codecs [] given.codecs) (λ codecs. Ok (caps_of codecs)) caps e in
    subst IsCaps (same_ok (caps_of made.0) caps made.2)
    (
    record {
      codecs = codecs_kept _ [] given.codecs made.0 made.1 own.codecs tt;
      exts = (ext_reads _ _ _ _ _ (λ e. cc) (lit≤ tt, lit≤ tt) tt, (ext_reads _ _ _ _ _ (λ e. cc) (lit≤ tt, lit≤ tt) tt, (ext_reads _ _ _ _ _ (λ e. cc) (lit≤ tt, lit≤ tt) tt, (ext_reads _ _ _ _ _ (λ e. cc) (lit≤ tt, lit≤ tt) tt, (ext_reads _ _ _ _ _ (λ e. cc) (lit≤ tt, lit≤ tt) tt, (ext_reads _ _ _ _ _ (λ e. cc) (lit≤ tt, lit≤ tt) tt, (ext_reads _ _ _ _ _ (λ e. cc) (lit≤ tt, lit≤ tt) tt, (ext_reads _ _ _ _ _ (λ e. cc) (lit≤ tt, lit≤ tt) tt, (ext_reads _ _ _ _ _ (λ e. cc) (lit≤ tt, lit≤ tt) tt, tt)))))))));
    }
    )
