-- Which parameters and capabilities the reading rules can give (this project's own).
use Rattle.std.specs.Prelude.{◌≡◌, ◌≢◌, ℕ, ◌≤◌, List, [], ◌∷◌, true, false, map, codes, Option, Some, None, IsSome, ⊤}
use Rattle.std.specs.Cmp.Lexicographic.{slice_cmp}
use Rattle.std.specs.List.Sorted.{IsStrictlySortedBy}
use Rattle.std.specs.Ordering.{nat_cmp}
use Rattle.ms_base.specs.declared.keys.Media.{Media}
use Rattle.ms_base.specs.declared.keys.Media.TheVariants.{Audio, Video}
use Rattle.rtp_params.specs.declared.codec.Codec.{Codec}
use Rattle.rtp_params.specs.declared.codec.Scalar.{Scalar}
use Rattle.rtp_params.specs.declared.codec.Scalar.TheVariants.{Number, Word}
use Rattle.rtp_params.specs.declared.encoding.Encoding.{Encoding}
use Rattle.rtp_params.specs.declared.ext.Ext.{Ext}
use Rattle.rtp_params.specs.declared.params.Params.{Params}
use Rattle.rtp_params.specs.declared.params.Caps.{Caps}
use Rattle.rtp_params.specs.declared.place.Place.{Place}
use Rattle.rtp_params.specs.declared.place.Place.TheVariants.{InParams, InCaps}
use Rattle.rtp_params.specs.Codecs.{is_64_bits}
use Rattle.rtp_params.specs.Encodings.{is_own}
use Rattle.rtp_params.specs.Names.{as_payload_type}

abbrev pub IsWithin : ℕ → ℕ → ℕ → Type 0
IsWithin low high n = (low ≤ n) × (n ≤ high)

-- each item of a list
abbrev pub Each : {A : Type 0} → (A → Type 0) → List A → Type 0
Each P [] = ⊤
Each P (x ∷ xs) = P x × Each P xs

-- audio has channels, and audio alone
abbrev pub HasChannels : Media → Option ℕ → Type 0
HasChannels Audio (Some n) = IsWithin 1 255 n
HasChannels Audio None = ⊥
HasChannels Video (Some n) = ⊥
HasChannels Video None = ⊤

-- parameters have a payload type, capabilities may have one
abbrev pub HasPayloadType : Place → Option ℕ → Type 0
HasPayloadType place (Some n) = n ≤ 127
HasPayloadType InParams None = ⊥
HasPayloadType InCaps None = ⊤

abbrev pub IsScalar : Scalar → Type 0
IsScalar (Number z) = is_64_bits z ≡ true
IsScalar (Word text) = ⊤

-- a number fits in 64 signed bits, and `apt` is a payload type
abbrev pub IsParameter : List ℕ × Scalar → Type 0
IsParameter p = IsScalar p.1 × (p.0 ≡ codes "apt" → IsSome (as_payload_type p.1))

-- the names of parameters ascend byte by byte, so each stands once
abbrev pub AreAscending : List (List ℕ × Scalar) → Type 0
AreAscending parameters = IsStrictlySortedBy (slice_cmp nat_cmp) (map (λ p. p.0) parameters)

abbrev pub HasAscending : Codec → Type 0
HasAscending codec = AreAscending codec.parameters

pub record IsCodec (place : Place) (codec : Codec) : Type 0 where
  pub named : codec.name ≢ []
  pub clock_rate : IsWithin 1 4294967295 codec.clock_rate
  pub channels : HasChannels codec.media codec.channels
  pub payload_type : HasPayloadType place codec.payload_type
  pub parameters : Each IsParameter codec.parameters
  pub ascending : HasAscending codec

-- those of parameters are sent, and for either media
abbrev pub HasDirection : Place → Ext → Type 0
HasDirection InParams ext = (ext.media ≡ None) × (ext.sends ≡ true)
HasDirection InCaps ext = ⊤

pub record IsExt (place : Place) (ext : Ext) : Type 0 where
  pub uri : ext.uri ≢ []
  pub id : IsWithin 1 255 ext.id
  pub direction : HasDirection place ext

-- SSRCs have 32 bits
abbrev pub HasRtx : Option ℕ → Type 0
HasRtx (Some ssrc) = ssrc ≤ 4294967295
HasRtx None = ⊤

abbrev pub IsEncoding : Encoding → Type 0
IsEncoding encoding = (encoding.ssrc ≤ 4294967295) × HasRtx encoding.rtx

-- no two encodings have one SSRC as their own
abbrev pub AreApart : List Encoding → Type 0
AreApart [] = ⊤
AreApart (e ∷ es) = (is_own es e.ssrc ≡ false) × AreApart es

pub record IsParams (params : Params) : Type 0 where
  pub codecs : Each (IsCodec InParams) params.codecs
  pub exts : Each (IsExt InParams) params.exts
  pub encodings : Each IsEncoding params.encodings
  pub apart : AreApart params.encodings

pub record IsCaps (caps : Caps) : Type 0 where
  pub codecs : Each (IsCodec InCaps) caps.codecs
  pub exts : Each (IsExt InCaps) caps.exts
