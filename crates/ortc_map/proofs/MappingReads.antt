-- What is mapped fits: payload types have 7 bits, SSRCs 32.
use Rattle.std.proofs.Common.{◌≡◌, ℕ, ◌+◌, ◌^◌, ◌≤◌, Bool, true, false, ◌||◌, List, [], ◌∷◌, ◌++◌, length, map, filter, Option, Some, None, Ok, sym, subst, arith, inl, inr}
use Rattle.std.proofs.lemmas.Bool.{eqb-true}
use Rattle.rtp_params.specs.Names.{is_rtx}
use Rattle.rtp_params.specs.Readable.{Each, IsCodec, IsEncoding, IsCaps, IsParams}
use Rattle.rtp_params.specs.declared.codec.Codec.{Codec}
use Rattle.rtp_params.specs.declared.encoding.Encoding.{Encoding}
use Rattle.rtp_params.specs.declared.mapping.Mapping.{Mapping}
use Rattle.rtp_params.specs.declared.params.Caps.{Caps}
use Rattle.rtp_params.specs.declared.params.Params.{Params}
use Rattle.ortc_map.specs.RouterCaps.{is_number, has_type, is_taken}
use Rattle.ortc_map.specs.ProducerMapping.{is_media, mapped_ssrcs, producer_mapping}
use Rattle.ortc_map.proofs.RouterLemmas.{known}
use Rattle.ortc_map.proofs.RouterReads.{Fits, given_fits}
use Rattle.ortc_map.proofs.MappingLemmas.{own_type, payload_type, mapped_are_named, mapped_are_taken, parts}

-- Lists.

each-filter : {A : Type 0} (P : A → Type 0) (test : A → Bool) (xs : List A) → Each P xs → Each P (filter test xs)
each-filter P test [] each = tt
each-filter P test (x ∷ xs) each =
    let rest = each-filter P test xs each.1 in
    elim (known (test x)) [ inl passing ↦ rw passing (each.0, rest) | inr failing ↦ rw failing rest ]

each-append : {A : Type 0} (P : A → Type 0) (xs ys : List A) → Each P xs → Each P ys → Each P (xs ++ ys)
each-append P [] ys front rest = rest
each-append P (x ∷ xs) ys front rest = (front.0, each-append P xs ys front.1 rest)

each-map : {A B : Type 0} (P : A → Type 0) (Q : B → Type 0) (f : A → B) → ((x : A) → P x → Q (f x)) → (xs : List A) → Each P xs → Each Q (map f xs)
each-map P Q f keeps [] each = tt
each-map P Q f keeps (x ∷ xs) each = (keeps x each.0, each-map P Q f keeps xs each.1)

each_mapped : {A B : Type 0} (P : A → Type 0) (Q : B → Type 0) (f : A → B) → ((x : A) → Q (f x) → P x) → (xs : List A) → Each Q (map f xs) → Each P xs
each_mapped P Q f keeps [] each = tt
each_mapped P Q f keeps (x ∷ xs) each = (keeps x each.0, each_mapped P Q f keeps xs each.1)

each_implied : {A : Type 0} (P Q : A → Type 0) → ((x : A) → P x → Q x) → (xs : List A) → Each P xs → Each Q xs
each_implied P Q keeps [] each = tt
each_implied P Q keeps (x ∷ xs) each = (keeps x each.0, each_implied P Q keeps xs each.1)

-- Payload types.

types_fit : (place : _) (codecs : List Codec) → Each (IsCodec place) codecs → Each Fits (map payload_type (filter is_media codecs ++ filter is_rtx codecs))
types_fit place codecs each =
    each-map (IsCodec place) Fits payload_type (λ codec reads. given_fits place codec.payload_type reads.payload_type) (filter is_media codecs ++ filter is_rtx codecs)
    (each-append (IsCodec place) (filter is_media codecs) (filter is_rtx codecs) (each-filter (IsCodec place) is_media codecs each) (each-filter (IsCodec place) is_rtx codecs each))

pub own_fit : (params : Params) (caps : Caps) (first_ssrc : ℕ) (mapping : Mapping) → IsParams params → producer_mapping params caps first_ssrc ≡ Ok mapping → Each (λ (pair : ℕ × ℕ). pair.0 ≤ 127) mapping.codecs
own_fit params caps first_ssrc mapping reads e =
    each_mapped (λ (pair : ℕ × ℕ). pair.0 ≤ 127) Fits own_type (λ pair fits. fits) mapping.codecs
    (subst (Each Fits) (sym (mapped_are_named params caps first_ssrc mapping e)) (types_fit _ params.codecs reads.codecs))

number_fits : (type : ℕ) (found : Option ℕ) → is_number type found ≡ true → Fits found → type ≤ 127
number_fits type (Some n) is fits = subst (λ (m : ℕ). m ≤ 127) (eqb-true n type is) fits
number_fits type None is fits = cc

one_of : (a b : Bool) → (a || b) ≡ true → a ≡ false → b ≡ true
one_of true b e no_first = cc
one_of false b e no_first = e

taken_fits : (place : _) (codecs : List Codec) (type : ℕ) → Each (IsCodec place) codecs → is_taken codecs type ≡ true → type ≤ 127
taken_fits place [] type each e = cc
taken_fits place (c ∷ cs) type each e =
    elim (known (has_type type c)) [
      | inl here ↦ number_fits type c.payload_type here (given_fits place c.payload_type each.0.payload_type)
      | inr other ↦ taken_fits place cs type each.1 (one_of (has_type type c) (is_taken cs type) e other)
    ]

pub mapped_fit : (params : Params) (caps : Caps) (first_ssrc : ℕ) (mapping : Mapping) → IsCaps caps → producer_mapping params caps first_ssrc ≡ Ok mapping → Each (λ (pair : ℕ × ℕ). pair.1 ≤ 127) mapping.codecs
mapped_fit params caps first_ssrc mapping reads e =
    each_implied (λ (pair : ℕ × ℕ). is_taken caps.codecs pair.1 ≡ true) (λ (pair : ℕ × ℕ). pair.1 ≤ 127) (λ pair taken. taken_fits _ caps.codecs pair.1 reads.codecs taken) mapping.codecs
    (mapped_are_taken params caps first_ssrc mapping e)

-- SSRCs.

abbrev AreSsrcs : ℕ × ℕ → Type 0
AreSsrcs pair = (pair.0 ≤ 4294967295) × (pair.1 ≤ 4294967295)

in_a_row : (first : ℕ) (encodings : List Encoding) → Each IsEncoding encodings → first + length encodings ≤ 2 ^ 32 → Each AreSsrcs (mapped_ssrcs first encodings)
in_a_row first [] each room = tt
in_a_row first (e ∷ es) each room = ((each.0.0, omega arith), in_a_row (first + 1) es each.1 (omega arith))

pub ssrcs_fit : (params : Params) (caps : Caps) (first_ssrc : ℕ) (mapping : Mapping) → IsParams params → first_ssrc + length params.encodings ≤ 2 ^ 32 → producer_mapping params caps first_ssrc ≡ Ok mapping → Each AreSsrcs mapping.encodings
ssrcs_fit params caps first_ssrc mapping reads room e =
    subst (Each AreSsrcs) (parts params caps first_ssrc mapping e).1 (in_a_row first_ssrc params.encodings reads.encodings room)
