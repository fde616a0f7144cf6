-- What a mapping has: payload types of the Router, and one item for each codec.
use Rattle.std.proofs.Common.{◌≡◌, ℕ, ◌+◌, Bool, true, false, ◌||◌, eqb, List, [], ◌∷◌, ◌++◌, length, map, filter, Option, Some, None, Result, Ok, refl, ap, sym, ◌∙◌, subst, arith, inl, inr, append_assoc, length-append}
use Rattle.std.proofs.lemmas.List.{append-nil, length-map, map-append}
use Rattle.std.specs.List.{find}
use Rattle.std.specs.Option.{ok_or, option_and_then}
use Rattle.std.proofs.lemmas.Bool.Decides.{eqb_tells}
use Rattle.rtp_params.specs.Names.{is_rtx}
use Rattle.rtp_params.specs.Readable.{Each}
use Rattle.rtp_params.specs.declared.codec.Codec.{Codec}
use Rattle.rtp_params.specs.declared.encoding.Encoding.{Encoding}
use Rattle.rtp_params.specs.declared.mapping.Mapping.{Mapping}
use Rattle.rtp_params.specs.declared.params.Caps.{Caps}
use Rattle.rtp_params.specs.declared.params.Params.{Params}
use Rattle.ortc_map.specs.declared.fault.MapFault.{MapFault}
use Rattle.ortc_map.specs.Rules.{◌>>=◌, each_behind, unsupported_codec}
use Rattle.ortc_map.specs.Matching.{strictly_matches}
use Rattle.ortc_map.specs.RouterCaps.{is_number, has_type, is_taken}
use Rattle.ortc_map.specs.ProducerMapping.{is_media, is_rtx_of, type_of, router_type, router_rtx_type, associated, with_own_type, media_types, rtx_types, mapped_types, mapped_ssrcs, producer_mapping}
use Rattle.ortc_map.proofs.RouterLemmas.{known, bound, found_of, same_ok}

-- A rule for each item of a list.

each-push : {A : Type 0} (P : A → Type 0) (xs : List A) (x : A) → Each P xs → P x → Each P (xs ++ x ∷ [])
each-push P [] x each here = (here, tt)
each-push P (y ∷ ys) x each here = (each.0, each-push P ys x each.1 here)

each_kept : {A B : Type 0} (P : B → Type 0) (rule : A → Result B MapFault) → ((x : A) (y : B) → rule x ≡ Ok y → P y) → (before : List B) (xs : List A) (ys : List B) → each_behind rule before xs ≡ Ok ys → Each P before → Each P ys
each_kept P rule keeps before [] ys e each = subst (Each P) (same_ok before ys e) each
each_kept P rule keeps before (x ∷ xs) ys e each =
    let first = bound (rule x) (λ y. each_behind rule (before ++ y ∷ []) xs) ys e in
    each_kept P rule keeps (before ++ first.0 ∷ []) xs ys first.2 (each-push P before first.0 each (keeps x first.0 first.1))

each_named : {A B C : Type 0} (f : B → C) (g : A → C) (rule : A → Result B MapFault) → ((x : A) (y : B) → rule x ≡ Ok y → f y ≡ g x) → (before : List B) (xs : List A) (ys : List B) → each_behind rule before xs ≡ Ok ys → map f ys ≡ map f before ++ map g xs
each_named f g rule names before [] ys e = sym (ap (map f) (same_ok before ys e)) ∙ sym (append-nil (map f before))
each_named f g rule names before (x ∷ xs) ys e =
    let first = bound (rule x) (λ y. each_behind rule (before ++ y ∷ []) xs) ys e in
    each_named f g rule names (before ++ first.0 ∷ []) xs ys first.2
    ∙ ap (λ zs. zs ++ map g xs) (map-append f before (first.0 ∷ []))
    ∙ append_assoc (map f before) (f first.0 ∷ []) (map g xs)
    ∙ ap (λ z. map f before ++ z ∷ map g xs) (names x first.0 first.1)

-- The types that stand for others.

itself : (n : ℕ) → eqb n n ≡ true
itself n = elim (eqb_tells n n) [ inl w ↦ w.0 | inr w ↦ absurd (w.1 refl) ]

or_true : (a : Bool) → (a || true) ≡ true
or_true true = refl
or_true false = refl

first_is_taken : (test : Codec → Bool) (codecs : List Codec) (c : Codec) (t : ℕ) → find test codecs ≡ Some c → c.payload_type ≡ Some t → is_taken codecs t ≡ true
first_is_taken test [] c t e own = cc
first_is_taken test (o ∷ os) c t e own =
    elim (known (test o)) [
      | inl passing ↦
          let this : Some o ≡ Some c = rw passing at e in
          let is : o ≡ c = cc in
          let has : has_type t o ≡ true = ap (has_type t) is ∙ ap (is_number t) own ∙ itself t in
          rw has refl
      | inr failing ↦
          let later : find test os ≡ Some c = rw failing at e in
          ap (λ b. has_type t o || b) (first_is_taken test os c t later own) ∙ or_true (has_type t o)
    ]

taken_by : (test : Codec → Bool) (codecs : List Codec) (t : ℕ) (found : Option Codec) → find test codecs ≡ found → option_and_then (λ c. c.payload_type) found ≡ Some t → is_taken codecs t ≡ true
taken_by test codecs t (Some c) is own = first_is_taken test codecs c t is own
taken_by test codecs t None is own = cc

type_is_taken : (test : Codec → Bool) (codecs : List Codec) (t : ℕ) → type_of (find test codecs) ≡ Ok t → is_taken codecs t ≡ true
type_is_taken test codecs t e = taken_by test codecs t (find test codecs) refl (found_of (option_and_then (λ c. c.payload_type) (find test codecs)) unsupported_codec t e)

media_is_taken : (router : List Codec) (codec : Codec) (t : ℕ) → router_type router codec ≡ Ok t → is_taken router t ≡ true
media_is_taken router codec t e =
    elim (known (is_rtx codec)) [
      | inl rtx ↦ let none = rw rtx at e in cc
      | inr media ↦ let this : type_of (find (strictly_matches codec) router) ≡ Ok t = rw media at e in type_is_taken (strictly_matches codec) router t this
    ]

-- a codec's pair has its own type and the one that stands for it
is_paired : (codec : Codec) (mapped : ℕ) (pair : ℕ × ℕ) → with_own_type codec mapped ≡ Ok pair → (Some pair.0 ≡ codec.payload_type) × (pair.1 ≡ mapped)
is_paired codec mapped pair e =
    let own = bound (ok_or codec.payload_type unsupported_codec) (λ own. Ok (own, mapped)) pair e in
    let same : (own.0, mapped) ≡ pair = same_ok (own.0, mapped) pair own.2 in
    (ap (λ p. Some p.0) (sym same) ∙ sym (found_of codec.payload_type unsupported_codec own.0 own.1), ap (λ p. p.1) (sym same))

media_pair : (router : List Codec) (codec : Codec) (pair : ℕ × ℕ) → media_types router codec ≡ Ok pair → (Some pair.0 ≡ codec.payload_type) × (is_taken router pair.1 ≡ true)
unfolding media_types
media_pair router codec pair e =
    let mapped = bound (router_type router codec) (with_own_type codec) pair e in
    let is = is_paired codec mapped.0 pair mapped.2 in
    (is.0, ap (is_taken router) is.1 ∙ media_is_taken router codec mapped.0 mapped.1)

abbrev rtx_type : List Codec → Codec → Codec → Result (ℕ × ℕ) MapFault
rtx_type router codec media = router_type router media >>= (λ type. router_rtx_type router type >>= with_own_type codec)

rtx_pair : (router codecs : List Codec) (codec : Codec) (pair : ℕ × ℕ) → rtx_types router codecs codec ≡ Ok pair → (Some pair.0 ≡ codec.payload_type) × (is_taken router pair.1 ≡ true)
unfolding rtx_types
rtx_pair router codecs codec pair e =
    let media = bound (associated codecs codec) (rtx_type router codec) pair e in
    let type = bound (router_type router media.0) (λ type. router_rtx_type router type >>= with_own_type codec) pair media.2 in
    let mapped = bound (router_rtx_type router type.0) (with_own_type codec) pair type.2 in
    let is = is_paired codec mapped.0 pair mapped.2 in
    (is.0, ap (is_taken router) is.1 ∙ type_is_taken (is_rtx_of type.0) router mapped.0 mapped.1)

-- Whole mappings.

abbrev IsTaken : List Codec → ℕ × ℕ → Type 0
IsTaken router pair = is_taken router pair.1 ≡ true

abbrev pub own_type : ℕ × ℕ → Option ℕ
own_type pair = Some pair.0

abbrev pub payload_type : Codec → Option ℕ
payload_type codec = codec.payload_type

abbrev with_rtx_types : List Codec → List Codec → List (ℕ × ℕ) → Result (List (ℕ × ℕ)) MapFault
with_rtx_types router codecs media = each_behind (rtx_types router codecs) media (filter is_rtx codecs)

types_taken : (router codecs : List Codec) (types : List (ℕ × ℕ)) → mapped_types router codecs ≡ Ok types → Each (IsTaken router) types
types_taken router codecs types e =
    let media = bound (each_behind (media_types router) [] (filter is_media codecs)) (with_rtx_types router codecs) types e in
    each_kept (IsTaken router) (rtx_types router codecs) (λ codec pair is. (rtx_pair router codecs codec pair is).1) media.0 (filter is_rtx codecs) types media.2
    (each_kept (IsTaken router) (media_types router) (λ codec pair is. (media_pair router codec pair is).1) [] (filter is_media codecs) media.0 media.1 tt)

types_named : (router codecs : List Codec) (types : List (ℕ × ℕ)) → mapped_types router codecs ≡ Ok types → map own_type types ≡ map payload_type (filter is_media codecs ++ filter is_rtx codecs)
types_named router codecs types e =
    let media = bound (each_behind (media_types router) [] (filter is_media codecs)) (with_rtx_types router codecs) types e in
    each_named own_type payload_type (rtx_types router codecs) (λ codec pair is. (rtx_pair router codecs codec pair is).0) media.0 (filter is_rtx codecs) types media.2
    ∙ ap (λ zs. zs ++ map payload_type (filter is_rtx codecs))
    (each_named own_type payload_type (media_types router) (λ codec pair is. (media_pair router codec pair is).0) [] (filter is_media codecs) media.0 media.1)
    ∙ sym (map-append payload_type (filter is_media codecs) (filter is_rtx codecs))

abbrev mapping_of : List (ℕ × ℕ) → ℕ → Params → Mapping
mapping_of types first_ssrc params = record { codecs = types; encodings = mapped_ssrcs first_ssrc params.encodings }

-- a mapping has the types and the SSRCs of its rules
pub parts : (params : Params) (caps : Caps) (first_ssrc : ℕ) (mapping : Mapping) → producer_mapping params caps first_ssrc ≡ Ok mapping → (mapped_types caps.codecs params.codecs ≡ Ok mapping.codecs) × (mapped_ssrcs first_ssrc params.encodings ≡ mapping.encodings)
parts params caps first_ssrc mapping e =
    let types = bound (mapped_types caps.codecs params.codecs) (λ types. Ok (mapping_of types first_ssrc params)) mapping e in
    let same = same_ok (mapping_of types.0 first_ssrc params) mapping types.2 in
    (types.1 ∙ ap (λ m. Ok m.codecs) same, ap (λ m. m.encodings) same)

pub mapped_are_taken : (params : Params) (caps : Caps) (first_ssrc : ℕ) (mapping : Mapping) → producer_mapping params caps first_ssrc ≡ Ok mapping → Each (IsTaken caps.codecs) mapping.codecs
mapped_are_taken params caps first_ssrc mapping e = types_taken caps.codecs params.codecs mapping.codecs (parts params caps first_ssrc mapping e).0

pub mapped_are_named : (params : Params) (caps : Caps) (first_ssrc : ℕ) (mapping : Mapping) → producer_mapping params caps first_ssrc ≡ Ok mapping → map own_type mapping.codecs ≡ map payload_type (filter is_media params.codecs ++ filter is_rtx params.codecs)
mapped_are_named params caps first_ssrc mapping e = types_named caps.codecs params.codecs mapping.codecs (parts params caps first_ssrc mapping e).0

-- each codec carries media or is for retransmissions
length-parted : (codecs : List Codec) → length (filter is_media codecs ++ filter is_rtx codecs) ≡ length codecs
length-parted [] = refl
length-parted (c ∷ cs) =
    let others : length (filter is_media cs) + length (filter is_rtx cs) ≡ length cs = sym (length-append (filter is_media cs) (filter is_rtx cs)) ∙ length-parted cs in
    length-append (filter is_media (c ∷ cs)) (filter is_rtx (c ∷ cs))
    ∙ (
    elim (known (is_rtx c)) [
      | inl rtx ↦ rw rtx (omega arith)
      | inr media ↦ rw media (omega arith)
    ]
    )

pub mapped_once : (params : Params) (caps : Caps) (first_ssrc : ℕ) (mapping : Mapping) → producer_mapping params caps first_ssrc ≡ Ok mapping → length mapping.codecs ≡ length params.codecs
mapped_once params caps first_ssrc mapping e =
    sym (length-map mapping.codecs own_type)
    ∙ ap length (mapped_are_named params caps first_ssrc mapping e)
    ∙ length-map (filter is_media params.codecs ++ filter is_rtx params.codecs) payload_type
    ∙ length-parted params.codecs

ssrcs_named : (first_ssrc : ℕ) (encodings : List Encoding) → map (λ (pair : ℕ × ℕ). pair.0) (mapped_ssrcs first_ssrc encodings) ≡ map (λ (encoding : Encoding). encoding.ssrc) encodings
ssrcs_named first_ssrc [] = refl
ssrcs_named first_ssrc (e ∷ es) = ap (λ zs. e.ssrc ∷ zs) (ssrcs_named (first_ssrc + 1) es)

pub encodings_mapped : (params : Params) (caps : Caps) (first_ssrc : ℕ) (mapping : Mapping) → producer_mapping params caps first_ssrc ≡ Ok mapping → map (λ (pair : ℕ × ℕ). pair.0) mapping.encodings ≡ map (λ (encoding : Encoding). encoding.ssrc) params.encodings
encodings_mapped params caps first_ssrc mapping e =
    ap (map (λ (pair : ℕ × ℕ). pair.0)) (sym (parts params caps first_ssrc mapping e).1) ∙ ssrcs_named first_ssrc params.encodings
