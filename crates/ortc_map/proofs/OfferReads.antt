-- What is offered is such as reading can give.
use Rattle.std.proofs.Common.{◌≡◌, ◌≢◌, ℕ, ◌+◌, ◌^◌, ◌<◌, ◌≤◌, ◌&&◌, List, [], ◌∷◌, ◌++◌, length, map, filter, find, Bool, true, false, cond, leb, Option, Some, None, Ok, refl, ap, sym, inl, inr, subst, arith}
use Rattle.std.specs.Option.{IsSome, IfSome, option_to_list}
use Rattle.std.specs.List.{flat_map, list_all}
use Rattle.std.proofs.lemmas.Bool.{cases_Bool, ne_eqb, or_from, and_parts, leb-true}
use Rattle.ms_base.specs.declared.keys.Media.{Media}
use Rattle.ms_base.specs.declared.keys.Media.TheVariants.{Audio, Video}
use Rattle.rtp_params.specs.declared.codec.Codec.{Codec}
use Rattle.rtp_params.specs.declared.encoding.Encoding.{Encoding}
use Rattle.rtp_params.specs.declared.ext.Ext.{Ext}
use Rattle.rtp_params.specs.declared.mapping.Mapping.{Mapping}
use Rattle.rtp_params.specs.declared.params.Caps.{Caps}
use Rattle.rtp_params.specs.declared.params.Params.{Params}
use Rattle.rtp_params.specs.Encodings.{is_own}
use Rattle.rtp_params.specs.Readable.{AreApart, Each, HasPayloadType, HasDirection, IsCaps, IsCodec, IsEncoding, IsExt, IsParams}
use Rattle.rtp_params.specs.Table.{ext_table, sent_exts}
use Rattle.ortc_map.specs.Laws.{AreTypedOnce}
use Rattle.ortc_map.specs.RouterCaps.{has_type}
use Rattle.ortc_map.specs.ProducerMapping.{is_media, is_rtx_of, mapped_ssrcs, mapped_types, producer_mapping}
use Rattle.ortc_map.specs.Consumable.{as_of_params, consumable, offered, offered_as, offered_codec, offered_codecs, offered_encoding, offered_exts, type_for_codec}
use Rattle.ortc_map.proofs.ReadableLemmas.{Each-filter, Each-map}
use Rattle.ortc_map.proofs.RouterLemmas.{bound, same_ok}

-- Lists.

IfSome-find : {A : Type 0} (P : A → Type 0) (test : A → Bool) (xs : List A) → Each P xs → IfSome (find test xs) P
IfSome-find P test [] each = tt
IfSome-find P test (x ∷ xs) each =
    elim (cases_Bool (test x)) [
      | inl e ↦ subst (λ b. IfSome (cond b (Some x) (find test xs)) P) (sym e) each.0
      | inr e ↦ subst (λ b. IfSome (cond b (Some x) (find test xs)) P) (sym e) (IfSome-find P test xs each.1)
    ]

Each-append : {A : Type 0} (P : A → Type 0) (xs ys : List A) → Each P xs → Each P ys → Each P (xs ++ ys)
Each-append P [] ys front rest = rest
Each-append P (x ∷ xs) ys front rest = (front.0, Each-append P xs ys front.1 rest)

Each-flat_map : {A B : Type 0} (P : A → Type 0) (Q : B → Type 0) (f : A → List B) → ((x : A) → P x → Each Q (f x)) → (xs : List A) → Each P xs → Each Q (flat_map f xs)
Each-flat_map P Q f keeps [] each = tt
Each-flat_map P Q f keeps (x ∷ xs) each = Each-append Q (f x) (flat_map f xs) (keeps x each.0) (Each-flat_map P Q f keeps xs each.1)

Each-both : {A : Type 0} (P Q : A → Type 0) (xs : List A) → Each P xs → Each Q xs → Each (λ (x : A). P x × Q x) xs
Each-both P Q [] ps qs = tt
Each-both P Q (x ∷ xs) ps qs = ((ps.0, qs.0), Each-both P Q xs ps.1 qs.1)

Each-all : {A : Type 0} (test : A → Bool) (xs : List A) → list_all test xs ≡ true → Each (λ (x : A). test x ≡ true) xs
Each-all test [] e = tt
Each-all test (x ∷ xs) e =
    let both : (test x ≡ true) × (list_all test xs ≡ true) = and_parts (test x) (list_all test xs) e in
    (both.0, Each-all test xs both.1)

-- Codecs. A codec that can stand in one place, as in capabilities, and has a payload type can stand in each, as in parameters.

abbrev IsTyped : (Codec → Type 0) → Codec → Type 0
IsTyped P codec = P codec × IsSome codec.payload_type

each_has_type : (codecs : List Codec) → AreTypedOnce codecs → Each (λ (codec : Codec). IsSome codec.payload_type) codecs
each_has_type [] h = tt
each_has_type (codec ∷ codecs) h = (h.0, each_has_type codecs h.2)

typed_reads : (p q : _) (type : Option ℕ) → HasPayloadType p type → IsSome type → HasPayloadType q type
typed_reads p q (Some n) h e = h
typed_reads p q None h e = cc

found_reads : (p q : _) (found codec : Codec) → IsTyped (IsCodec p) found → IsCodec q codec → IsCodec q (record found { parameters = codec.parameters })
found_reads p q found codec h own =
    record {
      named = h.0.named;
      clock_rate = h.0.clock_rate;
      channels = h.0.channels;
      payload_type = typed_reads p q found.payload_type h.0.payload_type h.1;
      parameters = own.parameters;
      ascending = own.ascending;
    }

router_reads : (p q : _) (found : Codec) → IsTyped (IsCodec p) found → IsCodec q found
router_reads p q found h =
    record {
      named = h.0.named;
      clock_rate = h.0.clock_rate;
      channels = h.0.channels;
      payload_type = typed_reads p q found.payload_type h.0.payload_type h.1;
      parameters = h.0.parameters;
      ascending = h.0.ascending;
    }

one_reads : (p q : _) (found : Option Codec) → IfSome found (IsTyped (IsCodec p)) → Each (IsCodec q) (option_to_list found)
one_reads p q None h = tt
one_reads p q (Some found) h = (router_reads p q found h, tt)

offered_as_reads : (p q : _) (router : List Codec) (codec : Codec) (type : ℕ) (found : Option Codec) → Each (IsTyped (IsCodec p)) router → IsCodec q codec → IfSome found (IsTyped (IsCodec p)) → Each (IsCodec q) (offered_as router codec type found)
offered_as_reads p q router codec type None each own h = tt
offered_as_reads p q router codec type (Some found) each own h =
    (found_reads p q found codec h own, one_reads p q (find (is_rtx_of type) router) (IfSome-find (IsTyped (IsCodec p)) (is_rtx_of type) router each))

offered_reads : (p q : _) (router : List Codec) (codec : Codec) (type : Option ℕ) → Each (IsTyped (IsCodec p)) router → IsCodec q codec → Each (IsCodec q) (offered router codec type)
offered_reads p q router codec None each own = tt
offered_reads p q router codec (Some type) each own =
    offered_as_reads p q router codec type (find (has_type type) router) each own (IfSome-find (IsTyped (IsCodec p)) (has_type type) router each)

codecs_read : (p q : _) (router : List Codec) (pairs : List (ℕ × ℕ)) (codecs : List Codec) → Each (IsCodec p) router → AreTypedOnce router → Each (IsCodec q) codecs → Each (IsCodec q) (offered_codecs router pairs codecs)
codecs_read p q router pairs codecs each typed own =
    let both = Each-both (IsCodec p) (λ (codec : Codec). IsSome codec.payload_type) router each (each_has_type router typed) in
    Each-flat_map (IsCodec q) (IsCodec q) (offered_codec router pairs) (λ codec reads. offered_reads p q router codec (type_for_codec pairs codec) both reads) (filter is_media codecs)
    (Each-filter (IsCodec q) is_media codecs own)

-- Header extensions.

abbrev has_text : List ℕ → Bool
has_text [] = false
has_text (c ∷ cs) = true

text_is : (text : List ℕ) → has_text text ≡ true → text ≢ []
text_is [] e nothing = cc
text_is (c ∷ cs) e nothing = cc

-- a row of the table that parameters may have
abbrev reads_as_ext : Ext → Bool
reads_as_ext ext = ext.sends && (has_text ext.uri && (leb 1 ext.id && leb ext.id 255))

each_row : (media : Media) → list_all reads_as_ext (sent_exts media) ≡ true
unfolding ext_table
each_row Audio = refl
each_row Video = refl

row_reads : (place : _) → ((ext : Ext) → ext.sends ≡ true → HasDirection place (as_of_params ext)) → (ext : Ext) → reads_as_ext ext ≡ true → IsExt place (as_of_params ext)
row_reads place directed ext e =
    let sends : (ext.sends ≡ true) × ((has_text ext.uri && (leb 1 ext.id && leb ext.id 255)) ≡ true) = and_parts ext.sends _ e in
    let text : (has_text ext.uri ≡ true) × ((leb 1 ext.id && leb ext.id 255) ≡ true) = and_parts (has_text ext.uri) _ sends.1 in
    let ids : (leb 1 ext.id ≡ true) × (leb ext.id 255 ≡ true) = and_parts (leb 1 ext.id) _ text.1 in
    record {
      uri = text_is ext.uri text.0;
      id = (leb-true 1 ext.id ids.0, leb-true ext.id 255 ids.1);
      direction = directed ext sends.0;
    }

exts_read : (place : _) → ((ext : Ext) → ext.sends ≡ true → HasDirection place (as_of_params ext)) → (media : Media) → Each (IsExt place) (offered_exts media)
exts_read place directed media =
    Each-map (λ (ext : Ext). reads_as_ext ext ≡ true) (IsExt place) as_of_params (row_reads place directed) (sent_exts media) (Each-all reads_as_ext (sent_exts media) (each_row media))

-- Encodings, with numbers in a row as their SSRCs.

encodings_read : (next : ℕ) (encodings : List Encoding) → next + length encodings ≤ 2 ^ 32 → Each IsEncoding (map offered_encoding (mapped_ssrcs next encodings))
encodings_read next [] fits = tt
encodings_read next (e ∷ es) fits =
    let here : next ≤ 4294967295 = omega arith in
    let rest : next + 1 + length es ≤ 2 ^ 32 = omega arith in
    ((here, tt), encodings_read (next + 1) es rest)

not_own : (ssrc next : ℕ) (encodings : List Encoding) → ssrc < next → is_own (map offered_encoding (mapped_ssrcs next encodings)) ssrc ≡ false
not_own ssrc next [] before = refl
not_own ssrc next (e ∷ es) before =
    let other : next ≡ ssrc → ⊥ = λ same. omega arith in
    let rest : ssrc < next + 1 = omega arith in
    or_from _ _ (ne_eqb next ssrc other) (not_own ssrc (next + 1) es rest)

are_apart : (next : ℕ) (encodings : List Encoding) → AreApart (map offered_encoding (mapped_ssrcs next encodings))
are_apart next [] = tt
are_apart next (e ∷ es) =
    let behind : next < next + 1 = omega arith in
    (not_own next (next + 1) es behind, are_apart (next + 1) es)

abbrev mapping_of : List (ℕ × ℕ) → ℕ → Params → Mapping
mapping_of types first_ssrc params = record { codecs = types; encodings = mapped_ssrcs first_ssrc params.encodings }

its_encodings : (params : Params) (caps : Caps) (first_ssrc : ℕ) (mapping : Mapping) → producer_mapping params caps first_ssrc ≡ Ok mapping → mapped_ssrcs first_ssrc params.encodings ≡ mapping.encodings
its_encodings params caps first_ssrc mapping e =
    let types = bound (mapped_types caps.codecs params.codecs) (λ types. Ok (mapping_of types first_ssrc params)) mapping e in
    ap (λ m. m.encodings) (same_ok (mapping_of types.0 first_ssrc params) mapping types.2)

-- The whole.

pub offer_reads : (media : Media) (params : Params) (caps : Caps) (first_ssrc : ℕ) (mapping : Mapping) → IsParams params → IsCaps caps → AreTypedOnce caps.codecs → first_ssrc + length params.encodings ≤ 2 ^ 32 → producer_mapping params caps first_ssrc ≡ Ok mapping → IsParams (consumable media params caps mapping)
unfolding consumable
offer_reads media params caps first_ssrc mapping reads caps_read typed fits e =
    let same = its_encodings params caps first_ssrc mapping e in
    record {
      codecs = codecs_read _ _ caps.codecs mapping.codecs params.codecs caps_read.codecs typed reads.codecs;
      exts = exts_read _ (λ ext sends. (refl, sends)) media;
      encodings = subst (λ (pairs : List (ℕ × ℕ)). Each IsEncoding (map offered_encoding pairs)) same (encodings_read first_ssrc params.encodings fits);
      apart = subst (λ (pairs : List (ℕ × ℕ)). AreApart (map offered_encoding pairs)) same (are_apart first_ssrc params.encodings);
    }
