-- No number of what is written is a float.
use Rattle.std.proofs.Common.{◌≡◌, ℕ, List, [], ◌∷◌, Bool, false, Option, Some, None, option_map, refl, pos, negsuc, Less, Equal, Greater, Ordering}
use Rattle.std.proofs.lemmas.Bool.{or_from, or_parts}
use Rattle.std.specs.Cmp.Lexicographic.{slice_cmp}
use Rattle.std.specs.Ordering.{match_ordering, nat_cmp}
use Rattle.serde_json.specs.Data.{Data, Members, no_members, member, put}
use Rattle.serde_json.specs.Written.{has_float, members_have_float}
use Rattle.ms_base.specs.declared.keys.Media.{Media}
use Rattle.rtp_params.specs.declared.codec.Codec.{Codec}
use Rattle.rtp_params.specs.declared.codec.Scalar.{Scalar}
use Rattle.rtp_params.specs.declared.codec.Scalar.TheVariants.{Number, Word}
use Rattle.rtp_params.specs.declared.encoding.Encoding.{Encoding}
use Rattle.rtp_params.specs.declared.ext.Ext.{Ext}
use Rattle.rtp_params.specs.declared.mapping.Mapping.{Mapping}
use Rattle.rtp_params.specs.declared.params.Params.{Params}
use Rattle.rtp_params.specs.Writing.{codec_members, codec_value, encoding_value, ext_value, feedback_value, list_value, number_value, params_value, put_optional, put_parameters, rtx_value, scalar_value, written_channels}
use Rattle.request_contents.specs.Values.{consume_value, mapping_value, produce_value, ssrcs_value, types_value}

-- ---- lists and members

list-whole : {A : Type 0} (value : A → Data) → ((x : A) → has_float (value x) ≡ false) → (xs : List A) → has_float (list_value value xs) ≡ false
list-whole value so [] = refl
list-whole value so (x ∷ xs) = or_from _ _ (so x) (list-whole value so xs)

placed : (o : Ordering) (before in_place behind : Members) → members_have_float before ≡ false → members_have_float in_place ≡ false → members_have_float behind ≡ false
    → members_have_float (match_ordering o before in_place behind) ≡ false
placed Less before in_place behind b i a = b
placed Equal before in_place behind b i a = i
placed Greater before in_place behind b i a = a

put-whole : (k : List ℕ) (d : Data) (ms : Members) → has_float d ≡ false → members_have_float ms ≡ false → members_have_float (put k d ms) ≡ false
put-whole k d no_members one all = or_from _ _ one refl
put-whole k d (member l e ms) one all =
    let parts = or_parts (has_float e) (members_have_float ms) all in
    placed (slice_cmp nat_cmp k l) (member k d (member l e ms)) (member l d ms) (member l e (put k d ms)) (or_from _ _ one all) (or_from _ _ one parts.1)
    (or_from _ _ parts.0 (put-whole k d ms one parts.1))

put_optional-whole : {A : Type 0} (k : List ℕ) (value : A → Data) (found : Option A) (ms : Members) → ((x : A) → has_float (value x) ≡ false) → members_have_float ms ≡ false
    → members_have_float (put_optional k (option_map value found) ms) ≡ false
put_optional-whole k value None ms so all = all
put_optional-whole k value (Some x) ms so all = put-whole k (value x) ms (so x) all

-- ---- parameters

scalar-whole : (scalar : Scalar) → has_float (scalar_value scalar) ≡ false
scalar-whole (Number (pos n)) = refl
scalar-whole (Number (negsuc n)) = refl
scalar-whole (Word text) = refl

parameters-whole : (parameters : List (List ℕ × Scalar)) (ms : Members) → members_have_float ms ≡ false → members_have_float (put_parameters parameters ms) ≡ false
parameters-whole [] ms all = all
parameters-whole (p ∷ ps) ms all = parameters-whole ps _ (put-whole p.0 (scalar_value p.1) ms (scalar-whole p.1) all)

members-whole : (codec : Codec) → members_have_float (codec_members codec) ≡ false
members-whole codec =
    or_from _ _ (parameters-whole codec.parameters no_members refl) (or_from _ _ (list-whole feedback_value (λ f. refl) codec.feedback) refl)

codec-whole : (place : _) (codec : Codec) → has_float (codec_value place codec) ≡ false
unfolding codec_value
codec-whole place codec =
    put_optional-whole _ number_value (written_channels codec.media codec.channels) _ (λ n. refl)
    (put_optional-whole _ number_value codec.payload_type (codec_members codec) (λ n. refl) (members-whole codec))

encoding-whole : (encoding : Encoding) → has_float (encoding_value encoding) ≡ false
unfolding encoding_value
encoding-whole encoding = put_optional-whole _ rtx_value encoding.rtx _ (λ n. refl) refl

params-whole : (params : Params) → has_float (params_value params) ≡ false
unfolding params_value ext_value
params-whole params =
    or_from _ _ (list-whole _ (λ codec. codec-whole _ codec) params.codecs)
    (or_from _ _ (list-whole encoding_value encoding-whole params.encodings) (or_from _ _ (list-whole _ (λ (ext : Ext). refl) params.exts) refl))

-- ---- contents

mapping-whole : (mapping : Mapping) → has_float (mapping_value mapping) ≡ false
mapping-whole mapping =
    or_from _ _ (list-whole types_value (λ pair. refl) mapping.codecs) (or_from _ _ (list-whole ssrcs_value (λ pair. refl) mapping.encodings) refl)

pub produce-whole : (media : Media) (paused : Bool) (mapping : Mapping) (params : Params) → has_float (produce_value media paused mapping params) ≡ false
produce-whole media paused mapping params = or_from _ _ (mapping-whole mapping) (or_from _ _ (params-whole params) refl)

pub consume-whole : (media : Media) (paused simple : Bool) (consumable : List Encoding) (params : Params) → has_float (consume_value media paused consumable params simple) ≡ false
consume-whole media paused simple consumable params = or_from _ _ (list-whole encoding_value encoding-whole consumable) (or_from _ _ (params-whole params) refl)
