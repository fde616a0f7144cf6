-- The laws of what is consumed.
use Rattle.std.proofs.Common.{◌≡◌, ℕ, ◌+◌, ◌⊎◌, List, [], ◌∷◌, filter, Bool, true, false, cond, Some, None, Result, Ok, Err, refl, sym, ◌∙◌, inl, inr, subst}
use Rattle.std.specs.Result.{is_ok, IsOk}
use Rattle.std.specs.List.{list_any, All}
use Rattle.std.proofs.lemmas.Bool.{and_parts}
use Rattle.std.proofs.lemmas.List.Elements.{All-map, All-weaker, filter_passes}
use Rattle.ms_base.specs.declared.code.Code.TheVariants as code
use Rattle.rtp_params.specs.declared.codec.Codec.{Codec}
use Rattle.rtp_params.specs.declared.encoding.Encoding.{Encoding}
use Rattle.rtp_params.specs.declared.ext.Ext.{Ext}
use Rattle.rtp_params.specs.declared.params.Caps.{Caps}
use Rattle.rtp_params.specs.declared.params.Params.{Params}
use Rattle.rtp_params.specs.Names.{is_rtx, apt_of}
use Rattle.ortc_map.specs.declared.fault.MapFault.TheVariants.{Unsupported}
use Rattle.ortc_map.specs.Matching.{strictly_matches}
use Rattle.ortc_map.specs.ConsumerParams.{can_consume, consumer_codec, consumer_codecs, consumer_encoding, consumer_exts, consumer_params, has_associated, is_known, is_matched, is_same_ext, start_with_media, stays}
use Rattle.ortc_map.specs.ConsumerLaws.{DrawsOneOrTwo, LosesTheFirst, are_of_one}
use Rattle.ortc_map.proofs.ConsumerLemmas.{KeepsNames, carried, started, of_one, found_is_any}

abbrev answer : {X E : Type 0} → Bool → X → E → Result X E
answer b x e = cond b (Ok x) (Err e)

answered : {X E : Type 0} (b : Bool) (x : X) (e : E) → is_ok (answer b x e) ≡ b
answered true x e = refl
answered false x e = refl

-- whether the codec for retransmissions stays with its own
abbrev associated : Params → Caps → Codec → Bool
associated consumable caps codec = has_associated caps.codecs consumable.codecs (apt_of codec)

-- the extensions and the codecs of the Consumer
abbrev pub exts_for : Params → Caps → List Ext
exts_for consumable caps = consumer_exts caps.exts consumable.exts

abbrev pub codecs_for : Params → Caps → List Codec
codecs_for consumable caps = consumer_codecs caps.codecs (exts_for consumable caps) consumable.codecs

abbrev pub changed : Params → Caps → Codec → Codec
changed consumable caps = consumer_codec caps.codecs (exts_for consumable caps)

keeps_names : (consumable : Params) (caps : Caps) → KeepsNames (changed consumable caps)
keeps_names consumable caps codec = refl

is_answered : (consumable : Params) (caps : Caps) (first : ℕ) → is_ok (consumer_params consumable caps first) ≡ start_with_media (codecs_for consumable caps)
unfolding consumer_params
is_answered consumable caps first = answered (start_with_media (codecs_for consumable caps)) _ (Unsupported code.Codecs)

pub yes : (consumable : Params) (caps : Caps) (first : ℕ) → can_consume consumable caps ≡ true → IsOk (consumer_params consumable caps first)
unfolding can_consume
yes consumable caps first h =
    is_answered consumable caps first
    ∙ carried (is_matched caps.codecs) (associated consumable caps) (changed consumable caps) (keeps_names consumable caps) consumable.codecs h

pub otherwise : (consumable : Params) (caps : Caps) (first : ℕ) → IsOk (consumer_params consumable caps first) → (can_consume consumable caps ≡ true) ⊎ LosesTheFirst consumable caps
unfolding can_consume
otherwise consumable caps first h =
    started (is_matched caps.codecs) (associated consumable caps) (changed consumable caps) (keeps_names consumable caps) consumable.codecs (sym (is_answered consumable caps first) ∙ h)

pub same_of_one : (consumable : Params) (caps : Caps) (first : ℕ) → are_of_one consumable.codecs ≡ true → is_ok (consumer_params consumable caps first) ≡ can_consume consumable caps
unfolding can_consume
same_of_one consumable caps first h =
    is_answered consumable caps first
    ∙ of_one (is_matched caps.codecs) (associated consumable caps) (changed consumable caps) (keeps_names consumable caps) consumable.codecs h

the_answer : {X E : Type 0} (b : Bool) (x y : X) (e : E) → answer b x e ≡ Ok y → x ≡ y
the_answer true x y e h = cc
the_answer false x y e h = cc

-- the parameters that aren't refused
abbrev pub made : Params → Caps → ℕ → Params
made consumable caps first =
    record {
      codecs = codecs_for consumable caps;
      exts = exts_for consumable caps;
      encodings = consumer_encoding (codecs_for consumable caps) first ∷ [];
      cname = consumable.cname;
      reduced_size = consumable.reduced_size;
    }

pub is_made : (consumable : Params) (caps : Caps) (first : ℕ) (params : Params) → consumer_params consumable caps first ≡ Ok params → made consumable caps first ≡ params
unfolding consumer_params
is_made consumable caps first params h = the_answer (start_with_media (codecs_for consumable caps)) (made consumable caps first) params (Unsupported code.Codecs) h

-- each codec that stays is matched
matched : (consumable : Params) (caps : Caps) (codec : Codec) → stays caps.codecs consumable.codecs codec ≡ true → list_any (strictly_matches codec) caps.codecs ≡ true
matched consumable caps codec h =
    let parts = and_parts (is_matched caps.codecs codec) _ h in
    sym (found_is_any (strictly_matches codec) caps.codecs) ∙ parts.0

pub within_codecs : (consumable : Params) (caps : Caps) (first : ℕ) (params : Params) → consumer_params consumable caps first ≡ Ok params → All (λ codec. list_any (strictly_matches codec) caps.codecs ≡ true) params.codecs
within_codecs consumable caps first params h =
    let kept = filter (stays caps.codecs consumable.codecs) consumable.codecs in
    let P : Codec → Type 0 = λ codec. list_any (strictly_matches codec) caps.codecs ≡ true in
    let each : All P kept = All-weaker (λ codec. stays caps.codecs consumable.codecs codec ≡ true) P (matched consumable caps) kept (filter_passes (stays caps.codecs consumable.codecs) consumable.codecs) in
    subst (λ (ps : Params). All P ps.codecs) (is_made consumable caps first params h) (All-map P (changed consumable caps) kept each)

pub within_exts : (consumable : Params) (caps : Caps) (first : ℕ) (params : Params) → consumer_params consumable caps first ≡ Ok params → All (λ ext. list_any (is_same_ext ext) caps.exts ≡ true) params.exts
within_exts consumable caps first params h =
    let P : Ext → Type 0 = λ ext. list_any (is_same_ext ext) caps.exts ≡ true in
    subst (λ (ps : Params). All P ps.exts) (is_made consumable caps first params h) (filter_passes (is_known caps.exts) consumable.exts)

abbrev pub stream : ℕ → Bool → List Encoding
stream first b = record { ssrc = first; rtx = cond b (Some (first + 1)) None } ∷ []

draws : (first : ℕ) (b : Bool) → DrawsOneOrTwo first (stream first b)
draws first true = inr refl
draws first false = inl refl

pub within_ssrcs : (consumable : Params) (caps : Caps) (first : ℕ) (params : Params) → consumer_params consumable caps first ≡ Ok params → DrawsOneOrTwo first params.encodings
within_ssrcs consumable caps first params h =
    subst (λ (ps : Params). DrawsOneOrTwo first ps.encodings) (is_made consumable caps first params h) (draws first (list_any is_rtx (codecs_for consumable caps)))
