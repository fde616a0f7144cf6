-- Something is offered of each codec that is mapped.
use Rattle.std.proofs.Common.{◌≡◌, ◌≢◌, ℕ, ◌⊎◌, ◌++◌, List, [], ◌∷◌, map, filter, find, true, cond, eqb, Option, Some, None, Ok, refl, sym, ◌∙◌, inl, inr, subst}
use Rattle.std.specs.Option.{is_some, option_and_then, IsSomeAnd}
use Rattle.std.proofs.lemmas.Bool.{cases_Bool, eq-eqb}
use Rattle.rtp_params.specs.declared.codec.Codec.{Codec}
use Rattle.rtp_params.specs.declared.mapping.Mapping.{Mapping}
use Rattle.rtp_params.specs.declared.params.Caps.{Caps}
use Rattle.rtp_params.specs.declared.params.Params.{Params}
use Rattle.rtp_params.specs.Names.{is_rtx}
use Rattle.rtp_params.specs.Readable.{Each}
use Rattle.ortc_map.specs.RouterCaps.{has_type, is_taken}
use Rattle.ortc_map.specs.ProducerMapping.{is_media, producer_mapping}
use Rattle.ortc_map.specs.Consumable.{mapped_type, offered, offered_as, offered_codec, type_for_codec}
use Rattle.ortc_map.proofs.ConsumerLemmas.{found_is_any}
use Rattle.ortc_map.proofs.MappingLemmas.{mapped_are_named, mapped_are_taken}

abbrev own_type : ℕ × ℕ → Option ℕ
own_type pair = Some pair.0

abbrev payload_type : Codec → Option ℕ
payload_type codec = codec.payload_type

abbrev IsTaken : List Codec → ℕ × ℕ → Type 0
IsTaken router pair = is_taken router pair.1 ≡ true

-- one of a list
abbrev IsIn : Option ℕ → List (Option ℕ) → Type 0
IsIn o [] = ⊥
IsIn o (x ∷ xs) = (x ≡ o) ⊎ IsIn o xs

IsIn-front : (xs zs : List Codec) (o : Option ℕ) → IsIn o (map payload_type xs) → IsIn o (map payload_type (xs ++ zs))
IsIn-front [] zs o h = absurd h
IsIn-front (x ∷ xs) zs o (inl e) = inl e
IsIn-front (x ∷ xs) zs o (inr h) = inr (IsIn-front xs zs o h)

each_in : (xs : List Codec) (ys : List (Option ℕ)) → ((o : Option ℕ) → IsIn o (map payload_type xs) → IsIn o ys) → Each (λ (codec : Codec). IsIn codec.payload_type ys) xs
each_in [] ys within = tt
each_in (x ∷ xs) ys within = (within x.payload_type (inl refl), each_in xs ys (λ o h. within o (inr h)))

-- what stands for a type that is mapped is one of the Router's
mapped_is_taken : (router : List Codec) (pairs : List (ℕ × ℕ)) (o : Option ℕ) → Each (IsTaken router) pairs → IsIn o (map own_type pairs) → IsSomeAnd (option_and_then (mapped_type pairs) o) (λ type. is_taken router type ≡ true)
mapped_is_taken router [] o each h = absurd h
mapped_is_taken router (pair ∷ pairs) o each (inl e) =
    subst (λ (own : Option ℕ). IsSomeAnd (option_and_then (mapped_type (pair ∷ pairs)) own) (λ type. is_taken router type ≡ true)) e
    (subst (λ b. IsSomeAnd (cond b (Some pair.1) (mapped_type pairs pair.0)) (λ type. is_taken router type ≡ true)) (sym (eq-eqb pair.0 pair.0 refl)) each.0)
mapped_is_taken router (pair ∷ pairs) None each (inr h) = mapped_is_taken router pairs None each.1 h
mapped_is_taken router (pair ∷ pairs) (Some own) each (inr h) =
    elim (cases_Bool (eqb pair.0 own)) [
      | inl e ↦ subst (λ b. IsSomeAnd (cond b (Some pair.1) (mapped_type pairs own)) (λ type. is_taken router type ≡ true)) (sym e) each.0
      | inr e ↦
          subst (λ b. IsSomeAnd (cond b (Some pair.1) (mapped_type pairs own)) (λ type. is_taken router type ≡ true)) (sym e)
          (mapped_is_taken router pairs (Some own) each.1 h)
    ]

-- of a codec that is found there is something to offer
offered_of_found : (router : List Codec) (codec : Codec) (type : ℕ) (found : Option Codec) → is_some found ≡ true → offered_as router codec type found ≢ []
offered_of_found router codec type (Some x) e nothing = cc
offered_of_found router codec type None e nothing = cc

offered_of_taken : (router : List Codec) (codec : Codec) (o : Option ℕ) → IsSomeAnd o (λ type. is_taken router type ≡ true) → offered router codec o ≢ []
offered_of_taken router codec None h = absurd h
offered_of_taken router codec (Some type) h =
    offered_of_found router codec type (find (has_type type) router) (found_is_any (has_type type) router ∙ h)

each_offered : (router : List Codec) (pairs : List (ℕ × ℕ)) → Each (IsTaken router) pairs → (xs : List Codec) → Each (λ (codec : Codec). IsIn codec.payload_type (map own_type pairs)) xs → Each (λ (codec : Codec). offered_codec router pairs codec ≢ []) xs
each_offered router pairs taken [] h = tt
each_offered router pairs taken (x ∷ xs) h =
    (offered_of_taken router x (type_for_codec pairs x) (mapped_is_taken router pairs x.payload_type taken h.0), each_offered router pairs taken xs h.1)

pub each_mapped_is_offered : (params : Params) (caps : Caps) (first_ssrc : ℕ) (mapping : Mapping) → producer_mapping params caps first_ssrc ≡ Ok mapping → Each (λ (codec : Codec). offered_codec caps.codecs mapping.codecs codec ≢ []) (filter is_media params.codecs)
each_mapped_is_offered params caps first_ssrc mapping e =
    let media = filter is_media params.codecs in
    let named = mapped_are_named params caps first_ssrc mapping e in
    each_offered caps.codecs mapping.codecs (mapped_are_taken params caps first_ssrc mapping e) media
    (each_in media (map own_type mapping.codecs) (λ o h. subst (λ (types : List (Option ℕ)). IsIn o types) (sym named) (IsIn-front media (filter is_rtx params.codecs) o h)))
