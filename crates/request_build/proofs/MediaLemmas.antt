-- How many encodings what is read, received and piped has, and which SSRCs.
use Rattle.std.proofs.Common.{◌≡◌, ◌≤◌, ℕ, ◌+◌, List, [], ◌∷◌, ◌++◌, length, map, Bool, cond, Option, Some, None, Result, Ok, Err, is_some, refl, sym, ap, inl, inr, ◌∙◌, arith}
use Rattle.std.specs.List.{cons_option, filter_map, range_with_len}
use Rattle.std.proofs.lemmas.List.{append-nil, length-append, length-map}
use Rattle.std.proofs.lemmas.List.Sums.{sum_by-cons}
use Rattle.std.proofs.lemmas.List.FromFn.{length-range_with_len}
use Rattle.rtp_params.specs.declared.encoding.Encoding.{Encoding}
use Rattle.rtp_params.specs.declared.mapping.Mapping.{Mapping}
use Rattle.rtp_params.specs.declared.params.Caps.{Caps}
use Rattle.rtp_params.specs.declared.params.Params.{Params}
use Rattle.ortc_map.specs.declared.fault.MapFault.{MapFault}
use Rattle.ortc_map.specs.Consumable.{offered_encoding}
use Rattle.ortc_map.specs.ConsumerLaws.{DrawsOneOrTwo}
use Rattle.ortc_map.specs.ProducerMapping.{mapped_ssrcs, mapped_types, producer_mapping}
use Rattle.ortc_map.specs.Rules.{◌>>=◌}
use Rattle.pipe_params.specs.Pipe.{pipe_encoding, pipe_params, ssrcs_of}
use Rattle.request_build.specs.Asks.{ssrcs_drawn, ssrcs_for}

-- as many as are consumed
pub length-piped : (params : Params) (enable_rtx : Bool) (first : ℕ) → length (pipe_params params enable_rtx first).encodings ≡ length params.encodings
unfolding pipe_params
length-piped params enable_rtx first =
    length-map (range_with_len first (length params.encodings)) (pipe_encoding enable_rtx (length params.encodings))
    ∙ length-range_with_len first (length params.encodings)

-- one alone
pub few_received : (first : ℕ) (encodings : List Encoding) → DrawsOneOrTwo first encodings → length encodings ≤ 8
few_received first encodings (inl e) = omega (arith, ap length e)
few_received first encodings (inr e) = omega (arith, ap length e)

-- ---- SSRCs

-- as many as are drawn for these encodings
length-ssrcs : (encodings : List Encoding) → length (ssrcs_of encodings) ≡ ssrcs_drawn encodings
length-ssrcs encodings =
    length-append (map (λ (e : Encoding). e.ssrc) encodings) (filter_map (λ (e : Encoding). e.rtx) encodings)
    ∙ ap (λ n. n + length (filter_map (λ (e : Encoding). e.rtx) encodings)) (length-map encodings (λ (e : Encoding). e.ssrc))
    ∙ counted encodings
  where
    with_rtx : (rtx : Option ℕ) (n : ℕ) (rest : List ℕ) (drawn : ℕ) → n + length rest ≡ drawn → n + 1 + length (cons_option rtx rest) ≡ cond (is_some rtx) 2 1 + drawn
    with_rtx None n rest drawn h = omega (arith, h)
    with_rtx (Some m) n rest drawn h = omega (arith, h)

    counted : (es : List Encoding) → length es + length (filter_map (λ (e : Encoding). e.rtx) es) ≡ ssrcs_drawn es
    counted [] = refl
    counted (e ∷ es) =
        let here : length es + 1 + length (cons_option e.rtx (filter_map (λ (x : Encoding). x.rtx) es)) ≡ ssrcs_for e + ssrcs_drawn es =
        with_rtx e.rtx (length es) (filter_map (λ (x : Encoding). x.rtx) es) (ssrcs_drawn es) (counted es) in
        omega (arith, here, sum_by-cons ssrcs_for e es)

-- numbers in a row are as many as are drawn
pub row-drawn : (first n : ℕ) (encodings : List Encoding) → ssrcs_of encodings ≡ range_with_len first n → ssrcs_of encodings ≡ range_with_len first (ssrcs_drawn encodings)
row-drawn first n encodings e =
    e ∙ ap (range_with_len first) (sym (length-range_with_len first n) ∙ sym (ap length e) ∙ length-ssrcs encodings)

pub row-received : (first : ℕ) (encodings : List Encoding) → DrawsOneOrTwo first encodings → ssrcs_of encodings ≡ range_with_len first (ssrcs_drawn encodings)
row-received first encodings (inl e) = row-drawn first 1 encodings (ap ssrcs_of e)
row-received first encodings (inr e) = row-drawn first 2 encodings (ap ssrcs_of e)

-- those of a Producer are mapped to numbers in a row
pub mapped-encodings : (params : Params) (caps : Caps) (first : ℕ) (mapping : Mapping) → producer_mapping params caps first ≡ Ok mapping
    → mapping.encodings ≡ mapped_ssrcs first params.encodings
mapped-encodings params caps first mapping = at (mapped_types caps.codecs params.codecs)
  where
    at : (types : Result (List (ℕ × ℕ)) MapFault) → (types >>= (λ t. Ok (record { codecs = t; encodings = mapped_ssrcs first params.encodings }))) ≡ Ok mapping
        → mapping.encodings ≡ mapped_ssrcs first params.encodings
    at (Ok t) e =
        let made : Mapping = record { codecs = t; encodings = mapped_ssrcs first params.encodings } in
        let same : made ≡ mapping = cc in
        ap (λ (m : Mapping). m.encodings) (sym same)
    at (Err fault) e = absurd cc

pub row-offered : (first : ℕ) (encodings : List Encoding) → ssrcs_of (map offered_encoding (mapped_ssrcs first encodings)) ≡ range_with_len first (length encodings)
row-offered first encodings =
    ap (λ (rest : List ℕ). map (λ (e : Encoding). e.ssrc) (map offered_encoding (mapped_ssrcs first encodings)) ++ rest) (no-rtx (mapped_ssrcs first encodings))
    ∙ append-nil (map (λ (e : Encoding). e.ssrc) (map offered_encoding (mapped_ssrcs first encodings)))
    ∙ own first encodings
  where
    no-rtx : (pairs : List (ℕ × ℕ)) → filter_map (λ (e : Encoding). e.rtx) (map offered_encoding pairs) ≡ []
    no-rtx [] = refl
    no-rtx (pair ∷ pairs) = no-rtx pairs

    own : (n : ℕ) (es : List Encoding) → map (λ (e : Encoding). e.ssrc) (map offered_encoding (mapped_ssrcs n es)) ≡ range_with_len n (length es)
    own n [] = refl
    own n (e ∷ es) = ap (λ (rest : List ℕ). n ∷ rest) (own (n + 1) es)

pub mapped-offered : (pairs : List (ℕ × ℕ)) → map (λ pair. pair.1) pairs ≡ map (λ (e : Encoding). e.ssrc) (map offered_encoding pairs)
mapped-offered [] = refl
mapped-offered (pair ∷ pairs) = ap (λ (rest : List ℕ). pair.1 ∷ rest) (mapped-offered pairs)
