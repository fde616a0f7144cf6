-- The stream that is found for a mapped SSRC, and what stands in its place behind a call.
use Rattle.std.proofs.Common.{◌≡◌, ℕ, ◌+◌, ◌<◌, ◌==◌, Bool, true, false, List, [], ◌∷◌, length, zero, suc, slice_set, slice_index_or, Option, Some, None, refl, sym, ap, subst, take, IfSome, ◌∙◌, inl, inr, arith}
use Rattle.std.specs.List.{position, position_from}
use Rattle.std.proofs.lemmas.Bool.{cases_Bool}
use Rattle.std.proofs.lemmas.List.Quantifiers.{position-Some}
use Rattle.std.proofs.lemmas.Iterator.Adapters.{position_from-zero}
use Rattle.std.specs.Option.{option_and_then}
use Rattle.rtp_extension.specs.declared.mapped.Mapped.{Mapped}
use Rattle.rtp_packet.specs.Packet.{Fields, IsPacket}
use Rattle.seq_manager.specs.Numbering.{output_number}
use Rattle.simple_consumer.specs.Sending.{Offer, Sending, takes, passed, behind_packet, emitted_fields}
use Rattle.pipe_consumer.specs.Streams.{stream_for, taken_by, takes_one, passed_by, behind_offer}

-- of the first that has the SSRC
first-found : (ssrc : ℕ) (ss : List Sending) (i : ℕ) (d : Sending) → i < length ss → (ssrc == (slice_index_or ss i d).mapped) ≡ true
    → ((k : ℕ) → k < i → (ssrc == (slice_index_or ss k d).mapped) ≡ false) → stream_for ss ssrc ≡ Some (slice_index_or ss i d)
first-found ssrc [] i d h t f = absurd (omega arith)
first-found ssrc (s ∷ ss) zero d h t f = rw t refl
first-found ssrc (s ∷ ss) (suc i) d h t f = rw (f 0 (omega arith)) (first-found ssrc ss i d (omega arith) t (λ k l. f (suc k) (omega arith)))

first-behind : (o : Offer) (ss : List Sending) (i : ℕ) (d : Sending) → i < length ss → (o.mapped.ssrc == (slice_index_or ss i d).mapped) ≡ true
    → ((k : ℕ) → k < i → (o.mapped.ssrc == (slice_index_or ss k d).mapped) ≡ false) → slice_set ss i (behind_packet (slice_index_or ss i d) o) ≡ behind_offer ss o
first-behind o [] i d h t f = absurd (omega arith)
first-behind o (s ∷ ss) zero d h t f = rw t refl
first-behind o (s ∷ ss) (suc i) d h t f = rw (f 0 (omega arith)) (ap (λ (xs : List Sending). s ∷ xs) (first-behind o ss i d (omega arith) t (λ k l. f (suc k) (omega arith))))

pub found-at : (ssrc : ℕ) (ss : List Sending) (i : ℕ) (d : Sending) → position (λ s. ssrc == s.mapped) ss ≡ Some i → stream_for ss ssrc ≡ Some (slice_index_or ss i d)
found-at ssrc ss i d h =
    let at : (i < length ss) × ((ssrc == (slice_index_or ss i d).mapped) ≡ true) × ((k : ℕ) → k < i → (ssrc == (slice_index_or ss k d).mapped) ≡ false) =
    position-Some (λ s. ssrc == s.mapped) ss i d h in
    first-found ssrc ss i d at.0 at.1 at.2

pub behind-at : (o : Offer) (ss : List Sending) (i : ℕ) (d : Sending) → position (λ s. o.mapped.ssrc == s.mapped) ss ≡ Some i → slice_set ss i (behind_packet (slice_index_or ss i d) o) ≡ behind_offer ss o
behind-at o ss i d h =
    let at : (i < length ss) × ((o.mapped.ssrc == (slice_index_or ss i d).mapped) ≡ true) × ((k : ℕ) → k < i → (o.mapped.ssrc == (slice_index_or ss k d).mapped) ≡ false) =
    position-Some (λ s. o.mapped.ssrc == s.mapped) ss i d h in
    first-behind o ss i d at.0 at.1 at.2

-- where none has it
none-found : (ssrc n : ℕ) (ss : List Sending) → position_from (λ s. ssrc == s.mapped) n ss ≡ None → stream_for ss ssrc ≡ None
none-found ssrc n [] h = refl
none-found ssrc n (s ∷ ss) h = elim (cases_Bool (ssrc == s.mapped)) [
  | inl t ↦ (let no : Some n ≡ None = rw t at h in absurd cc)
  | inr f ↦ rw f (none-found ssrc (n + 1) ss (rw f at h))
]

none-behind : (o : Offer) (n : ℕ) (ss : List Sending) → position_from (λ s. o.mapped.ssrc == s.mapped) n ss ≡ None → behind_offer ss o ≡ ss
none-behind o n [] h = refl
none-behind o n (s ∷ ss) h = elim (cases_Bool (o.mapped.ssrc == s.mapped)) [
  | inl t ↦ (let no : Some n ≡ None = rw t at h in absurd cc)
  | inr f ↦ rw f (ap (λ (xs : List Sending). s ∷ xs) (none-behind o (n + 1) ss (rw f at h)))
]

pub not-found : (ssrc : ℕ) (ss : List Sending) → position (λ s. ssrc == s.mapped) ss ≡ None → stream_for ss ssrc ≡ None
not-found ssrc ss h = none-found ssrc 0 ss (sym (position_from-zero (λ s. ssrc == s.mapped) ss) ∙ h)

pub none-goes-on : (o : Offer) (ss : List Sending) → position (λ s. o.mapped.ssrc == s.mapped) ss ≡ None → behind_offer ss o ≡ ss
none-goes-on o ss h = none-behind o 0 ss (sym (position_from-zero (λ s. o.mapped.ssrc == s.mapped) ss) ∙ h)

-- ---- what the stream that was found says of all

pub found : (now ss looked : List Sending) (ssrc i : ℕ) (s : Sending) (place : Option ℕ) → ss ≡ now → looked ≡ ss → place ≡ position (λ x. ssrc == x.mapped) looked → place ≡ Some i → s ≡ slice_index_or ss i s → stream_for now ssrc ≡ Some s
found now ss looked ssrc i s place is same at there here =
    ap (λ (xs : List Sending). stream_for xs ssrc) (sym is) ∙ found-at ssrc ss i s (ap (position (λ x. ssrc == x.mapped)) (sym same) ∙ sym at ∙ there) ∙ ap (λ (x : Sending). Some x) (sym here)

pub found-takes : (now : List Sending) (s : Sending) (m : Mapped) (answer : Bool) → stream_for now m.ssrc ≡ Some s → answer ≡ takes s m → answer ≡ takes_one now m
found-takes now s m answer at h = h ∙ sym (ap (λ (x : Option Sending). taken_by x m) at)

pub found-passes : (now : List Sending) (s : Sending) (o : Offer) (written : Option (List ℕ)) → stream_for now o.mapped.ssrc ≡ Some s → written ≡ passed s o → written ≡ passed_by now o
found-passes now s o written at h = h ∙ sym (ap (option_and_then (λ x. passed x o)) at)

pub found-goes-on : (now ss looked : List Sending) (o : Offer) (i : ℕ) (s next : Sending) (place : Option ℕ)
    → ss ≡ now → looked ≡ ss → place ≡ position (λ x. o.mapped.ssrc == x.mapped) looked → place ≡ Some i → s ≡ slice_index_or ss i s → next ≡ behind_packet s o → slice_set ss i next ≡ behind_offer now o
found-goes-on now ss looked o i s next place is same at there here behind =
    ap (λ (x : Sending). slice_set ss i x) (behind ∙ ap (λ (x : Sending). behind_packet x o) here)
    ∙ behind-at o ss i s (ap (position (λ x. o.mapped.ssrc == x.mapped)) (sym same) ∙ sym at ∙ there)
    ∙ ap (λ (xs : List Sending). behind_offer xs o) is

pub found-fields : (now : List Sending) (s : Sending) (o : Offer) (answer : Option ℕ) (into : List ℕ) (fields : Fields) → stream_for now o.mapped.ssrc ≡ Some s
    → IfSome answer (λ n. IsPacket (emitted_fields s.params o (output_number s.numbering fields.seq) fields) (take n into))
    → IfSome (stream_for now o.mapped.ssrc) (λ x. IfSome answer (λ n. IsPacket (emitted_fields x.params o (output_number x.numbering fields.seq) fields) (take n into)))
found-fields now s o answer into fields at h =
    subst (λ (y : Option Sending). IfSome y (λ x. IfSome answer (λ n. IsPacket (emitted_fields x.params o (output_number x.numbering fields.seq) fields) (take n into)))) (sym at) h

-- ---- and where none is found

pub missing : (now ss looked : List Sending) (ssrc : ℕ) (place : Option ℕ) → ss ≡ now → looked ≡ ss → place ≡ position (λ x. ssrc == x.mapped) looked → place ≡ None → stream_for now ssrc ≡ None
missing now ss looked ssrc place is same at there = ap (λ (xs : List Sending). stream_for xs ssrc) (sym is) ∙ not-found ssrc ss (ap (position (λ x. ssrc == x.mapped)) (sym same) ∙ sym at ∙ there)

pub missing-takes : (now : List Sending) (m : Mapped) → stream_for now m.ssrc ≡ None → false ≡ takes_one now m
missing-takes now m at = sym (ap (λ (x : Option Sending). taken_by x m) at)

pub missing-passes : (now : List Sending) (o : Offer) → stream_for now o.mapped.ssrc ≡ None → None ≡ passed_by now o
missing-passes now o at = sym (ap (option_and_then (λ x. passed x o)) at)

pub missing-goes-on : (now ss looked : List Sending) (o : Offer) (place : Option ℕ) → ss ≡ now → looked ≡ ss → place ≡ position (λ x. o.mapped.ssrc == x.mapped) looked → place ≡ None → now ≡ behind_offer now o
missing-goes-on now ss looked o place is same at there =
    sym (ap (λ (xs : List Sending). behind_offer xs o) (sym is) ∙ none-goes-on o ss (ap (position (λ x. o.mapped.ssrc == x.mapped)) (sym same) ∙ sym at ∙ there) ∙ is)
