-- What is emitted call by call is what the whole list emits: the offers that are taken are those of the stretches, and the calls that
-- their numbering makes part them as the stretches do.
use Rattle.std.proofs.Common.{◌≡◌, ℕ, ◌<◌, List, [], ◌∷◌, ◌++◌, Bool, true, false, cond, not, ◌&&◌, ◌||◌, map, Option, Some, None, refl, sym, ap, ◌∙◌, inl, inr, arith}
use Rattle.std.proofs.lemmas.Bool.{cases_Bool}
use Rattle.std.proofs.lemmas.List.{append-nil}
use Rattle.std.specs.List.{filter, cons_option}
use Rattle.std.specs.Prelude.{option_to_list}
use Rattle.rtp_extension.specs.declared.mapped.Flags.{Flags}
use Rattle.rtp_extension.specs.Activity.{is_active}
use Rattle.rtp_packet.specs.Packet.{Fields, IsPacket, AreBytes}
use Rattle.rtp_packet.specs.Fault.{Parses}
use Rattle.rtp_packet.specs.Reading.{fields_of}
use Rattle.rtp_params.specs.declared.params.Params.{Params}
use Rattle.seq_manager.specs.Calls as numbering
use Rattle.seq_manager.specs.Calls.{sync, input, AreSequenceNumbers, first_stretch, later_stretches, answers}
use Rattle.seq_manager.specs.Numbering.{Numbering, unnumbered, next_stretch, output_number, numbered}
use Rattle.seq_manager.specs.Outputs.{sent_numbers}
use Rattle.simple_consumer.specs.Sending.{Offer, Sending, seq_of, is_for, can_begin, emitted, sending_of, passed, behind_packet, behind_flags}
use Rattle.simple_consumer.specs.Calls.{Call, set_flags, pass, ArePackets, sending_after, emissions}
use Rattle.simple_consumer.specs.Emits.{first_span, later_spans, spans, from_first, stretch_of, stretches, joined, emitted_under, emits}
use Rattle.simple_consumer.specs.Lower.{LowerLaws}

-- the sequence number of a packet has 16 bits
seq-fits : LowerLaws → (bytes : List ℕ) → AreBytes bytes → Parses bytes → (fields_of bytes).seq < 65536
seq-fits laws bytes are parses =
    let found : (f : Fields) × IsPacket f bytes = (laws.grammar bytes are).0 parses in
    let same : (fields_of bytes).seq ≡ found.0.seq = ap (λ (f : Fields). f.seq) (laws.fields bytes found.0 found.1) in
    omega (arith, found.1.fits.seq, same)

cons-both : {x y : List ℕ} {xs ys : List (List ℕ)} → x ≡ y → xs ≡ ys → x ∷ xs ≡ y ∷ ys
cons-both a b = cc

-- which offers are for a Consumer, and with which a stretch can begin
module _ (wanted begins : Offer → Bool) where
  abbrev is_taken : Bool → Bool → Offer → Bool
  is_taken active begun o = active && wanted o && (begun || begins o)

  -- the calls that the numbering is given
  abbrev pub numbering_calls : Bool → Bool → List Call → List numbering.Call
  numbering_calls active begun [] = []
  numbering_calls active begun (pass o ∷ calls) = cond (is_taken active begun o) (input (seq_of o) ∷ numbering_calls active true calls) (numbering_calls active begun calls)
  numbering_calls active begun (set_flags f ∷ calls) =
      cond (is_active f && not active) (sync ∷ numbering_calls (is_active f) false calls) (numbering_calls (is_active f) begun calls)

  -- the offers that are taken
  abbrev pub taken_offers : Bool → Bool → List Call → List Offer
  taken_offers active begun [] = []
  taken_offers active begun (pass o ∷ calls) = cond (is_taken active begun o) (o ∷ taken_offers active true calls) (taken_offers active begun calls)
  taken_offers active begun (set_flags f ∷ calls) = cond (is_active f && not active) (taken_offers (is_active f) false calls) (taken_offers (is_active f) begun calls)

  -- what is left of a stretch
  abbrev rest_of_stretch : Bool → List Offer → List Offer
  rest_of_stretch true span = filter wanted span
  rest_of_stretch false span = from_first begins (filter wanted span)

  abbrev whole_stretch : List Offer → List Offer
  whole_stretch span = from_first begins (filter wanted span)

  -- ---- stretch by stretch

  first-inactive : (begun : Bool) (calls : List Call) → first_stretch (numbering_calls false begun calls) ≡ []
  first-inactive begun [] = refl
  first-inactive begun (pass o ∷ calls) = first-inactive begun calls
  first-inactive begun (set_flags f ∷ calls) = elim (cases_Bool (is_active f)) [ inl t ↦ rw t refl | inr n ↦ rw n (first-inactive begun calls) ]

  no-offers : (begun : Bool) → rest_of_stretch begun [] ≡ []
  no-offers true = refl
  no-offers false = refl

  pub first-active : (begun : Bool) (calls : List Call) → first_stretch (numbering_calls true begun calls) ≡ map seq_of (rest_of_stretch begun (first_span calls))
  first-active true [] = refl
  first-active false [] = refl
  first-active true (pass o ∷ calls) = elim (cases_Bool (wanted o)) [
    | inl t ↦ rw t (ap (λ (ns : List ℕ). seq_of o ∷ ns) (first-active true calls))
    | inr n ↦ rw n (first-active true calls)
  ]
  first-active false (pass o ∷ calls) = elim (cases_Bool (wanted o)) [
    | inl t ↦ rw t (elim (cases_Bool (begins o)) [
      | inl b ↦ rw b (ap (λ (ns : List ℕ). seq_of o ∷ ns) (first-active true calls))
      | inr c ↦ rw c (first-active false calls)
    ])
    | inr n ↦ rw n (first-active false calls)
  ]
  first-active begun (set_flags f ∷ calls) = elim (cases_Bool (is_active f)) [
    | inl t ↦ rw t (first-active begun calls)
    | inr n ↦ rw n (first-inactive begun calls ∙ sym (ap (map seq_of) (no-offers begun)))
  ]

  pub later-are : (active begun : Bool) (calls : List Call) → later_stretches (numbering_calls active begun calls) ≡ map (map seq_of) (map whole_stretch (later_spans active calls))
  later-are active begun [] = refl
  later-are active begun (pass o ∷ calls) = elim (cases_Bool (is_taken active begun o)) [
    | inl t ↦ rw t (later-are active true calls)
    | inr n ↦ rw n (later-are active begun calls)
  ]
  later-are true begun (set_flags f ∷ calls) = elim (cases_Bool (is_active f)) [
    | inl t ↦ rw t (later-are true begun calls)
    | inr n ↦ rw n (later-are false begun calls)
  ]
  later-are false begun (set_flags f ∷ calls) = elim (cases_Bool (is_active f)) [
    | inl t ↦ rw t (cons-both (first-active false calls) (later-are true false calls))
    | inr n ↦ rw n (later-are false begun calls)
  ]

  -- ---- the offers that are taken

  abbrev head_of : Bool → Bool → List Call → List Offer
  head_of true begun calls = rest_of_stretch begun (first_span calls)
  head_of false begun calls = []

  pub offers-are : (active begun : Bool) (calls : List Call) → taken_offers active begun calls ≡ head_of active begun calls ++ joined (map whole_stretch (later_spans active calls))
  offers-are true true [] = refl
  offers-are true false [] = refl
  offers-are false begun [] = refl
  offers-are true true (pass o ∷ calls) = elim (cases_Bool (wanted o)) [
    | inl t ↦ rw t (ap (λ (os : List Offer). o ∷ os) (offers-are true true calls))
    | inr n ↦ rw n (offers-are true true calls)
  ]
  offers-are true false (pass o ∷ calls) = elim (cases_Bool (wanted o)) [
    | inl t ↦ rw t (elim (cases_Bool (begins o)) [
      | inl b ↦ rw b (ap (λ (os : List Offer). o ∷ os) (offers-are true true calls))
      | inr c ↦ rw c (offers-are true false calls)
    ])
    | inr n ↦ rw n (offers-are true false calls)
  ]
  offers-are false begun (pass o ∷ calls) = offers-are false begun calls
  offers-are true begun (set_flags f ∷ calls) = elim (cases_Bool (is_active f)) [
    | inl t ↦ rw t (offers-are true begun calls)
    | inr n ↦ rw n (offers-are false begun calls ∙ sym (ap (λ (os : List Offer). os ++ joined (map whole_stretch (later_spans false calls))) (no-offers begun)))
  ]
  offers-are false begun (set_flags f ∷ calls) = elim (cases_Bool (is_active f)) [
    | inl t ↦ rw t (offers-are true false calls)
    | inr n ↦ rw n (offers-are false begun calls)
  ]

  -- ---- the numbers are sequence numbers

  pub are-numbers : LowerLaws → (active begun : Bool) (calls : List Call) → ArePackets calls → AreSequenceNumbers (numbering_calls active begun calls)
  are-numbers laws active begun [] are = tt
  are-numbers laws active begun (pass o ∷ calls) are = elim (cases_Bool (is_taken active begun o)) [
    | inl t ↦ rw t (seq-fits laws o.packet are.0 are.1, are-numbers laws active true calls are.2)
    | inr n ↦ rw n (are-numbers laws active begun calls are.2)
  ]
  are-numbers laws active begun (set_flags f ∷ calls) are = elim (cases_Bool (is_active f && not active)) [
    | inl t ↦ rw t (are-numbers laws (is_active f) false calls are)
    | inr n ↦ rw n (are-numbers laws (is_active f) begun calls are)
  ]

-- ---- a Consumer

abbrev wanted_by : Params → ℕ → Offer → Bool
wanted_by params mapped o = is_for params mapped o.mapped

abbrev begins : Offer → Bool
begins o = can_begin o.mapped

abbrev sending : Params → ℕ → Flags → Bool → Numbering → Sending
sending params mapped flags begun n = record { params = params; mapped = mapped; flags = flags; begun = begun; numbering = n }

emissions-are : (params : Params) (mapped : ℕ) (flags : Flags) (begun : Bool) (n : Numbering) (calls : List Call)
    → emissions (sending params mapped flags begun n) calls
    ≡ emitted_under params (taken_offers (wanted_by params mapped) begins (is_active flags) begun calls)
    (answers n (numbering_calls (wanted_by params mapped) begins (is_active flags) begun calls))
emissions-are params mapped flags begun n [] = refl
emissions-are params mapped flags begun n (pass o ∷ calls) = elim (cases_Bool (is_taken (wanted_by params mapped) begins (is_active flags) begun o)) [
  | inl t ↦ rw t (ap (λ (rest : List (List ℕ)). emitted params o (output_number n (seq_of o)) ∷ rest) (emissions-are params mapped flags true (numbered n (seq_of o)) calls))
  | inr f ↦ rw f (emissions-are params mapped flags begun n calls)
]
emissions-are params mapped flags begun n (set_flags f ∷ calls) = elim (cases_Bool (is_active f && not (is_active flags))) [
  | inl t ↦ rw t (emissions-are params mapped f false (next_stretch n) calls)
  | inr b ↦ rw b (emissions-are params mapped f begun n calls)
]

-- the offers and the numbers of all stretches, by whether the Consumer is active at first
offers-of-stretches : (params : Params) (mapped : ℕ) (active : Bool) (calls : List Call)
    → taken_offers (wanted_by params mapped) begins active false calls ≡ joined (map (stretch_of params mapped) (spans active calls))
offers-of-stretches params mapped true calls = offers-are (wanted_by params mapped) begins true false calls
offers-of-stretches params mapped false calls = offers-are (wanted_by params mapped) begins false false calls

numbers-of-stretches : (params : Params) (mapped : ℕ) (active : Bool) (calls : List Call)
    → sent_numbers (numbering.stretches (numbering_calls (wanted_by params mapped) begins active false calls)) ≡ sent_numbers (map (map seq_of) (map (stretch_of params mapped) (spans active calls)))
numbers-of-stretches params mapped true calls =
    ap (λ (first : List ℕ). sent_numbers (first ∷ later_stretches (numbering_calls (wanted_by params mapped) begins true false calls))) (first-active (wanted_by params mapped) begins false calls)
    ∙ ap (λ (later : List (List ℕ)). sent_numbers (map seq_of (stretch_of params mapped (first_span calls)) ∷ later)) (later-are (wanted_by params mapped) begins true false calls)
numbers-of-stretches params mapped false calls =
    ap (λ (first : List ℕ). sent_numbers (first ∷ later_stretches (numbering_calls (wanted_by params mapped) begins false false calls))) (first-inactive (wanted_by params mapped) begins false calls)
    ∙ ap sent_numbers (later-are (wanted_by params mapped) begins false false calls)

pub whole-list : LowerLaws → (params : Params) (mapped : ℕ) (flags : Flags) (calls : List Call) → ArePackets calls
    → emissions (sending_of params mapped flags) calls ≡ emits params mapped flags calls
whole-list laws params mapped flags calls are =
    let made : List numbering.Call = numbering_calls (wanted_by params mapped) begins (is_active flags) false calls in
    let numbers : answers unnumbered made ≡ sent_numbers (map (map seq_of) (stretches params mapped flags calls)) =
    laws.answered made (are-numbers (wanted_by params mapped) begins laws (is_active flags) false calls are) ∙ numbers-of-stretches params mapped (is_active flags) calls in
    emissions-are params mapped flags false unnumbered calls
    ∙ ap (λ (ns : List ℕ). emitted_under params (taken_offers (wanted_by params mapped) begins (is_active flags) false calls) ns) numbers
    ∙ ap (λ (os : List Offer). emitted_under params os (sent_numbers (map (map seq_of) (stretches params mapped flags calls)))) (offers-of-stretches params mapped (is_active flags) calls)

-- ---- one call more

cons-append : (x : Option (List ℕ)) (xs ys : List (List ℕ)) → cons_option x (xs ++ ys) ≡ cons_option x xs ++ ys
cons-append None xs ys = refl
cons-append (Some x) xs ys = refl

alone : (x : Option (List ℕ)) → cons_option x [] ≡ option_to_list x
alone None = refl
alone (Some x) = refl

emissions-append : (s : Sending) (calls later : List Call) → emissions s (calls ++ later) ≡ emissions s calls ++ emissions (sending_after s calls) later
emissions-append s [] later = refl
emissions-append s (set_flags f ∷ calls) later = emissions-append (behind_flags s f) calls later
emissions-append s (pass o ∷ calls) later =
    ap (cons_option (passed s o)) (emissions-append (behind_packet s o) calls later)
    ∙ cons-append (passed s o) (emissions (behind_packet s o) calls) (emissions (sending_after (behind_packet s o) calls) later)

are-before : (calls later : List Call) → ArePackets (calls ++ later) → ArePackets calls
are-before [] later are = tt
are-before (set_flags f ∷ calls) later are = are-before calls later are
are-before (pass o ∷ calls) later are = (are.0, are.1, are-before calls later are.2)

are-with-flags : (calls : List Call) (f : Flags) → ArePackets calls → ArePackets (calls ++ set_flags f ∷ [])
are-with-flags [] f are = tt
are-with-flags (set_flags g ∷ calls) f are = are-with-flags calls f are
are-with-flags (pass o ∷ calls) f are = (are.0, are.1, are-with-flags calls f are.2)

pub goes-on : LowerLaws → (params : Params) (mapped : ℕ) (flags : Flags) (calls : List Call) (o : Offer) → ArePackets (calls ++ pass o ∷ [])
    → emits params mapped flags (calls ++ pass o ∷ []) ≡ emits params mapped flags calls ++ option_to_list (passed (sending_after (sending_of params mapped flags) calls) o)
goes-on laws params mapped flags calls o are =
    let s : Sending = sending_of params mapped flags in
    let last : Option (List ℕ) = passed (sending_after s calls) o in
    sym (whole-list laws params mapped flags (calls ++ pass o ∷ []) are)
    ∙ emissions-append s calls (pass o ∷ [])
    ∙ ap (λ (xs : List (List ℕ)). xs ++ cons_option last []) (whole-list laws params mapped flags calls (are-before calls (pass o ∷ []) are))
    ∙ ap (λ (xs : List (List ℕ)). emits params mapped flags calls ++ xs) (alone last)

pub flags-add-nothing : LowerLaws → (params : Params) (mapped : ℕ) (flags further : Flags) (calls : List Call) → ArePackets calls
    → emits params mapped flags (calls ++ set_flags further ∷ []) ≡ emits params mapped flags calls
flags-add-nothing laws params mapped flags further calls are =
    sym (whole-list laws params mapped flags (calls ++ set_flags further ∷ []) (are-with-flags calls further are))
    ∙ emissions-append (sending_of params mapped flags) calls (set_flags further ∷ [])
    ∙ append-nil (emissions (sending_of params mapped flags) calls)
    ∙ whole-list laws params mapped flags calls are
