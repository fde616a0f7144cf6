-- What is written for one mapped SSRC.
use Rattle.std.proofs.Common.{◌≡◌, ℕ, ◌<◌, ◌==◌, ◌||◌, Bool, true, false, cond, List, [], ◌∷◌, ◌++◌, length, map, zero, suc, slice_index_or, Option, Some, None, option_map, refl, sym, ap, ◌∙◌, inl, inr, arith}
use Rattle.std.specs.List.{zip, cons_option, list_any, IsDistinct, AllByRecursion}
use Rattle.std.specs.Option.{option_to_list, option_and_then}
use Rattle.std.proofs.lemmas.Bool.{cases_Bool, eqb-true}
use Rattle.std.proofs.lemmas.Bool.Decides.{Decides-eqb}
use Rattle.rtp_extension.specs.declared.mapped.Flags.{Flags}
use Rattle.rtp_extension.specs.Activity.{is_active}
use Rattle.rtp_params.specs.declared.encoding.Encoding.{Encoding}
use Rattle.rtp_params.specs.declared.params.Params.{Params}
use Rattle.simple_consumer.specs.Sending.{Offer, Sending, sending_of, takes, passed, behind_packet, behind_flags}
use Rattle.simple_consumer.specs.Calls.{Call, set_flags, pass, ArePackets, sending_after, emissions}
use Rattle.simple_consumer.specs.Emits.{emits}
use Rattle.pipe_consumer.specs.Streams.{with_encoding, stream_of, streams_of, stream_for, passed_by, behind_offer, behind_setting, streams_after, sent_for, sent, packets_of}
use Rattle.pipe_consumer.specs.Laws.{AreDifferent}
use Rattle.pipe_consumer.specs.Lower.{StreamLaws}

-- ---- one stream and an offer

-- a packet of another SSRC is not taken
not-taken : (s : Sending) (o : Offer) → (o.mapped.ssrc == s.mapped) ≡ false → takes s o.mapped ≡ false
not-taken s o f = elim (cases_Bool (is_active s.flags)) [ inl t ↦ rw (t, f) refl | inr n ↦ rw n refl ]

writes-nothing : (s : Sending) (o : Offer) → (o.mapped.ssrc == s.mapped) ≡ false → passed s o ≡ None
writes-nothing s o f = rw (not-taken s o f) refl

stays-so : (s : Sending) (o : Offer) → (o.mapped.ssrc == s.mapped) ≡ false → behind_packet s o ≡ s
stays-so s o f = rw (not-taken s o f) refl

-- its SSRC is the same behind any call
same-behind-packet : (s : Sending) (o : Offer) → (behind_packet s o).mapped ≡ s.mapped
same-behind-packet s o = elim (cases_Bool (takes s o.mapped)) [ inl t ↦ rw t refl | inr n ↦ rw n refl ]

same-behind-flags : (s : Sending) (f : Flags) → (behind_flags s f).mapped ≡ s.mapped
same-behind-flags s f = elim (cases_Bool (is_active f)) [
  | inl t ↦ elim (cases_Bool (is_active s.flags)) [ inl a ↦ rw (t, a) refl | inr b ↦ rw (t, b) refl ]
  | inr n ↦ rw n refl
]

-- ---- the stream of an SSRC behind a call

-- the first stream of a list, by whether it is of the SSRC
abbrev first_or : Bool → Sending → Option Sending → Option Sending
first_or b s rest = cond b (Some s) rest

found-behind-flags : (ssrc : ℕ) (f : Flags) (ss : List Sending) → stream_for (behind_setting f ss) ssrc ≡ option_map (λ s. behind_flags s f) (stream_for ss ssrc)
found-behind-flags ssrc f [] = refl
found-behind-flags ssrc f (s ∷ ss) =
    ap (λ (m : ℕ). first_or (ssrc == m) (behind_flags s f) (stream_for (behind_setting f ss) ssrc)) (same-behind-flags s f)
    ∙ elim (cases_Bool (ssrc == s.mapped)) [ inl t ↦ rw t refl | inr n ↦ rw n (found-behind-flags ssrc f ss) ]

-- ---- numbers that are the same, or differ

is-same : (a b : ℕ) → (a == b) ≡ true → a ≡ b
is-same a b t = eqb-true a b t

-- of two that are compared with one, the first is it and the second is not
apart : (a b c : ℕ) → (a == b) ≡ true → (c == b) ≡ false → (a == c) ≡ false
apart a b c t f = elim (cases_Bool (a == c)) [
  | inl u ↦ (let no : true ≡ false = sym (ap (λ (n : ℕ). n == b) (sym (is-same a c u)) ∙ t) ∙ f in absurd cc)
  | inr n ↦ n
]

turned : (a b : ℕ) → (a == b) ≡ false → (b == a) ≡ false
turned a b f = elim (cases_Bool (b == a)) [
  | inl u ↦ (let no : true ≡ false = sym ((Decides-eqb a b).1 (sym (is-same b a u))) ∙ f in absurd cc)
  | inr n ↦ n
]

-- ---- one call more

others-stay : (ssrc : ℕ) (o : Offer) (ss : List Sending) → (o.mapped.ssrc == ssrc) ≡ false → option_map (λ s. behind_packet s o) (stream_for ss ssrc) ≡ stream_for ss ssrc
others-stay ssrc o [] f = refl
others-stay ssrc o (s ∷ ss) f = elim (cases_Bool (ssrc == s.mapped)) [
  | inl t ↦ rw t (ap (λ (x : Sending). Some x) (stays-so s o (ap (λ (n : ℕ). o.mapped.ssrc == n) (sym (is-same ssrc s.mapped t)) ∙ f)))
  | inr n ↦ rw n (others-stay ssrc o ss f)
]

-- where the offer's own stream is the first
first-behind-offer : (ssrc : ℕ) (o : Offer) (s : Sending) (ss : List Sending) → (o.mapped.ssrc == s.mapped) ≡ true
    → first_or (ssrc == s.mapped) (behind_packet s o) (stream_for ss ssrc) ≡ option_map (λ x. behind_packet x o) (first_or (ssrc == s.mapped) s (stream_for ss ssrc))
first-behind-offer ssrc o s ss t = elim (cases_Bool (ssrc == s.mapped)) [
  | inl u ↦ rw u refl
  | inr n ↦ rw n (sym (others-stay ssrc o ss (apart o.mapped.ssrc s.mapped ssrc t n)))
]

-- where it is another
later-behind-offer : (ssrc : ℕ) (o : Offer) (s : Sending) (ss : List Sending) → (o.mapped.ssrc == s.mapped) ≡ false
    → stream_for (behind_offer ss o) ssrc ≡ option_map (λ x. behind_packet x o) (stream_for ss ssrc)
    → first_or (ssrc == s.mapped) s (stream_for (behind_offer ss o) ssrc) ≡ option_map (λ x. behind_packet x o) (first_or (ssrc == s.mapped) s (stream_for ss ssrc))
later-behind-offer ssrc o s ss f next = elim (cases_Bool (ssrc == s.mapped)) [
  | inl t ↦ rw t (ap (λ (x : Sending). Some x) (sym (stays-so s o f)))
  | inr n ↦ rw n next
]

found-behind-offer : (ssrc : ℕ) (o : Offer) (ss : List Sending) → stream_for (behind_offer ss o) ssrc ≡ option_map (λ s. behind_packet s o) (stream_for ss ssrc)
found-behind-offer ssrc o [] = refl
found-behind-offer ssrc o (s ∷ ss) = elim (cases_Bool (o.mapped.ssrc == s.mapped)) [
  | inl t ↦
      ap (λ (b : Bool). stream_for (cond b (behind_packet s o ∷ ss) (s ∷ behind_offer ss o)) ssrc) t
      ∙ ap (λ (m : ℕ). first_or (ssrc == m) (behind_packet s o) (stream_for ss ssrc)) (same-behind-packet s o)
      ∙ first-behind-offer ssrc o s ss t
  | inr f ↦
      ap (λ (b : Bool). stream_for (cond b (behind_packet s o ∷ ss) (s ∷ behind_offer ss o)) ssrc) f
      ∙ later-behind-offer ssrc o s ss f (found-behind-offer ssrc o ss)
]

-- ---- along a list of calls

found-mapped : (ssrc : ℕ) (ss : List Sending) (s : Sending) → stream_for ss ssrc ≡ Some s → ssrc ≡ s.mapped
found-mapped ssrc [] s h = absurd cc
found-mapped ssrc (x ∷ xs) s h = elim (cases_Bool (ssrc == x.mapped)) [
  | inl t ↦ (let is : Some x ≡ Some s = rw t at h in let same : x ≡ s = cc in is-same ssrc x.mapped t ∙ ap (λ (y : Sending). y.mapped) same)
  | inr f ↦ found-mapped ssrc xs s (rw f at h)
]

behind-flags-found : (ssrc : ℕ) (f : Flags) (ss : List Sending) (s : Sending) → stream_for ss ssrc ≡ Some s → stream_for (behind_setting f ss) ssrc ≡ Some (behind_flags s f)
behind-flags-found ssrc f ss s h = found-behind-flags ssrc f ss ∙ ap (option_map (λ x. behind_flags x f)) h

behind-offer-found : (ssrc : ℕ) (o : Offer) (ss : List Sending) (s : Sending) → stream_for ss ssrc ≡ Some s → stream_for (behind_offer ss o) ssrc ≡ Some (behind_packet s o)
behind-offer-found ssrc o ss s h = found-behind-offer ssrc o ss ∙ ap (option_map (λ x. behind_packet x o)) h

behind-flags-none : (ssrc : ℕ) (f : Flags) (ss : List Sending) → stream_for ss ssrc ≡ None → stream_for (behind_setting f ss) ssrc ≡ None
behind-flags-none ssrc f ss h = found-behind-flags ssrc f ss ∙ ap (option_map (λ x. behind_flags x f)) h

behind-offer-none : (ssrc : ℕ) (o : Offer) (ss : List Sending) → stream_for ss ssrc ≡ None → stream_for (behind_offer ss o) ssrc ≡ None
behind-offer-none ssrc o ss h = found-behind-offer ssrc o ss ∙ ap (option_map (λ x. behind_packet x o)) h

pub found-after : (ssrc : ℕ) (ss : List Sending) (s : Sending) (calls : List Call) → stream_for ss ssrc ≡ Some s → stream_for (streams_after ss calls) ssrc ≡ Some (sending_after s calls)
found-after ssrc ss s [] h = h
found-after ssrc ss s (set_flags f ∷ calls) h = found-after ssrc (behind_setting f ss) (behind_flags s f) calls (behind-flags-found ssrc f ss s h)
found-after ssrc ss s (pass o ∷ calls) h = found-after ssrc (behind_offer ss o) (behind_packet s o) calls (behind-offer-found ssrc o ss s h)

pub none-after : (ssrc : ℕ) (ss : List Sending) (calls : List Call) → stream_for ss ssrc ≡ None → stream_for (streams_after ss calls) ssrc ≡ None
none-after ssrc ss [] h = h
none-after ssrc ss (set_flags f ∷ calls) h = none-after ssrc (behind_setting f ss) calls (behind-flags-none ssrc f ss h)
none-after ssrc ss (pass o ∷ calls) h = none-after ssrc (behind_offer ss o) calls (behind-offer-none ssrc o ss h)

-- what is written for the SSRC, and for another
own-packet : (ssrc to : ℕ) (x : Option (List ℕ)) (rest : List (ℕ × List ℕ)) → (to == ssrc) ≡ true → packets_of ssrc (cons_option (option_map (sent_for to) x) rest) ≡ cons_option x (packets_of ssrc rest)
own-packet ssrc to None rest t = refl
own-packet ssrc to (Some p) rest t = rw t refl

other-packet : (ssrc to : ℕ) (x : Option (List ℕ)) (rest : List (ℕ × List ℕ)) → (to == ssrc) ≡ false → packets_of ssrc (cons_option (option_map (sent_for to) x) rest) ≡ packets_of ssrc rest
other-packet ssrc to None rest f = refl
other-packet ssrc to (Some p) rest f = rw f refl

-- an offer is written by the stream of its SSRC
passed-by : (ssrc : ℕ) (ss : List Sending) (o : Offer) (x : Option Sending) → o.mapped.ssrc ≡ ssrc → stream_for ss ssrc ≡ x → passed_by ss o ≡ option_and_then (λ s. passed s o) x
passed-by ssrc ss o x is h = ap (λ (n : ℕ). option_and_then (λ s. passed s o) (stream_for ss n)) is ∙ ap (option_and_then (λ s. passed s o)) h

-- with more packets behind it
abbrev before : List (List ℕ) → Option (List ℕ) → List (List ℕ)
before rest x = cons_option x rest

own-emissions : (ssrc : ℕ) (ss : List Sending) (s : Sending) (calls : List Call) → stream_for ss ssrc ≡ Some s → packets_of ssrc (sent ss calls) ≡ emissions s calls
own-emissions ssrc ss s [] h = refl
own-emissions ssrc ss s (set_flags f ∷ calls) h = own-emissions ssrc (behind_setting f ss) (behind_flags s f) calls (behind-flags-found ssrc f ss s h)
own-emissions ssrc ss s (pass o ∷ calls) h =
    let next : packets_of ssrc (sent (behind_offer ss o) calls) ≡ emissions (behind_packet s o) calls =
    own-emissions ssrc (behind_offer ss o) (behind_packet s o) calls (behind-offer-found ssrc o ss s h) in
    elim (cases_Bool (o.mapped.ssrc == ssrc)) [
      | inl t ↦
          own-packet ssrc o.mapped.ssrc (passed_by ss o) (sent (behind_offer ss o) calls) t
          ∙ ap (before (packets_of ssrc (sent (behind_offer ss o) calls))) (passed-by ssrc ss o (Some s) (is-same o.mapped.ssrc ssrc t) h)
          ∙ ap (cons_option (passed s o)) next
      | inr f ↦
          other-packet ssrc o.mapped.ssrc (passed_by ss o) (sent (behind_offer ss o) calls) f
          ∙ next
          ∙ sym (ap (before (emissions (behind_packet s o) calls)) (writes-nothing s o (ap (λ (n : ℕ). o.mapped.ssrc == n) (sym (found-mapped ssrc ss s h)) ∙ f)))
    ]

no-emissions : (ssrc : ℕ) (ss : List Sending) (calls : List Call) → stream_for ss ssrc ≡ None → packets_of ssrc (sent ss calls) ≡ []
no-emissions ssrc ss [] h = refl
no-emissions ssrc ss (set_flags f ∷ calls) h = no-emissions ssrc (behind_setting f ss) calls (behind-flags-none ssrc f ss h)
no-emissions ssrc ss (pass o ∷ calls) h =
    let next : packets_of ssrc (sent (behind_offer ss o) calls) ≡ [] = no-emissions ssrc (behind_offer ss o) calls (behind-offer-none ssrc o ss h) in
    elim (cases_Bool (o.mapped.ssrc == ssrc)) [
      | inl t ↦
          own-packet ssrc o.mapped.ssrc (passed_by ss o) (sent (behind_offer ss o) calls) t
          ∙ ap (before (packets_of ssrc (sent (behind_offer ss o) calls))) (passed-by ssrc ss o None (is-same o.mapped.ssrc ssrc t) h)
          ∙ next
      | inr f ↦ other-packet ssrc o.mapped.ssrc (passed_by ss o) (sent (behind_offer ss o) calls) f ∙ next
    ]

-- ---- before the first call

none-is : (m : ℕ) (ms : List ℕ) (place : ℕ) → AllByRecursion (λ (y : ℕ). (m == y) ≡ false) ms → place < length ms → (m == slice_index_or ms place 0) ≡ false
none-is m [] place all h = absurd (omega arith)
none-is m (x ∷ xs) zero all h = all.0
none-is m (x ∷ xs) (suc place) all h = none-is m xs place all.1 (omega arith)

found-first : (params : Params) (flags : Flags) (ssrcs : List ℕ) (es : List Encoding) (place : ℕ) (e : Encoding) → AreDifferent ssrcs → place < length ssrcs → place < length es
    → stream_for (map (stream_of params flags) (zip ssrcs es)) (slice_index_or ssrcs place 0)
    ≡ Some (sending_of (with_encoding params (slice_index_or es place e)) (slice_index_or ssrcs place 0) flags)
unfolding IsDistinct
found-first params flags [] es place e apart-all h g = absurd (omega arith)
found-first params flags (m ∷ ms) [] place e apart-all h g = absurd (omega arith)
found-first params flags (m ∷ ms) (x ∷ xs) zero e apart-all h g = rw ((Decides-eqb m m).1 refl) refl
found-first params flags (m ∷ ms) (x ∷ xs) (suc place) e apart-all h g =
    rw (turned m (slice_index_or ms place 0) (none-is m ms place apart-all.0 (omega arith))) (found-first params flags ms xs place e apart-all.1 (omega arith) (omega arith))

or-false : (a b : Bool) → (a || b) ≡ false → (a ≡ false) × (b ≡ false)
or-false true b h = absurd cc
or-false false b h = (refl, h)

none-first : (params : Params) (flags : Flags) (ssrcs : List ℕ) (es : List Encoding) (ssrc : ℕ) → list_any (λ own. ssrc == own) ssrcs ≡ false
    → stream_for (map (stream_of params flags) (zip ssrcs es)) ssrc ≡ None
none-first params flags [] es ssrc h = refl
none-first params flags (m ∷ ms) [] ssrc h = refl
none-first params flags (m ∷ ms) (x ∷ xs) ssrc h =
    let no : ((ssrc == m) ≡ false) × (list_any (λ own. ssrc == own) ms ≡ false) = or-false (ssrc == m) (list_any (λ own. ssrc == own) ms) h in
    rw no.0 (none-first params flags ms xs ssrc no.1)

-- ---- the laws

pub streams-emit : StreamLaws → (params : Params) (ssrcs : List ℕ) (flags : Flags) (calls : List Call) → AreDifferent ssrcs → ArePackets calls
    → (place : ℕ) (e : Encoding) → place < length ssrcs → place < length params.encodings
    → packets_of (slice_index_or ssrcs place 0) (sent (streams_of params ssrcs flags) calls)
    ≡ emits (with_encoding params (slice_index_or params.encodings place e)) (slice_index_or ssrcs place 0) flags calls
streams-emit laws params ssrcs flags calls different are place e h g =
    let own : Params = with_encoding params (slice_index_or params.encodings place e) in
    let ssrc : ℕ = slice_index_or ssrcs place 0 in
    own-emissions ssrc (streams_of params ssrcs flags) (sending_of own ssrc flags) calls (found-first params flags ssrcs params.encodings place e different h g)
    ∙ laws.whole own ssrc flags calls are

pub others-emit-nothing : (params : Params) (ssrcs : List ℕ) (flags : Flags) (calls : List Call) (ssrc : ℕ) → list_any (λ own. ssrc == own) ssrcs ≡ false
    → packets_of ssrc (sent (streams_of params ssrcs flags) calls) ≡ []
others-emit-nothing params ssrcs flags calls ssrc h = no-emissions ssrc (streams_of params ssrcs flags) calls (none-first params flags ssrcs params.encodings ssrc h)

pub pass-goes-on : StreamLaws → (params : Params) (ssrcs : List ℕ) (flags : Flags) (calls : List Call) (o : Offer) → AreDifferent ssrcs → ArePackets (calls ++ pass o ∷ [])
    → (place : ℕ) (e : Encoding) → place < length ssrcs → place < length params.encodings → o.mapped.ssrc ≡ slice_index_or ssrcs place 0
    → emits (with_encoding params (slice_index_or params.encodings place e)) (slice_index_or ssrcs place 0) flags (calls ++ pass o ∷ [])
    ≡ emits (with_encoding params (slice_index_or params.encodings place e)) (slice_index_or ssrcs place 0) flags calls
    ++ option_to_list (passed_by (streams_after (streams_of params ssrcs flags) calls) o)
pass-goes-on laws params ssrcs flags calls o different are place e h g is =
    let own : Params = with_encoding params (slice_index_or params.encodings place e) in
    let ssrc : ℕ = slice_index_or ssrcs place 0 in
    let ss : List Sending = streams_of params ssrcs flags in
    let s : Sending = sending_of own ssrc flags in
    let found : stream_for (streams_after ss calls) ssrc ≡ Some (sending_after s calls) =
    found-after ssrc ss s calls (found-first params flags ssrcs params.encodings place e different h g) in
    laws.going own ssrc flags calls o are
    ∙ ap (λ (x : Option (List ℕ)). emits own ssrc flags calls ++ option_to_list x) (sym (passed-by ssrc (streams_after ss calls) o (Some (sending_after s calls)) is found))

pub others-passed-over : (params : Params) (ssrcs : List ℕ) (flags : Flags) (calls : List Call) (o : Offer) → list_any (λ own. o.mapped.ssrc == own) ssrcs ≡ false
    → passed_by (streams_after (streams_of params ssrcs flags) calls) o ≡ None
others-passed-over params ssrcs flags calls o h =
    let ss : List Sending = streams_of params ssrcs flags in
    passed-by o.mapped.ssrc (streams_after ss calls) o None refl (none-after o.mapped.ssrc ss calls (none-first params flags ssrcs params.encodings o.mapped.ssrc h))
