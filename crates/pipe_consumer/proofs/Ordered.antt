-- What is written call by call is what the whole list of calls emits.
use Rattle.std.proofs.Common.{◌≡◌, ℕ, ◌==◌, Bool, cond, List, [], ◌∷◌, ◌++◌, length, map, drop, Option, Some, None, option_map, refl, sym, ap, subst, ◌∙◌, inl, inr}
use Rattle.std.specs.List.{zip, cons_option}
use Rattle.std.specs.Option.{option_to_list, option_and_then}
use Rattle.std.proofs.Math.Seq.{drop-append_seam}
use Rattle.std.proofs.lemmas.Bool.{cases_Bool}
use Rattle.std.proofs.lemmas.List.{append_assoc}
use Rattle.rtp_extension.specs.declared.mapped.Flags.{Flags}
use Rattle.rtp_params.specs.declared.encoding.Encoding.{Encoding}
use Rattle.rtp_params.specs.declared.params.Params.{Params}
use Rattle.simple_consumer.specs.Sending.{Offer, Sending, sending_of, passed}
use Rattle.simple_consumer.specs.Calls.{Call, set_flags, pass, ArePackets, sending_after}
use Rattle.simple_consumer.specs.Emits.{emits}
use Rattle.pipe_consumer.specs.Streams.{with_encoding, stream_of, streams_of, stream_for, passed_by, behind_offer, behind_setting, streams_after, sent_for, sent}
use Rattle.pipe_consumer.specs.Emits.{emitted_by_pass, emitted_at, emitted_behind, pipe_emits}
use Rattle.pipe_consumer.specs.Lower.{StreamLaws}
use Rattle.pipe_consumer.proofs.Sents.{found-after, none-after}

-- ---- packets

are-front : (calls later : List Call) → ArePackets (calls ++ later) → ArePackets calls
are-front [] later are = tt
are-front (set_flags f ∷ calls) later are = are-front calls later are
are-front (pass o ∷ calls) later are = (are.0, are.1, are-front calls later are.2)

-- ---- the streams behind calls

after-flags : (ss : List Sending) (calls : List Call) (f : Flags) → streams_after ss (calls ++ set_flags f ∷ []) ≡ behind_setting f (streams_after ss calls)
after-flags ss [] f = refl
after-flags ss (set_flags g ∷ calls) f = after-flags (behind_setting g ss) calls f
after-flags ss (pass o ∷ calls) f = after-flags (behind_offer ss o) calls f

after-pass : (ss : List Sending) (calls : List Call) (o : Offer) → streams_after ss (calls ++ pass o ∷ []) ≡ behind_offer (streams_after ss calls) o
after-pass ss [] o = refl
after-pass ss (set_flags g ∷ calls) o = after-pass (behind_setting g ss) calls o
after-pass ss (pass p ∷ calls) o = after-pass (behind_offer ss p) calls o

go-on : (ssrc : ℕ) (ss : List Sending) (calls : List Call) (x : Option Sending) → stream_for ss ssrc ≡ x → stream_for (streams_after ss calls) ssrc ≡ option_map (λ s. sending_after s calls) x
go-on ssrc ss calls None h = none-after ssrc ss calls h
go-on ssrc ss calls (Some s) h = found-after ssrc ss s calls h

-- ---- one `pass`

mapped-option : (ssrc : ℕ) (x : Option (List ℕ)) → option_to_list (option_map (sent_for ssrc) x) ≡ map (sent_for ssrc) (option_to_list x)
mapped-option ssrc None = refl
mapped-option ssrc (Some p) = refl

by-pass : StreamLaws → (params : Params) (ssrc : ℕ) (flags : Flags) (calls : List Call) (o : Offer) → ArePackets (calls ++ pass o ∷ [])
    → emitted_by_pass params ssrc flags calls o ≡ option_to_list (passed (sending_after (sending_of params ssrc flags) calls) o)
by-pass laws params ssrc flags calls o are =
    ap (λ (xs : List (List ℕ)). drop (length (emits params ssrc flags calls)) xs) (laws.going params ssrc flags calls o are)
    ∙ drop-append_seam (emits params ssrc flags calls) (option_to_list (passed (sending_after (sending_of params ssrc flags) calls) o))

-- what the stream that was found at first writes behind these calls
abbrev written : Offer → List Call → Option Sending → List (ℕ × List ℕ)
written o calls x = option_to_list (option_map (sent_for o.mapped.ssrc) (option_and_then (λ s. passed s o) (option_map (λ s. sending_after s calls) x)))

written-at : StreamLaws → (params : Params) (flags : Flags) (calls : List Call) (o : Offer) (places : List (ℕ × Encoding)) → ArePackets (calls ++ pass o ∷ [])
    → written o calls (stream_for (map (stream_of params flags) places) o.mapped.ssrc) ≡ emitted_at params flags calls o places
written-at laws params flags calls o [] are = refl
written-at laws params flags calls o (at ∷ later) are =
    let own : Params = with_encoding params at.1 in
    elim (cases_Bool (o.mapped.ssrc == at.0)) [
      | inl t ↦
          ap (λ (b : Bool). written o calls (cond b (Some (sending_of own at.0 flags)) (stream_for (map (stream_of params flags) later) o.mapped.ssrc))) t
          ∙ mapped-option o.mapped.ssrc (passed (sending_after (sending_of own at.0 flags) calls) o)
          ∙ ap (map (sent_for o.mapped.ssrc)) (sym (by-pass laws own at.0 flags calls o are))
          ∙ sym (ap (λ (b : Bool). cond b (map (sent_for o.mapped.ssrc) (emitted_by_pass own at.0 flags calls o)) (emitted_at params flags calls o later)) t)
      | inr f ↦
          ap (λ (b : Bool). written o calls (cond b (Some (sending_of own at.0 flags)) (stream_for (map (stream_of params flags) later) o.mapped.ssrc))) f
          ∙ written-at laws params flags calls o later are
          ∙ sym (ap (λ (b : Bool). cond b (map (sent_for o.mapped.ssrc) (emitted_by_pass own at.0 flags calls o)) (emitted_at params flags calls o later)) f)
    ]

passed-at : StreamLaws → (params : Params) (flags : Flags) (calls : List Call) (o : Offer) (places : List (ℕ × Encoding)) → ArePackets (calls ++ pass o ∷ [])
    → option_to_list (option_map (sent_for o.mapped.ssrc) (passed_by (streams_after (map (stream_of params flags) places) calls) o)) ≡ emitted_at params flags calls o places
passed-at laws params flags calls o places are =
    ap (λ (x : Option Sending). option_to_list (option_map (sent_for o.mapped.ssrc) (option_and_then (λ s. passed s o) x)))
    (go-on o.mapped.ssrc (map (stream_of params flags) places) calls (stream_for (map (stream_of params flags) places) o.mapped.ssrc) refl)
    ∙ written-at laws params flags calls o places are

-- ---- all calls

as-list : (x : Option (ℕ × List ℕ)) (rest : List (ℕ × List ℕ)) → cons_option x rest ≡ option_to_list x ++ rest
as-list None rest = refl
as-list (Some p) rest = refl

behind : StreamLaws → (params : Params) (flags : Flags) (places : List (ℕ × Encoding)) (before calls : List Call) → ArePackets (before ++ calls)
    → sent (streams_after (map (stream_of params flags) places) before) calls ≡ emitted_behind params places flags before calls
behind laws params flags places before [] are = refl
behind laws params flags places before (set_flags f ∷ calls) are =
    let first : List Sending = map (stream_of params flags) places in
    ap (λ (ss : List Sending). sent ss calls) (sym (after-flags first before f))
    ∙ behind laws params flags places (before ++ set_flags f ∷ []) calls (subst ArePackets (sym (append_assoc before (set_flags f ∷ []) calls)) are)
behind laws params flags places before (pass o ∷ calls) are =
    let first : List Sending = map (stream_of params flags) places in
    let further : ArePackets (before ++ pass o ∷ [] ++ calls) = subst ArePackets (sym (append_assoc before (pass o ∷ []) calls)) are in
    let now : Option (ℕ × List ℕ) = option_map (sent_for o.mapped.ssrc) (passed_by (streams_after first before) o) in
    as-list now (sent (behind_offer (streams_after first before) o) calls)
    ∙ ap (λ (xs : List (ℕ × List ℕ)). xs ++ sent (behind_offer (streams_after first before) o) calls) (passed-at laws params flags before o places (are-front (before ++ pass o ∷ []) calls further))
    ∙ ap (λ (ss : List Sending). emitted_at params flags before o places ++ sent ss calls) (sym (after-pass first before o))
    ∙ ap (λ (xs : List (ℕ × List ℕ)). emitted_at params flags before o places ++ xs) (behind laws params flags places (before ++ pass o ∷ []) calls further)

pub whole-list : StreamLaws → (params : Params) (ssrcs : List ℕ) (flags : Flags) (calls : List Call) → ArePackets calls
    → sent (streams_of params ssrcs flags) calls ≡ pipe_emits params ssrcs flags calls
whole-list laws params ssrcs flags calls are = behind laws params flags (zip ssrcs params.encodings) [] calls are
