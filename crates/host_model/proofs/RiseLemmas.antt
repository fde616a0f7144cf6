-- What is drawn next never falls; so each SSRC is drawn in one micro step.
use Rattle.std.proofs.Common.{◌≡◌, ◌≤◌, ◌*◌, ℕ, ◌+◌, List, [], ◌∷◌, length, Bool, false, Option, Some, None, refl, sym, subst, arith, count_by}
use Rattle.std.proofs.lemmas.Bool.Decides.{nat_tests}
use Rattle.std.proofs.lemmas.List.{length-map, length_push}
use Rattle.ms_base.specs.declared.entry.Entry.{Entry}
use Rattle.ms_base.specs.declared.outcome.Outcome.{Outcome}
use Rattle.object_tree.specs.declared.object.Object.{Object}
use Rattle.object_tree.specs.Falls.{falls}
use Rattle.pending_calls.specs.declared.waiting.Owner.{Owner}
use Rattle.pending_calls.specs.declared.waiting.Owner.TheVariants as owner
use Rattle.request_build.specs.declared.built.Draws.{Draws}
use Rattle.request_build.specs.Laws.{DrawsFor}
use Rattle.host_requests.specs.declared.request.Request.{Request}
use Rattle.host_requests.specs.Requests.{is_under}
use Rattle.host_model.specs.declared.due.Due.{Due}
use Rattle.host_model.specs.declared.due.Due.TheVariants as due
use Rattle.host_model.specs.State.{State, as_serial, first_ssrc, issued, settled_if, settled_where, start, with_request}
use Rattle.host_model.specs.Answer.{known}
use Rattle.host_model.specs.Changes.{new_request, owner_settled}
use Rattle.host_model.specs.Drawn.{draws_ssrc, is_between}
use Rattle.host_model.specs.Fit.{BuildsFit, IsFit, one_if}
use Rattle.host_model.specs.Run.{Journal, after, after_all, micros, moment, moments, state_of, trace, trace_from}
use Rattle.host_model.specs.Step.{Micro, due_by, start_request, step, steps}
use Rattle.host_model.proofs.Changes.{Change, Going, at_rest, has_key, once-entered, step-is, still, both, notes, slots, streams, settles_call, awaits, asks_by, wants, asks_to_close, takes, takes_none, opens, settles_taken, marks, falls_with, settles_awaits}
use Rattle.host_model.proofs.Counts.{count-append, count-cons}
use Rattle.host_model.proofs.FitLemmas.{FitsOn, fits-change, fits-entered, fits-start, fits-step}

-- ---- what is drawn next

-- from one moment to another, with so many requests issued by then
record Rises (next : Draws) (requests : ℕ) (after : Draws) (requests' : ℕ) : Type 0 where
  serials : next.serial ≤ after.serial
  ssrcs : next.ssrc ≤ after.ssrc
  few : after.ssrc + 16 * requests ≤ next.ssrc + 16 * requests'

rises-none : (next : Draws) (requests requests' : ℕ) → requests ≤ requests' → Rises next requests next requests'
rises-none next requests requests' more = record { serials = omega arith; ssrcs = omega arith; few = omega (arith, more) }

rises-asked : (makes : Option Object) (next after : Draws) (requests requests' : ℕ) → requests' ≡ requests + 1 → DrawsFor makes next after → Rises next requests after requests'
rises-asked None next after requests requests' more drawn =
    subst (λ d. Rises next requests d requests') (sym drawn) (rises-none next requests requests' (omega (arith, more)))
rises-asked (Some o) next after requests requests' more drawn =
    record { serials = omega (arith, drawn.serial); ssrcs = drawn.rising; few = omega (arith, drawn.few, more) }

abbrev RisesTo : State → State → Type 0
RisesTo s t = Rises s.next (length s.requests) t.next (length t.requests)

rises-then : (s t u : State) → RisesTo s t → RisesTo t u → RisesTo s u
rises-then s t u x y = record { serials = omega (arith, x.serials, y.serials); ssrcs = omega (arith, x.ssrcs, y.ssrcs); few = omega (arith, x.few, y.few) }

rises-still : (s : State) → RisesTo s s
rises-still s = rises-none s.next (length s.requests) (length s.requests) (omega arith)

rises-settled : (s : State) (test : Request Due → Bool) → Rises s.next (length s.requests) s.next (length (settled_where test s.requests))
rises-settled s test =
    rises-none s.next (length s.requests) (length (settled_where test s.requests)) (omega (arith, length-map s.requests (settled_if test)))

rises-owner : (s : State) (o : Owner) (outcome : Outcome) (names : List (List ℕ)) → RisesTo s (owner_settled o outcome names s)
rises-owner s (owner.Call call) outcome names = rises-still s
rises-owner s (owner.Job call part) outcome names = rises-still s
rises-owner s owner.Close outcome names = rises-still s
rises-owner s owner.Follow outcome names = rises-still s

rises-change : BuildsFit → {g h : Going} → Change g h → FitsOn g → RisesTo g.state h.state
rises-change b (still {g}) f = rises-still g.state
rises-change b (both {g} {h} {i} x y) f = rises-then g.state h.state i.state (rises-change b x f) (rises-change b y (fits-change b x f))
rises-change b (notes {calls} {taken} {s} ns plain) f = rises-still s
rises-change b (slots {s} worker) f = rises-still s
rises-change b (streams {calls} {taken} {s} xs) f = rises-still s
rises-change b (settles_call {calls} {taken} {s} call outcome names) f = rises-still s
rises-change b (awaits {calls} {taken} {s} a) f = rises-still s
rises-change b (asks_by {calls} {taken} {s} call op r channel payload is) f =
    let q : Request Due = new_request channel (issued s.requests channel + 1) (owner.Call call) r.under (due_by op r) in
    rises-asked r.makes s.next r.next (length s.requests) (length (with_request q s.requests)) (length_push s.requests (record { request = q; settled = false })) (b.draws (known s) op r f.few is.built_is)
rises-change b (wants {calls} {taken} {s} call name budget) f =
    let q : Request Due = start_request call (as_serial s.next.serial) in
    record { serials = omega arith; ssrcs = omega arith; few = omega (arith, length_push s.requests (record { request = q; settled = false })) }
rises-change b (asks_to_close {calls} {taken} {s} channel parent asked left) f =
    let q : Request Due = new_request channel (issued s.requests channel + 1) owner.Close parent due.Nothing in
    rises-none s.next (length s.requests) (length (with_request q s.requests)) (omega (arith, length_push s.requests (record { request = q; settled = false })))
rises-change b (takes {calls} {taken} {s} key r e) f = rises-settled s (has_key key)
rises-change b (takes_none {calls} {taken} {s} key e) f = rises-settled s (has_key key)
rises-change b (opens {calls} {taken} {s} r object keeps o is same closed) f = rises-still s
rises-change b (settles_taken {calls} {taken} {s} r outcome names) f = rises-owner s r.owner outcome names
rises-change b (marks {calls} {taken} {s} serial m keeps) f = rises-still s
rises-change b (falls_with {calls} {s} roots why) f = rises-settled s (is_under (falls s.objects roots))
rises-change b (settles_awaits {calls} {taken} {s}) f = rises-still s

rises-step : BuildsFit → (s : State) (m : Micro) → FitsOn (at_rest s) → RisesTo s (step s m)
rises-step b s m f =
    let st = step-is s m in
    rises-then s st.start.state (step s m)
    (once-entered (λ (g : Going). RisesTo s g.state) s (λ lane. rises-still s) (λ worker. rises-still s) (rises-still s) m st.start st.entered)
    (rises-change b st.change (fits-entered s m st.start st.entered f))

pub serials-rise : BuildsFit → (s : State) (m : Micro) → IsFit s → s.next.serial ≤ (step s m).next.serial
serials-rise b s m h = (rises-step b s m h.whole).serials

pub ssrcs-rise : BuildsFit → (s : State) (m : Micro) → IsFit s → s.next.ssrc ≤ (step s m).next.ssrc
ssrcs-rise b s m h = (rises-step b s m h.whole).ssrcs

pub ssrcs-few : BuildsFit → (s : State) (m : Micro) → IsFit s → (step s m).next.ssrc + 16 * length s.requests ≤ s.next.ssrc + 16 * length (step s m).requests
ssrcs-few b s m h = (rises-step b s m h.whole).few

-- ---- each SSRC

between-none : (a n : ℕ) → one_if (is_between a a n) ≡ 0
between-none a n = grind (arith, nat_tests)

pub between-then : (a b c n : ℕ) → a ≤ b → b ≤ c → one_if (is_between a b n) + one_if (is_between b c n) ≡ one_if (is_between a c n)
between-then a b c n h k = grind (arith, nat_tests)

-- from one state to another it was drawn so often
record Drew (n : ℕ) (s t : State) (times : ℕ) : Type 0 where
  fits : FitsOn (at_rest t)
  rising : s.next.ssrc ≤ t.next.ssrc
  once : times ≡ one_if (is_between s.next.ssrc t.next.ssrc n)

drew-then : (n : ℕ) (s t u : State) (a b : ℕ) → Drew n s t a → Drew n t u b → Drew n s u (a + b)
drew-then n s t u a b x y =
    record {
      fits = y.fits;
      rising = omega (arith, x.rising, y.rising);
      once = omega (arith, x.once, y.once, between-then s.next.ssrc t.next.ssrc u.next.ssrc n x.rising y.rising);
    }

drew-none : (n : ℕ) (s : State) → FitsOn (at_rest s) → Drew n s s 0
drew-none n s f = record { fits = f; rising = omega arith; once = sym (between-none s.next.ssrc n) }

module _ (b : BuildsFit) (n : ℕ) where
  moments-drew : (s : State) (ms : List Micro) → FitsOn (at_rest s) → Drew n s (steps s ms) (count_by (draws_ssrc n) (moments s ms))
  moments-drew s [] f = drew-none n s f
  moments-drew s (m ∷ ms) f =
      let here : Drew n s (step s m) (one_if (draws_ssrc n (moment s m))) =
      record { fits = fits-step b s m f; rising = (rises-step b s m f).ssrcs; once = refl } in
      subst (Drew n s (steps (step s m) ms)) (sym (count-cons (draws_ssrc n) (moment s m) (moments (step s m) ms)))
      (drew-then n s (step s m) (steps (step s m) ms) (one_if (draws_ssrc n (moment s m))) (count_by (draws_ssrc n) (moments (step s m) ms)) here
      (moments-drew (step s m) ms here.fits))

  trace-drew : (s : State) (es : List Entry) → FitsOn (at_rest s) → Drew n s (after_all s es) (count_by (draws_ssrc n) (trace_from s es))
  trace-drew s [] f = drew-none n s f
  trace-drew s (e ∷ es) f =
      let here = moments-drew s (micros s e) f in
      subst (Drew n s (after_all (after s e) es)) (sym (count-append (draws_ssrc n) (moments s (micros s e)) (trace_from (after s e) es)))
      (drew-then n s (after s e) (after_all (after s e) es) (count_by (draws_ssrc n) (moments s (micros s e))) (count_by (draws_ssrc n) (trace_from (after s e) es)) here
      (trace-drew (after s e) es here.fits))

pub ssrcs-once : BuildsFit → (j : Journal) (n : ℕ) → count_by (draws_ssrc n) (trace j) ≡ one_if (is_between first_ssrc (state_of j).next.ssrc n)
ssrcs-once b j n = (trace-drew b n (start j.seed) j.entries (fits-start j.seed)).once
