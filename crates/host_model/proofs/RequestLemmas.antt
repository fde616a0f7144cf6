-- Requests stay as they were issued and settled ones stay settled: through each small change. So each settles once.
use Rattle.std.proofs.Common.{◌≡◌, ◌≤◌, ℕ, zero, suc, ◌+◌, List, [], ◌∷◌, length, Bool, true, false, not, ◌&&◌, ◌||◌, ◌==◌, cond, nat_lt, refl, sym, ap, ◌∙◌, subst, arith, count_by, zero-add}
use Rattle.std.specs.List.{list_any}
use Rattle.std.proofs.lemmas.Bool.{true≢false}
use Rattle.std.proofs.lemmas.Bool.Decides.{nat_tests}
use Rattle.ms_base.specs.declared.entry.Entry.{Entry}
use Rattle.ms_base.specs.declared.keys.Serial.{Serial}
use Rattle.ms_base.specs.declared.keys.WorkerKey.{WorkerKey}
use Rattle.ms_base.specs.declared.outcome.Outcome.{Outcome}
use Rattle.object_tree.specs.Falls.{falls}
use Rattle.pending_calls.specs.declared.waiting.Owner.{Owner}
use Rattle.pending_calls.specs.declared.waiting.Owner.TheVariants as owner
use Rattle.host_requests.specs.declared.request.Request.{Request}
use Rattle.host_requests.specs.Requests.{is_on, is_start_of, is_under}
use Rattle.host_model.specs.declared.due.Due.{Due}
use Rattle.host_model.specs.declared.due.Due.TheVariants as due
use Rattle.host_model.specs.State.{State, Issued, as_serial, is_by, issued, settled_where, start, waiting, with_request}
use Rattle.host_model.specs.Changes.{new_request, owner_settled}
use Rattle.host_model.specs.Drawn.{is_between}
use Rattle.host_model.specs.Fit.{BuildsFit, one_if}
use Rattle.host_model.specs.Laws.{AreNumbered, EachStartsOnce, numbers_from}
use Rattle.host_model.specs.Run.{Journal, after, after_all, micros, moment, moments, state_of, trace_from}
use Rattle.host_model.specs.Settled.{IsStill, SettledOrWaits, Stay, has_settled, settles_request, times_issued, times_settling, waits}
use Rattle.host_model.specs.Sound.{IsSound}
use Rattle.host_model.specs.Step.{Micro, due_by, start_request, step, steps}
use Rattle.host_model.proofs.Along.{along, along_steps}
use Rattle.host_model.proofs.Changes.{Change, Going, at_rest, has_key, once-entered, step-is, still, both, notes, slots, streams, settles_call, awaits, asks_by, wants, asks_to_close, takes, takes_none, opens, settles_taken, marks, falls_with, settles_awaits}
use Rattle.host_model.proofs.Counts.{count-append, count-cons}
use Rattle.host_model.proofs.FitLemmas.{FitsOn, fits-start, fits-step}
use Rattle.host_model.proofs.InARow.{count-picked, length-picked, picked}
use Rattle.host_model.proofs.NumberLemmas.{numbered, numbered-step}
use Rattle.host_model.proofs.SettleLemmas.{StartsOn, answers-same, count-same, goes_to, number_of, one-at_most, starts-start, starts-step}
use Rattle.host_model.proofs.SoundLemmas.{sound-step}

-- ---- lists that stay

still-itself : (r : Issued) → IsStill r r
still-itself r = record { request = refl; settled = λ e. e }

stay-itself : (rs : List Issued) → Stay rs rs
stay-itself [] = tt
stay-itself (r ∷ rs) = (still-itself r, stay-itself rs)

stay-then : (rs qs ps : List Issued) → Stay rs qs → Stay qs ps → Stay rs ps
stay-then [] qs ps h k = tt
stay-then (r ∷ rs) [] ps h k = absurd h
stay-then (r ∷ rs) (q ∷ qs) [] h k = absurd k
stay-then (r ∷ rs) (q ∷ qs) (p ∷ ps) h k = (
  record { request = k.0.request ∙ h.0.request; settled = λ e. k.0.settled (h.0.settled e) },
  stay-then rs qs ps h.1 k.1,
)

stay-more : (rs : List Issued) (q : Request Due) → Stay rs (with_request q rs)
stay-more [] q = tt
stay-more (r ∷ rs) q = (still-itself r, stay-more rs q)

stay-settled : (test : Request Due → Bool) (rs : List Issued) → Stay rs (settled_where test rs)
stay-settled test [] = tt
stay-settled test (r ∷ rs) = (record { request = refl; settled = λ e. ap (λ b. b || test r.request) e }, stay-settled test rs)

-- ---- each small change

stay-owner : (s : State) (o : Owner) (outcome : Outcome) (names : List (List ℕ)) → Stay s.requests (owner_settled o outcome names s).requests
stay-owner s (owner.Call call) outcome names = stay-itself s.requests
stay-owner s (owner.Job call part) outcome names = stay-itself s.requests
stay-owner s owner.Close outcome names = stay-itself s.requests
stay-owner s owner.Follow outcome names = stay-itself s.requests

stay-change : {g h : Going} → Change g h → Stay g.state.requests h.state.requests
stay-change (still {g}) = stay-itself g.state.requests
stay-change (both {g} {h} {i} x y) = stay-then g.state.requests h.state.requests i.state.requests (stay-change x) (stay-change y)
stay-change (notes {calls} {taken} {s} ns plain) = stay-itself s.requests
stay-change (slots {s} worker) = stay-itself s.requests
stay-change (streams {calls} {taken} {s} xs) = stay-itself s.requests
stay-change (settles_call {calls} {taken} {s} call outcome names) = stay-itself s.requests
stay-change (awaits {calls} {taken} {s} a) = stay-itself s.requests
stay-change (asks_by {calls} {taken} {s} call op r channel payload is) =
    stay-more s.requests (new_request channel (issued s.requests channel + 1) (owner.Call call) r.under (due_by op r))
stay-change (wants {calls} {taken} {s} call name budget) = stay-more s.requests (start_request call (as_serial s.next.serial))
stay-change (asks_to_close {calls} {taken} {s} channel parent asked left) =
    stay-more s.requests (new_request channel (issued s.requests channel + 1) owner.Close parent due.Nothing)
stay-change (takes {calls} {taken} {s} key r e) = stay-settled (has_key key) s.requests
stay-change (takes_none {calls} {taken} {s} key e) = stay-settled (has_key key) s.requests
stay-change (opens {calls} {taken} {s} r object keeps o is same closed) = stay-itself s.requests
stay-change (settles_taken {calls} {taken} {s} r outcome names) = stay-owner s r.owner outcome names
stay-change (marks {calls} {taken} {s} serial m keeps) = stay-itself s.requests
stay-change (falls_with {calls} {s} roots why) = stay-settled (is_under (falls s.objects roots)) s.requests
stay-change (settles_awaits {calls} {taken} {s}) = stay-itself s.requests

pub requests-stay : (s : State) (m : Micro) → Stay s.requests (step s m).requests
requests-stay s m =
    let st = step-is s m in
    stay-then s.requests st.start.state.requests (step s m).requests
    (once-entered (λ (g : Going). Stay s.requests g.state.requests) s (λ lane. stay-itself s.requests) (λ worker. stay-itself s.requests) (stay-itself s.requests) m st.start st.entered)
    (stay-change st.change)

requests-stay-on : (s : State) (ms : List Micro) → Stay s.requests (steps s ms).requests
requests-stay-on s [] = stay-itself s.requests
requests-stay-on s (m ∷ ms) = stay-then s.requests (step s m).requests (steps (step s m) ms).requests (requests-stay s m) (requests-stay-on (step s m) ms)

-- ---- what is counted of them

one-some : (b c : Bool) → (b ≡ true → c ≡ true) → one_if b ≤ one_if c
one-some true c h = subst (λ d. 1 ≤ one_if d) (sym (h refl)) (omega arith)
one-some false true h = omega arith
one-some false false h = omega arith

-- no fewer pass a test of what they are, and of those that have settled
more-issued : (test : Request Due → Bool) (rs qs : List Issued) → Stay rs qs → times_issued test rs ≤ times_issued test qs
more-issued test [] qs h = omega arith
more-issued test (r ∷ rs) [] h = absurd h
more-issued test (r ∷ rs) (q ∷ qs) h =
    let same : one_if (test q.request) ≡ one_if (test r.request) = ap (λ (x : Request Due). one_if (test x)) h.0.request in
    omega (arith, same, more-issued test rs qs h.1, count-cons (λ (x : Issued). test x.request) r rs, count-cons (λ (x : Issued). test x.request) q qs)

abbrev passed : (Request Due → Bool) → Issued → Bool
passed test r = r.settled && test r.request

passed-still : (test : Request Due → Bool) (r q : Issued) → IsStill r q → passed test r ≡ true → passed test q ≡ true
passed-still test r q h e = at r.settled refl e
  where
    at : (b : Bool) → r.settled ≡ b → (b && test r.request) ≡ true → (q.settled && test q.request) ≡ true
    at true t k = ap (λ c. c && test q.request) (h.settled t) ∙ ap test h.request ∙ k
    at false t k = absurd (true≢false (sym k))

more-settled : (test : Request Due → Bool) (rs qs : List Issued) → Stay rs qs → count_by (passed test) rs ≤ count_by (passed test) qs
more-settled test [] qs h = omega arith
more-settled test (r ∷ rs) [] h = absurd h
more-settled test (r ∷ rs) (q ∷ qs) h =
    omega (
      arith,
      one-some (passed test r) (passed test q) (passed-still test r q h.0),
      more-settled test rs qs h.1,
      count-cons (passed test) r rs,
      count-cons (passed test) q qs,
    )

-- each has settled or waits
parted : (test : Request Due → Bool) (rs : List Issued) → count_by (passed test) rs + count_by test (waiting rs) ≡ times_issued test rs
parted test [] = refl
parted test (x ∷ xs) = at x.settled refl (parted test xs)
  where
    at : (b : Bool) → x.settled ≡ b → count_by (passed test) xs + count_by test (waiting xs) ≡ times_issued test xs
        → count_by (passed test) (x ∷ xs) + count_by test (cond b (waiting xs) (x.request ∷ waiting xs)) ≡ times_issued test (x ∷ xs)
    at true e h =
        let here : one_if (passed test x) ≡ one_if (test x.request) = ap (λ b. one_if (b && test x.request)) e in
        omega (arith, here, h, count-cons (passed test) x xs, count-cons (λ (r : Issued). test r.request) x xs)
    at false e h =
        let here : one_if (passed test x) ≡ 0 = ap (λ b. one_if (b && test x.request)) e in
        omega (arith, here, h, count-cons (passed test) x xs, count-cons (λ (r : Issued). test r.request) x xs, count-cons test x.request (waiting xs))

-- ---- one of them, or none

module _ {X : Type 0} (q : X → Bool) where
  none-of : (xs : List X) → count_by q xs ≡ 0 → list_any q xs ≡ false
  none-of [] e = refl
  none-of (x ∷ xs) e = at (q x) refl (none-of xs)
    where
      at : (b : Bool) → q x ≡ b → (count_by q xs ≡ 0 → list_any q xs ≡ false) → (b || list_any q xs) ≡ false
      at true t later = let one : one_if (q x) ≡ 1 = ap one_if t in absurd (omega (arith, e, one, count-cons q x xs))
      at false t later = later (omega (arith, e, count-cons q x xs))

  some-of : (xs : List X) → 1 ≤ count_by q xs → list_any q xs ≡ true
  some-of [] h = absurd (omega (arith, h))
  some-of (x ∷ xs) h = at (q x) refl (some-of xs)
    where
      at : (b : Bool) → q x ≡ b → (1 ≤ count_by q xs → list_any q xs ≡ true) → (b || list_any q xs) ≡ true
      at true t later = refl
      at false t later = let none : one_if (q x) ≡ 0 = ap one_if t in later (omega (arith, h, none, count-cons q x xs))

  -- none was found, so none is counted
  none-counted : (xs : List X) → list_any q xs ≡ false → count_by q xs ≡ 0
  none-counted [] e = refl
  none-counted (x ∷ xs) e = at (q x) refl e (none-counted xs)
    where
      at : (b : Bool) → q x ≡ b → (b || list_any q xs) ≡ false → (list_any q xs ≡ false → count_by q xs ≡ 0) → count_by q (x ∷ xs) ≡ 0
      at true t k later = absurd (true≢false k)
      at false t k later = let none : one_if (q x) ≡ 0 = ap one_if t in omega (arith, none, later k, count-cons q x xs)

  one-of : (xs : List X) → count_by q xs ≤ 1 → one_if (list_any q xs) ≡ count_by q xs
  one-of xs few = at (list_any q xs) refl
    where
      at : (b : Bool) → list_any q xs ≡ b → one_if b ≡ count_by q xs
      at false e = sym (none-counted xs e)
      at true e = omega (arith, few, some-counted (count_by q xs) refl)
        where
          some-counted : (n : ℕ) → count_by q xs ≡ n → 1 ≤ count_by q xs
          some-counted zero z = absurd (true≢false (sym e ∙ none-of xs z))
          some-counted (suc n) z = omega (arith, z)

-- ---- a test that a step keeps is met in one step at most

module _ (test : Request Due → Bool) where
  settled-some : (s t : State) → Stay s.requests t.requests → has_settled test s ≡ true → has_settled test t ≡ true
  settled-some s t h e =
      let was : 1 ≤ count_by (passed test) s.requests = at (count_by (passed test) s.requests) refl in
      some-of (passed test) t.requests (omega (arith, was, more-settled test s.requests t.requests h))
    where
      at : (n : ℕ) → count_by (passed test) s.requests ≡ n → 1 ≤ n
      at zero z = absurd (true≢false (sym e ∙ none-of (passed test) s.requests z))
      at (suc n) z = omega arith

  -- from one state to another it was met so often
  abbrev Met : State → State → ℕ → Type 0
  Met s t times = (Stay s.requests t.requests) × (one_if (has_settled test s) + times ≡ one_if (has_settled test t))

  met-none : (s : State) → Met s s 0
  met-none s = (stay-itself s.requests, omega arith)

  met-once : (s : State) (m : Micro) → Met s (step s m) (one_if (settles_request test (moment s m)))
  met-once s m = (requests-stay s m, at (has_settled test s) (has_settled test (step s m)) (settled-some s (step s m) (requests-stay s m)))
    where
      at : (a b : Bool) → (a ≡ true → b ≡ true) → one_if a + one_if (not a && b) ≡ one_if b
      at true b h = ap one_if (sym (h refl))
      at false true h = refl
      at false false h = refl

  met-then : (s t u : State) (a b : ℕ) → Met s t a → Met t u b → Met s u (a + b)
  met-then s t u a b x y = (stay-then s.requests t.requests u.requests x.0 y.0, omega (arith, x.1, y.1))

  moments-met : (s : State) (ms : List Micro) → Met s (steps s ms) (count_by (settles_request test) (moments s ms))
  moments-met s [] = met-none s
  moments-met s (m ∷ ms) =
      subst (Met s (steps (step s m) ms)) (sym (count-cons (settles_request test) (moment s m) (moments (step s m) ms)))
      (met-then s (step s m) (steps (step s m) ms) (one_if (settles_request test (moment s m))) (count_by (settles_request test) (moments (step s m) ms)) (met-once s m)
      (moments-met (step s m) ms))

  trace-met : (s : State) (es : List Entry) → Met s (after_all s es) (count_by (settles_request test) (trace_from s es))
  trace-met s [] = met-none s
  trace-met s (e ∷ es) =
      subst (Met s (after_all (after s e) es)) (sym (count-append (settles_request test) (moments s (micros s e)) (trace_from (after s e) es)))
      (met-then s (after s e) (after_all (after s e) es) (count_by (settles_request test) (moments s (micros s e))) (count_by (settles_request test) (trace_from (after s e) es))
      (moments-met s (micros s e)) (trace-met (after s e) es))

  settling-met : (j : Journal) → times_settling test j ≡ one_if (has_settled test (state_of j))
  settling-met j = sym (zero-add (times_settling test j)) ∙ (trace-met (start j.seed) j.entries).1

  pub settled-or_waits : (j : Journal) → times_issued test (state_of j).requests ≤ 1 → SettledOrWaits test j
  settled-or_waits j few =
      let all = parted test (state_of j).requests in
      let one : one_if (has_settled test (state_of j)) ≡ count_by (passed test) (state_of j).requests = one-of (passed test) (state_of j).requests (omega (arith, few, all)) in
      omega (arith, all, one, settling-met j)

  pub settling-once : (j : Journal) → times_settling test j ≤ 1
  settling-once j = omega (arith, settling-met j, one-at_most (has_settled test (state_of j)))

  -- the only one, which doesn't wait any more, doesn't wait later
  waits-no_more : (s t : State) → Stay s.requests t.requests → 1 ≤ times_issued test s.requests → times_issued test t.requests ≤ 1 → waits test s ≡ false → waits test t ≡ false
  waits-no_more s t h one few none =
      none-of test (waiting t.requests)
      (omega (
        arith,
        one,
        few,
        parted test s.requests,
        parted test t.requests,
        more-settled test s.requests t.requests h,
        none-counted test (waiting s.requests) none,
      ))

-- ---- the ids of a channel

count-between : (n k l : ℕ) → count_by (λ m. m == n) (numbers_from k l) ≡ one_if (is_between k (k + l) n)
count-between n k zero = grind (arith, nat_tests)
count-between n k (suc l) = count-cons (λ m. m == n) k (numbers_from (k + 1) l) ∙ ap (λ c. one_if (k == n) + c) (count-between n (k + 1) l) ∙ here
  where
    here : one_if (k == n) + one_if (is_between (k + 1) (k + 1 + l) n) ≡ one_if (is_between k (k + suc l) n)
    here = grind (arith, nat_tests)

issued-between : (rs : List Issued) → AreNumbered rs → (worker : WorkerKey) (id : ℕ) → times_issued (is_on worker id) rs ≡ one_if (is_between 1 (issued rs worker + 1) id)
issued-between rs h worker id =
    let last : 1 + length (picked number_of (goes_to worker) rs) ≡ issued rs worker + 1 = omega (arith, length-picked number_of (goes_to worker) rs) in
    sym (count-same (λ (r : Issued). goes_to worker r && (number_of r == id)) (λ (r : Issued). is_on worker id r.request) (λ r. answers-same worker id r.request.via) rs)
    ∙ count-picked number_of (goes_to worker) id rs
    ∙ ap (count_by (λ m. m == id)) (h worker)
    ∙ count-between id 1 (length (picked number_of (goes_to worker) rs))
    ∙ ap (λ k. one_if (is_between 1 k id)) last

pub one-issued : (j : Journal) (worker : WorkerKey) (id : ℕ) → times_issued (is_on worker id) (state_of j).requests ≡ one_if (is_between 1 (issued (state_of j).requests worker + 1) id)
one-issued j = issued-between (state_of j).requests (numbered j)

few-issued : (rs : List Issued) → AreNumbered rs → (worker : WorkerKey) (id : ℕ) → times_issued (is_on worker id) rs ≤ 1
few-issued rs h worker id = omega (arith, issued-between rs h worker id, one-at_most (is_between 1 (issued rs worker + 1) id))

pub replies-once : (j : Journal) (worker : WorkerKey) (id : ℕ) → SettledOrWaits (is_on worker id) j
replies-once j worker id = settled-or_waits (is_on worker id) j (few-issued (state_of j).requests (numbered j) worker id)

-- ---- starts

few-starts : (rs : List Issued) (s : State) → EachStartsOnce rs s.next → (worker : Serial) → times_issued (is_start_of worker) rs ≤ 1
few-starts rs s h worker = omega (arith, h worker.0, one-at_most (nat_lt worker.0 s.next.serial))

pub one-wanted : BuildsFit → (j : Journal) (worker : Serial) → times_issued (is_start_of worker) (state_of j).requests ≤ 1
one-wanted b j =
    few-starts (state_of j).requests (state_of j)
    (along (λ (s : State). FitsOn (at_rest s) × StartsOn (at_rest s)) (λ s m h. (fits-step b s m h.0, starts-step b s m h.0 h.1)) (start j.seed) j.entries
    (fits-start j.seed, starts-start j.seed)).1

pub starts-once : BuildsFit → (j : Journal) (worker : Serial) → SettledOrWaits (is_start_of worker) j
starts-once b j worker = settled-or_waits (is_start_of worker) j (one-wanted b j worker)

-- ---- they stay settled

pub last-rises : (s : State) (ms : List Micro) (worker : WorkerKey) → issued s.requests worker ≤ issued (steps s ms).requests worker
last-rises s ms worker = more-issued (λ r. is_by worker r.via) s.requests (steps s ms).requests (requests-stay-on s ms)

pub replies-stay : (s : State) (ms : List Micro) (worker : WorkerKey) (id : ℕ) → AreNumbered s.requests → id ≤ issued s.requests worker → waits (is_on worker id) s ≡ false
    → waits (is_on worker id) (steps s ms) ≡ false
replies-stay s ms worker id h used none = at (times_issued (is_on worker id) s.requests) refl
  where
    later : AreNumbered (steps s ms).requests
    later = along_steps (λ (t : State). AreNumbered t.requests) numbered-step s ms h

    at : (n : ℕ) → times_issued (is_on worker id) s.requests ≡ n → waits (is_on worker id) (steps s ms) ≡ false
    at (suc n) e =
        waits-no_more (is_on worker id) s (steps s ms) (requests-stay-on s ms) (omega (arith, e)) (few-issued (steps s ms).requests later worker id) none
    at zero e = none-of (is_on worker id) (waiting (steps s ms).requests) (never id used e)
      where
        -- the only id up to the last that no request has is 0
        never : (n : ℕ) → n ≤ issued s.requests worker → times_issued (is_on worker n) s.requests ≡ 0 → count_by (is_on worker n) (waiting (steps s ms).requests) ≡ 0
        never zero u z =
            omega (
              arith,
              parted (is_on worker 0) (steps s ms).requests,
              issued-between (steps s ms).requests later worker 0,
              none-between (issued (steps s ms).requests worker),
            )
          where
            none-between : (k : ℕ) → one_if (is_between 1 (k + 1) 0) ≡ 0
            none-between k = grind (arith, nat_tests)
        never (suc n) u z = absurd (omega (arith, z, issued-between s.requests h worker (suc n), one-between (issued s.requests worker) u))
          where
            one-between : (k : ℕ) → suc n ≤ k → one_if (is_between 1 (k + 1) (suc n)) ≡ 1
            one-between k le = grind (arith, nat_tests)

pub starts-stay : BuildsFit → (seed : ℕ) (s : State) (ms : List Micro) (worker : Serial) → IsSound seed s → times_issued (is_start_of worker) s.requests ≡ 1 → waits (is_start_of worker) s ≡ false
    → waits (is_start_of worker) (steps s ms) ≡ false
starts-stay b seed s ms worker h one none =
    let later = along_steps (IsSound seed) (sound-step b seed) s ms h in
    waits-no_more (is_start_of worker) s (steps s ms) (requests-stay-on s ms) (omega (arith, one)) (few-starts (steps s ms).requests (steps s ms) later.starts worker) none
