-- Each call and await settles once, waits for one request, or waits as an await: through each small change.
use Rattle.std.proofs.Common.{◌≡◌, ◌≤◌, ℕ, ◌+◌, List, [], ◌∷◌, ◌++◌, map, nat_lt, Bool, true, false, ◌&&◌, ◌==◌, cond, Option, Some, None, refl, sym, ap, ◌∙◌, subst, arith, count_by}
use Rattle.std.specs.List.{AllByRecursion, filter, find}
use Rattle.std.proofs.lemmas.Bool.{eqb-true}
use Rattle.std.proofs.lemmas.Bool.Decides.{nat_tests}
use Rattle.std.proofs.lemmas.List.{nil_from_length}
use Rattle.std.proofs.lemmas.List.Sums.{length-filter}
use Rattle.ms_base.specs.declared.keys.CallKey.{CallKey}
use Rattle.ms_base.specs.declared.keys.Event.{Event}
use Rattle.ms_base.specs.declared.keys.Reason.{Reason}
use Rattle.ms_base.specs.declared.keys.Serial.{Serial}
use Rattle.ms_base.specs.declared.keys.WorkerKey.{WorkerKey}
use Rattle.ms_base.specs.declared.outcome.Outcome.{Outcome}
use Rattle.transcript.specs.declared.note.Note.{Note}
use Rattle.transcript.specs.declared.note.Note.TheVariants as note
use Rattle.object_tree.specs.declared.object.Object.{Object}
use Rattle.object_tree.specs.Falls.{falls, with_closed}
use Rattle.object_tree.specs.Objects.{numbered}
use Rattle.pending_calls.specs.declared.waiting.Owner.{Owner}
use Rattle.pending_calls.specs.declared.waiting.Owner.TheVariants as owner
use Rattle.request_build.specs.declared.built.Draws.{Draws}
use Rattle.request_build.specs.Laws.{DrawsFor}
use Rattle.request_contents.specs.Methods.{ids_of, method_of}
use Rattle.host_awaits.specs.Awaits.{outcome_of, settled_before, settled_by, times_noted, waiting_before, waiting_by}
use Rattle.host_awaits.specs.declared.entered.Await.{Await}
use Rattle.host_notes.specs.Keys.{same_call}
use Rattle.host_requests.specs.declared.request.Request.{Request}
use Rattle.host_requests.specs.declared.request.Via.{Via}
use Rattle.host_requests.specs.declared.request.Via.TheVariants.{Channel, Start}
use Rattle.host_requests.specs.Requests.{is_answer_to, is_start_of, is_under}
use Rattle.host_model.specs.declared.due.Due.{Due}
use Rattle.host_model.specs.declared.due.Due.TheVariants as due
use Rattle.host_model.specs.State.{State, Issued, as_serial, calls_of, is_by, issued, next_call, settled_if, settled_where, start, waiting, with_request}
use Rattle.host_model.specs.Answer.{known, payload_of}
use Rattle.host_model.specs.Changes.{new_request, opened, owner_settled}
use Rattle.host_model.specs.Falls.{closed_for, closed_note, closed_notes}
use Rattle.host_model.specs.Fit.{BuildsFit, one_if}
use Rattle.host_model.specs.Laws.{AreNumbered, ArePlaced, EachStartsOnce, EachWaitsOrSettled, awaits_of, id_in, owned_by, requests_of, settles, times_entered, times_settled}
use Rattle.host_model.specs.Run.{Journal, state_of}
use Rattle.host_model.specs.Step.{Micro, due_by, first_worker, is_hopeless, new_worker, settled_note, start_request, step}
use Rattle.host_model.proofs.Along.{along}
use Rattle.host_model.proofs.Changes.{Change, Going, IsPlain, Key, reply_to, start_of, at_rest, done, entering, going, has_key, once-entered, step-is, still, both, notes, slots, streams, settles_call, awaits, asks_by, wants, asks_to_close, takes, takes_none, opens, settles_taken, marks, falls_with, settles_awaits}
use Rattle.host_model.proofs.Counts.{count-append, count-cons, count-mapped, count-parted, count-push}
use Rattle.host_model.proofs.FitLemmas.{FitsOn, fits-change, fits-entered, fits-start, open-more, open_of}
use Rattle.host_model.proofs.InARow.{picked-more, picked-once}
use Rattle.host_model.proofs.NumberLemmas.{NumberedOn, numbered-change, numbered-entered}
use Rattle.host_model.proofs.Waiting.{others, waiting-settled}

-- ---- those that are found by a key

-- no more wait than were issued
count-waiting : (q : Request Due → Bool) (rs : List Issued) → count_by q (waiting rs) ≤ count_by (λ (r : Issued). q r.request) rs
count-waiting q [] = omega arith
count-waiting q (x ∷ xs) = at x.settled (count-waiting q xs)
  where
    at : (b : Bool) → count_by q (waiting xs) ≤ count_by (λ (r : Issued). q r.request) xs
        → count_by q (cond b (waiting xs) (x.request ∷ waiting xs)) ≤ count_by (λ (r : Issued). q r.request) (x ∷ xs)
    at true h = omega (arith, h, count-cons (λ (r : Issued). q r.request) x xs)
    at false h = omega (arith, h, count-cons (λ (r : Issued). q r.request) x xs, count-cons q x.request (waiting xs))

none-left : {X : Type 0} (q p : X → Bool) (xs : List X) → count_by p xs ≡ 0 → count_by q (filter p xs) ≡ 0
none-left q p xs e = ap (count_by q) (nil_from_length (filter p xs) (length-filter p xs ∙ e))

-- the only one that passes a test
count-only : {X : Type 0} (q p : X → Bool) (xs : List X) (r : X) → find p xs ≡ Some r → count_by p xs ≤ 1 → count_by q (filter p xs) ≡ one_if (q r)
count-only q p [] r e one = absurd cc
count-only q p (x ∷ xs) r e one = at (p x) refl e (count-only q p xs r)
  where
    at : (b : Bool) → p x ≡ b → cond b (Some x) (find p xs) ≡ Some r → (find p xs ≡ Some r → count_by p xs ≤ 1 → count_by q (filter p xs) ≡ one_if (q r))
        → count_by q (cond b (x ∷ filter p xs) (filter p xs)) ≡ one_if (q r)
    at true t here later =
        let same : x ≡ r = cc in
        let first : one_if (p x) ≡ 1 = ap one_if t in
        let rest : count_by p xs ≡ 0 = omega (arith, one, first, count-cons p x xs) in
        let that : one_if (q x) ≡ one_if (q r) = ap (λ y. one_if (q y)) same in
        omega (arith, that, none-left q p xs rest, count-cons q x (filter p xs))
    at false t there later = later there (omega (arith, one, count-cons p x xs))

-- none passes a test
count-absent : {X : Type 0} (q p : X → Bool) (xs : List X) → find p xs ≡ None → count_by q (filter p xs) ≡ 0
count-absent q p [] e = refl
count-absent q p (x ∷ xs) e = at (p x) e (count-absent q p xs)
  where
    at : (b : Bool) → cond b (Some x) (find p xs) ≡ None → (find p xs ≡ None → count_by q (filter p xs) ≡ 0)
        → count_by q (cond b (x ∷ filter p xs) (filter p xs)) ≡ 0
    at true here later = absurd cc
    at false there later = later there

-- ---- a key is that of one request at most

abbrev pub number_of : Issued → ℕ
number_of r = id_in r.request.via

abbrev pub goes_to : WorkerKey → Issued → Bool
goes_to w r = is_by w r.request.via

pub answers-same : (worker : WorkerKey) (id : ℕ) (v : Via) → (is_by worker v && (id_in v == id)) ≡ is_answer_to worker id v
answers-same worker id (Channel at n) = refl
answers-same worker id Start = refl

pub count-same : {X : Type 0} (p q : X → Bool) → ((x : X) → p x ≡ q x) → (xs : List X) → count_by p xs ≡ count_by q xs
count-same p q same [] = refl
count-same p q same (x ∷ xs) =
    count-cons p x xs ∙ ap (λ b. one_if b + count_by p xs) (same x) ∙ ap (λ n. one_if (q x) + n) (count-same p q same xs) ∙ sym (count-cons q x xs)

pub one-at_most : (b : Bool) → one_if b ≤ 1
one-at_most true = omega arith
one-at_most false = omega arith

pub keys-once : (rs : List Issued) (next : Draws) → AreNumbered rs → EachStartsOnce rs next → (key : Key) → count_by (has_key key) (waiting rs) ≤ 1
keys-once rs next h starts (reply_to worker id) =
    omega (
      arith,
      count-waiting (has_key (reply_to worker id)) rs,
      count-same (λ (r : Issued). goes_to worker r && (number_of r == id)) (λ (r : Issued). has_key (reply_to worker id) r.request) (λ r. answers-same worker id r.request.via) rs,
      picked-once number_of (goes_to worker) id rs (h worker),
    )
keys-once rs next h starts (start_of worker) =
    omega (arith, count-waiting (has_key (start_of worker)) rs, starts worker.0, one-at_most (nat_lt worker.0 next.serial))

-- ---- starts

abbrev pub StartsOn : Going → Type 0
StartsOn g = EachStartsOnce g.state.requests g.state.next

starts-settled : (test : Request Due → Bool) (rs : List Issued) (next : Draws) → EachStartsOnce rs next → EachStartsOnce (settled_where test rs) next
starts-settled test rs next h =
    λ n. subst (λ c. c ≤ one_if (nat_lt n next.serial))
    (sym (count-mapped (λ (r : Issued). is_start_of (as_serial n) r.request) (λ (r : Issued). is_start_of (as_serial n) r.request) (settled_if test) (λ r. refl) rs)) (h n)

rises : (n a b : ℕ) → a ≤ b → one_if (nat_lt n a) ≤ one_if (nat_lt n b)
rises n a b h = grind (arith, nat_tests)

one-more : (n a : ℕ) → one_if (nat_lt n a) + one_if (a == n) ≤ one_if (nat_lt n (a + 1))
one-more n a = grind (arith, nat_tests)

starts-sent : (rs : List Issued) (next after : Draws) (channel : WorkerKey) (id : ℕ) (o : Owner) (under : Serial) (d : Due) → next.serial ≤ after.serial → EachStartsOnce rs next
    → EachStartsOnce (with_request (new_request channel id o under d) rs) after
starts-sent rs next after channel id o under d more h =
    λ n.
    omega (
      arith,
      count-push (λ (r : Issued). is_start_of (as_serial n) r.request) rs (record { request = new_request channel id o under d; settled = false }),
      h n,
      rises n next.serial after.serial more,
    )

starts-wanted : (rs : List Issued) (next : Draws) (call : CallKey) → EachStartsOnce rs next
    → EachStartsOnce (with_request (start_request call (as_serial next.serial)) rs) (record next { serial = next.serial + 1 })
starts-wanted rs next call h =
    λ n.
    omega (
      arith,
      count-push (λ (r : Issued). is_start_of (as_serial n) r.request) rs (record { request = start_request call (as_serial next.serial); settled = false }),
      h n,
      one-more n next.serial,
    )

serial-rises : (makes : Option Object) (next after : Draws) → DrawsFor makes next after → next.serial ≤ after.serial
serial-rises None next after drawn = subst (λ d. next.serial ≤ d.serial) (sym drawn) (omega arith)
serial-rises (Some o) next after drawn = omega (arith, drawn.serial)

pub starts-start : (seed : ℕ) → StartsOn (at_rest (start seed))
starts-start seed = λ n. at_least (nat_lt n 1)
  where
    at_least : (b : Bool) → 0 ≤ one_if b
    at_least true = omega arith
    at_least false = omega arith

starts-owner : (s : State) (o : Owner) (outcome : Outcome) (names : List (List ℕ)) → EachStartsOnce s.requests s.next
    → EachStartsOnce (owner_settled o outcome names s).requests (owner_settled o outcome names s).next
starts-owner s (owner.Call call) outcome names h = h
starts-owner s (owner.Job call part) outcome names h = h
starts-owner s owner.Close outcome names h = h
starts-owner s owner.Follow outcome names h = h

pub starts-change : BuildsFit → {g h : Going} → Change g h → FitsOn g → StartsOn g → StartsOn h
starts-change b still f st = st
starts-change b (both x y) f st = starts-change b y (fits-change b x f) (starts-change b x f st)
starts-change b (notes ns plain) f st = st
starts-change b (slots worker) f st = st
starts-change b (streams xs) f st = st
starts-change b (settles_call call outcome names) f st = st
starts-change b (awaits a) f st = st
starts-change b (asks_by {calls} {taken} {s} call op r channel payload is) f st =
    starts-sent s.requests s.next r.next channel (issued s.requests channel + 1) (owner.Call call) r.under (due_by op r)
    (serial-rises r.makes s.next r.next (b.draws (known s) op r f.few is.built_is)) st
starts-change b (wants {calls} {taken} {s} call name budget) f st = starts-wanted s.requests s.next call st
starts-change b (asks_to_close {calls} {taken} {s} channel parent asked left) f st =
    starts-sent s.requests s.next s.next channel (issued s.requests channel + 1) owner.Close parent due.Nothing (omega arith) st
starts-change b (takes {calls} {taken} {s} key r e) f st = starts-settled (has_key key) s.requests s.next st
starts-change b (takes_none {calls} {taken} {s} key e) f st = starts-settled (has_key key) s.requests s.next st
starts-change b (opens r object keeps o is same closed) f st = st
starts-change b (settles_taken {calls} {taken} {s} r outcome names) f st = starts-owner s r.owner outcome names st
starts-change b (marks serial m keeps) f st = st
starts-change b (falls_with {calls} {s} roots why) f st = starts-settled (is_under (falls s.objects roots)) s.requests s.next st
starts-change b settles_awaits f st = st

pub starts-step : BuildsFit → (s : State) (m : Micro) → FitsOn (at_rest s) → StartsOn (at_rest s) → StartsOn (at_rest (step s m))
starts-step b s m f st =
    let steps_by = step-is s m in
    starts-change b steps_by.change (fits-entered s m steps_by.start steps_by.entered f)
    (once-entered StartsOn s (λ lane. st) (λ worker. st) st m steps_by.start steps_by.entered)

-- ---- notes

settles-plain : (key : CallKey) (n : Note) → IsPlain n → settles key n ≡ false
settles-plain key (note.Settled call o) h = absurd h
settles-plain key other h = refl

-- notes that settle nothing
pub count-plain : (q : Note → Bool) → ((n : Note) → IsPlain n → q n ≡ false) → (ns : List Note) → AllByRecursion IsPlain ns → count_by q ns ≡ 0
count-plain q none [] h = refl
count-plain q none (n ∷ ns) h =
    let first : one_if (q n) ≡ 0 = ap one_if (none n h.0) in
    omega (arith, first, count-cons q n ns, count-plain q none ns h.1)

closes-settle : (key : CallKey) (o : Option Object) → times_settled key (closed_note o) ≡ 0
closes-settle key None = refl
closes-settle key (Some o) = at o.closed
  where
    at : (r : Option Reason) → times_settled key (closed_for o r) ≡ 0
    at None = refl
    at (Some why) = refl

none-settle : (key : CallKey) (objects : List Object) (serials : List Serial) → times_settled key (closed_notes objects serials) ≡ 0
none-settle key objects [] = refl
none-settle key objects (serial ∷ serials) =
    omega (
      arith,
      count-append (settles key) (closed_note (numbered objects serial)) (closed_notes objects serials),
      closes-settle key (numbered objects serial),
      none-settle key objects serials,
    )

-- ---- awaits

module _ (key : CallKey) (times : List ℕ → Event → ℕ) (hopeless : List ℕ → Bool) where
  abbrev noted_for : List Await → List Note
  noted_for xs = map settled_note (settled_by times hopeless xs)

  awaits-settled : (xs : List Await) → times_settled key (noted_for xs) + awaits_of key (waiting_by times hopeless xs) ≡ awaits_of key xs
  awaits-settled [] = refl
  awaits-settled (a ∷ xs) = at (outcome_of times hopeless a) (awaits-settled xs)
    where
      at : (o : Option Outcome) → times_settled key (noted_for xs) + awaits_of key (waiting_by times hopeless xs) ≡ awaits_of key xs
          → times_settled key (map settled_note (settled_before a.key o (settled_by times hopeless xs))) + awaits_of key (waiting_before a o (waiting_by times hopeless xs)) ≡ awaits_of key (a ∷ xs)
      at None h =
          omega (
            arith,
            h,
            count-cons (λ (x : Await). same_call x.key key) a xs,
            count-cons (λ (x : Await). same_call x.key key) a (waiting_by times hopeless xs),
          )
      at (Some o) h =
          omega (arith, h, count-cons (λ (x : Await). same_call x.key key) a xs, count-cons (settles key) (note.Settled a.key o) (noted_for xs))

-- ---- the balance

-- with what is in hand
abbrev pub SettlesOn : Going → Type 0
SettlesOn g =
    (key : CallKey)
    → times_settled key g.state.notes + requests_of key (open_of g.taken g.state.requests) + awaits_of key g.state.awaits + times_entered key g.calls
    ≡ times_entered key g.state.calls

abbrev is_of : CallKey → Request Due → Bool
is_of key r = owned_by key r.owner

module _ (key : CallKey) where
  noted-one : (ns : List Note) (n : Note) → times_settled key (ns ++ n ∷ []) ≡ times_settled key ns + one_if (settles key n)
  noted-one ns n = count-push (settles key) ns n

  asked-one : (taken : List (Request Due)) (rs : List Issued) (r : Request Due) → requests_of key (open_of taken (with_request r rs)) ≡ requests_of key (open_of taken rs) + one_if (is_of key r)
  asked-one taken rs r = ap (count_by (is_of key)) (open-more taken rs r) ∙ count-push (is_of key) (open_of taken rs) r

  settled-some : (test : Request Due → Bool) (taken : List (Request Due)) (rs : List Issued)
      → requests_of key (open_of taken (settled_where test rs)) + count_by (is_of key) (filter test (waiting rs)) ≡ requests_of key (open_of taken rs)
  settled-some test taken rs =
      let here : count_by (is_of key) (waiting (settled_where test rs)) ≡ count_by (is_of key) (others test (waiting rs)) = ap (count_by (is_of key)) (waiting-settled test rs) in
      omega (
        arith,
        here,
        count-append (is_of key) taken (waiting (settled_where test rs)),
        count-append (is_of key) taken (waiting rs),
        count-parted (is_of key) test (waiting rs),
      )

balanced-owner : (calls : List CallKey) (taken : List (Request Due)) (s : State) (r : Request Due) (o : Owner) (outcome : Outcome) (names : List (List ℕ)) → r.owner ≡ o
    → SettlesOn (going calls (r ∷ taken) s) → SettlesOn (going calls taken (owner_settled o outcome names s))
balanced-owner calls taken s r (owner.Call call) outcome names is h =
    λ key.
    let here : one_if (is_of key r) ≡ one_if (same_call call key) = ap (λ w. one_if (owned_by key w)) is in
    omega (arith, here, h key, count-cons (is_of key) r (open_of taken s.requests), noted-one key s.notes (note.Settled call outcome))
balanced-owner calls taken s r (owner.Job call part) outcome names is h =
    λ key.
    let here : one_if (is_of key r) ≡ 0 = ap (λ w. one_if (owned_by key w)) is in
    omega (arith, here, h key, count-cons (is_of key) r (open_of taken s.requests))
balanced-owner calls taken s r owner.Close outcome names is h =
    λ key.
    let here : one_if (is_of key r) ≡ 0 = ap (λ w. one_if (owned_by key w)) is in
    omega (arith, here, h key, count-cons (is_of key) r (open_of taken s.requests))
balanced-owner calls taken s r owner.Follow outcome names is h =
    λ key.
    let here : one_if (is_of key r) ≡ 0 = ap (λ w. one_if (owned_by key w)) is in
    omega (arith, here, h key, count-cons (is_of key) r (open_of taken s.requests))

pub balanced-change : BuildsFit → {g h : Going} → Change g h → FitsOn g → NumberedOn g → StartsOn g → SettlesOn g → SettlesOn h
balanced-change b still f n st h = h
balanced-change b (both x y) f n st h = balanced-change b y (fits-change b x f) (numbered-change x n) (starts-change b x f st) (balanced-change b x f n st h)
balanced-change b (notes {calls} {taken} {s} ns plain) f n st h =
    λ key. omega (arith, h key, count-append (settles key) s.notes ns, count-plain (settles key) (settles-plain key) ns plain)
balanced-change b (slots worker) f n st h = h
balanced-change b (streams xs) f n st h = h
balanced-change b (settles_call {calls} {taken} {s} call outcome names) f n st h =
    λ key. omega (arith, h key, count-cons (λ (c : CallKey). same_call c key) call calls, noted-one key s.notes (note.Settled call outcome))
balanced-change b (awaits {calls} {taken} {s} a) f n st h =
    λ key. omega (arith, h key, count-cons (λ (c : CallKey). same_call c key) a.key calls, count-push (λ (x : Await). same_call x.key key) s.awaits a)
balanced-change b (asks_by {calls} {taken} {s} call op r channel payload is) f n st h =
    λ key.
    omega (
      arith,
      h key,
      count-cons (λ (c : CallKey). same_call c key) call calls,
      noted-one key s.notes (note.Sent channel payload),
      asked-one key taken s.requests (new_request channel (issued s.requests channel + 1) (owner.Call call) r.under (due_by op r)),
    )
balanced-change b (wants {calls} {taken} {s} call name budget) f n st h =
    λ key.
    omega (
      arith,
      h key,
      count-cons (λ (c : CallKey). same_call c key) call calls,
      noted-one key s.notes (opened (new_worker s name)),
      noted-one key (s.notes ++ opened (new_worker s name) ∷ []) (note.Spawn (first_worker s.slots)),
      asked-one key taken s.requests (start_request call (as_serial s.next.serial)),
    )
balanced-change b (asks_to_close {calls} {taken} {s} channel parent asked left) f n st h =
    λ key.
    omega (
      arith,
      h key,
      noted-one key s.notes (note.Sent channel (payload_of (method_of asked) (ids_of asked) None (issued s.requests channel + 1))),
      asked-one key taken s.requests (new_request channel (issued s.requests channel + 1) owner.Close parent due.Nothing),
    )
balanced-change b (takes {calls} {taken} {s} key r e) f n st h =
    λ k.
    omega (
      arith,
      h k,
      settled-some k (has_key key) taken s.requests,
      count-only (is_of k) (has_key key) (waiting s.requests) r e (keys-once s.requests s.next n st key),
      count-cons (is_of k) r (open_of taken (settled_where (has_key key) s.requests)),
    )
balanced-change b (takes_none {calls} {taken} {s} key e) f n st h =
    λ k. omega (arith, h k, settled-some k (has_key key) taken s.requests, count-absent (is_of k) (has_key key) (waiting s.requests) e)
balanced-change b (opens {calls} {taken} {s} r object keeps o is same closed) f n st h =
    λ key.
    omega (
      arith,
      h key,
      noted-one key s.notes (opened o),
      count-cons (is_of key) r (open_of taken s.requests),
      count-cons (is_of key) (done r) (open_of taken s.requests),
    )
balanced-change b (settles_taken {calls} {taken} {s} r outcome names) f n st h = balanced-owner calls taken s r r.owner outcome names refl h
balanced-change b (marks serial m keeps) f n st h = h
balanced-change b (falls_with {calls} {s} roots why) f n st h =
    λ key.
    let down : List Serial = falls s.objects roots in
    let under = filter (is_under down) (waiting s.requests) in
    omega (
      arith,
      h key,
      count-append (settles key) s.notes (closed_notes (with_closed down roots why s.objects) down),
      none-settle key (with_closed down roots why s.objects) down,
      count-append (is_of key) (map done under) (waiting (settled_where (is_under down) s.requests)),
      count-mapped (is_of key) (is_of key) done (λ r. refl) under,
      settled-some key (is_under down) [] s.requests,
    )
balanced-change b (settles_awaits {calls} {taken} {s}) f n st h =
    λ key.
    omega (
      arith,
      h key,
      count-append (settles key) s.notes (noted_for key (times_noted s.notes) (is_hopeless s) s.awaits),
      awaits-settled key (times_noted s.notes) (is_hopeless s) s.awaits,
    )

-- ---- calls are entered once

placed-owner : (s : State) (o : Owner) (outcome : Outcome) (names : List (List ℕ)) → ArePlaced s.calls → ArePlaced (owner_settled o outcome names s).calls
placed-owner s (owner.Call call) outcome names h = h
placed-owner s (owner.Job call part) outcome names h = h
placed-owner s owner.Close outcome names h = h
placed-owner s owner.Follow outcome names h = h

placed-more : (calls : List CallKey) (lane : ℕ) → ArePlaced calls → ArePlaced (calls ++ next_call calls lane ∷ [])
placed-more calls lane h =
    λ l. picked-more (λ (c : CallKey). c.place) (λ (c : CallKey). c.lane == l) calls (next_call calls lane) (h l) (λ e. ap (λ k. calls_of calls k + 1) (eqb-true lane l e))

pub placed-change : {g h : Going} → Change g h → ArePlaced g.state.calls → ArePlaced h.state.calls
placed-change still h = h
placed-change (both x y) h = placed-change y (placed-change x h)
placed-change (notes ns plain) h = h
placed-change (slots worker) h = h
placed-change (streams xs) h = h
placed-change (settles_call call outcome names) h = h
placed-change (awaits a) h = h
placed-change (asks_by call op r channel payload is) h = h
placed-change (wants call name budget) h = h
placed-change (asks_to_close channel parent asked left) h = h
placed-change (takes key r e) h = h
placed-change (takes_none key e) h = h
placed-change (opens r object keeps o is same closed) h = h
placed-change (settles_taken {calls} {taken} {s} r outcome names) h = placed-owner s r.owner outcome names h
placed-change (marks serial m keeps) h = h
placed-change (falls_with roots why) h = h
placed-change settles_awaits h = h

abbrev PlacedOn : Going → Type 0
PlacedOn g = ArePlaced g.state.calls

placed : (j : Journal) → ArePlaced (state_of j).calls
placed j =
    along (λ (s : State). PlacedOn (at_rest s))
    (λ s m h. let st = step-is s m in placed-change st.change (once-entered PlacedOn s (λ lane. placed-more s.calls lane h) (λ worker. h) h m st.start st.entered)) (start j.seed) j.entries
    (λ lane. refl)

pub entered-once : (j : Journal) (key : CallKey) → times_entered key (state_of j).calls ≤ 1
entered-once j key = picked-once (λ (c : CallKey). c.place) (λ (c : CallKey). c.lane == key.lane) key.place (state_of j).calls (placed j key.lane)

-- ---- whole journals

abbrev AreSettled : State → Type 0
AreSettled s = FitsOn (at_rest s) × NumberedOn (at_rest s) × StartsOn (at_rest s) × SettlesOn (at_rest s)

-- a call that is entered is in hand
balanced-entered : (s : State) (lane : ℕ) → SettlesOn (at_rest s) → SettlesOn (entering s lane)
balanced-entered s lane h =
    λ key.
    let call = next_call s.calls lane in
    omega (arith, h key, count-cons (λ (c : CallKey). same_call c key) call [], count-push (λ (c : CallKey). same_call c key) s.calls call)

settled-step : BuildsFit → (s : State) (m : Micro) → AreSettled s → AreSettled (step s m)
settled-step b s m h =
    let st = step-is s m in
    let fits = fits-entered s m st.start st.entered h.0 in
    let numbers = numbered-entered s m st.start st.entered h.1 in
    let starts = once-entered StartsOn s (λ lane. h.2) (λ worker. h.2) h.2 m st.start st.entered in
    let balance = once-entered SettlesOn s (λ lane. balanced-entered s lane h.3) (λ worker. h.3) h.3 m st.start st.entered in
    (fits-change b st.change fits, numbered-change st.change numbers, starts-change b st.change fits starts, balanced-change b st.change fits numbers starts balance)

settled-start : (seed : ℕ) → AreSettled (start seed)
settled-start seed = (fits-start seed, λ w. refl, starts-start seed, λ key. refl)

pub waits-or-settled : BuildsFit → (j : Journal) → EachWaitsOrSettled (state_of j)
waits-or-settled b j =
    let h = (along AreSettled (settled-step b) (start j.seed) j.entries (settled-start j.seed)).3 in
    λ key. omega (arith, h key)

pub settled-once : BuildsFit → (j : Journal) (key : CallKey) → times_settled key (state_of j).notes ≤ 1
settled-once b j key = omega (arith, waits-or-settled b j key, entered-once j key)
