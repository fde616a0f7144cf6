-- Each object closes once, and what stands on a closed object is closed: through each small change.
use Rattle.std.proofs.Common.{◌≡◌, ◌<◌, ℕ, ◌+◌, List, [], ◌∷◌, ◌++◌, map, Bool, true, false, ◌&&◌, ◌==◌, cond, Option, Some, None, refl, sym, ap, ◌∙◌, subst, arith, count_by}
use Rattle.std.specs.List.{AllByRecursion, filter}
use Rattle.std.specs.Option.{is_some}
use Rattle.std.specs.Prelude.{IfSome}
use Rattle.std.proofs.lemmas.Bool.{eqb-true, ne_eqb}
use Rattle.ms_base.specs.declared.keys.CallKey.{CallKey}
use Rattle.ms_base.specs.declared.keys.Reason.{Reason}
use Rattle.ms_base.specs.declared.keys.Serial.{Serial}
use Rattle.ms_base.specs.declared.outcome.Outcome.{Outcome}
use Rattle.transcript.specs.declared.note.Note.{Note}
use Rattle.transcript.specs.declared.note.Note.TheVariants as note
use Rattle.object_tree.specs.declared.object.Mark.{Mark}
use Rattle.object_tree.specs.declared.object.Mark.TheVariants.{Running, Paused, ProducerPaused, Far}
use Rattle.object_tree.specs.declared.object.Object.{Object}
use Rattle.object_tree.specs.Falls.{falls, with_closed}
use Rattle.object_tree.specs.Objects.{AreInOrder, has_serial, marked, numbered, with_object}
use Rattle.pending_calls.specs.declared.waiting.Owner.{Owner}
use Rattle.pending_calls.specs.declared.waiting.Owner.TheVariants as owner
use Rattle.request_build.specs.declared.built.Keep.{Keep}
use Rattle.host_awaits.specs.Awaits.{settled_by, times_noted}
use Rattle.host_requests.specs.declared.request.Request.{Request}
use Rattle.host_requests.specs.Requests.{is_under}
use Rattle.host_model.specs.declared.due.Due.{Due}
use Rattle.host_model.specs.declared.due.Due.TheVariants as due
use Rattle.host_model.specs.State.{State, Issued, as_serial, issued, settled_where, start, waiting, with_request}
use Rattle.host_model.specs.Answer.{known, payload_of}
use Rattle.host_model.specs.Changes.{new_request, opened, owner_settled}
use Rattle.host_model.specs.Falls.{closed_notes}
use Rattle.host_model.specs.Fit.{BuildsFit, one_if}
use Rattle.host_model.specs.Laws.{AreOnOpen, EachClosesOnce, IsDueOnOpen, IsOnOpen, closes, is_open_at, is_shut, times_closed}
use Rattle.host_model.specs.Run.{Journal, state_of}
use Rattle.host_model.specs.Step.{Micro, due_by, due_of, first_worker, is_hopeless, new_worker, settled_note, start_request, step, turn_of}
use Rattle.host_model.proofs.Along.{along}
use Rattle.host_model.proofs.BuiltLemmas.{IsNew, request-stands}
use Rattle.host_model.proofs.Changes.{Change, Going, IsPlain, at_rest, done, going, has_key, once-entered, step-is, still, both, notes, slots, streams, settles_call, awaits, asks_by, wants, asks_to_close, takes, takes_none, opens, settles_taken, marks, falls_with, settles_awaits}
use Rattle.host_model.proofs.Counts.{all-append, all-each, count-append, count-cons, count-mapped, count-none}
use Rattle.host_model.proofs.FitLemmas.{FitsOn, fits-change, fits-entered, fits-start, open-more, open_of}
use Rattle.host_model.proofs.Objects.{IsAlike, chosen-alike, count-with_object, marked-alike}
use Rattle.host_model.proofs.SettleLemmas.{count-plain}
use Rattle.host_model.proofs.Waiting.{all-settled, all-taken}
use Rattle.request_contents.specs.Methods.{ids_of, method_of}
use Rattle.host_model.proofs.FallLemmas.{AreDueOnOpen, FallsAreWhole, due-fallen, due-mapped, due-with_object, is_closed_at, once-fallen, stands-fallen, stands-mapped, stands-with_object}

-- ---- all of it, through each small change

pub record Tidy (ns : List Note) (xs : List Object) (rs : List (Request Due)) : Type 0 where
  pub once : (n : ℕ) → times_closed n ns ≡ count_by (is_closed_at n) xs
  pub stands : AreOnOpen xs
  pub due : AreDueOnOpen xs rs

abbrev pub TidyOn : Going → Type 0
TidyOn g = Tidy g.state.notes g.state.objects (open_of g.taken g.state.requests)

-- notes that tell of no close
tidy-noted : {ns : List Note} {xs : List Object} {rs : List (Request Due)} → Tidy ns xs rs → (ms : List Note) → ((n : ℕ) → times_closed n ms ≡ 0) → Tidy (ns ++ ms) xs rs
tidy-noted {ns} {xs} {rs} h ms none =
    record { once = λ n. omega (arith, h.once n, none n, count-append (closes n) ns ms); stands = h.stands; due = h.due }

one-none : (m : Note) → ((n : ℕ) → closes n m ≡ false) → (n : ℕ) → times_closed n (m ∷ []) ≡ 0
one-none m none n = let here : one_if (closes n m) ≡ 0 = ap one_if (none n) in omega (arith, here, count-cons (closes n) m [])

tidy-one : {ns : List Note} {xs : List Object} {rs : List (Request Due)} → Tidy ns xs rs → (m : Note) → ((n : ℕ) → closes n m ≡ false) → Tidy (ns ++ m ∷ []) xs rs
tidy-one h m none = tidy-noted h (m ∷ []) (one-none m none)

tidy-requests : {ns : List Note} {xs : List Object} {rs : List (Request Due)} → Tidy ns xs rs → (qs : List (Request Due)) → AreDueOnOpen xs qs → Tidy ns xs qs
tidy-requests h qs due = record { once = h.once; stands = h.stands; due = due }

tidy-asked : {ns : List Note} {xs : List Object} (taken : List (Request Due)) (rs : List Issued) → Tidy ns xs (open_of taken rs) → (r : Request Due) → IsDueOnOpen xs r
    → Tidy ns xs (open_of taken (with_request r rs))
tidy-asked {ns} {xs} taken rs h r due =
    tidy-requests h (open_of taken (with_request r rs))
    (subst (AreDueOnOpen xs) (sym (open-more taken rs r)) (all-append (IsDueOnOpen xs) (open_of taken rs) (r ∷ []) h.due (due, tt)))

tidy-opened : {ns : List Note} {xs : List Object} {rs : List (Request Due)} → Tidy ns xs rs → (o : Object) → o.closed ≡ None → IsOnOpen xs o → Tidy (ns ++ opened o ∷ []) (with_object o xs) rs
tidy-opened {ns} {xs} {rs} h o new on =
    record {
      once = λ n.
          let here : one_if (is_closed_at n o) ≡ 0 = ap (λ c. one_if ((o.serial.0 == n) && is_some c)) new ∙ and-none (o.serial.0 == n) in
          omega (arith, here, h.once n, one-none (opened o) (λ k. refl) n, count-append (closes n) ns (opened o ∷ []), count-with_object (is_closed_at n) o xs);
      stands = stands-with_object o xs on h.stands;
      due = due-with_object o xs rs h.due;
    }
  where
    and-none : (b : Bool) → one_if (b && false) ≡ 0
    and-none true = refl
    and-none false = refl

tidy-mapped : {ns : List Note} {xs : List Object} {rs : List (Request Due)} → Tidy ns xs rs → (f : Object → Object) → ((x : Object) → IsAlike x (f x)) → ((x : Object) → (f x).closed ≡ x.closed)
    → Tidy ns (map f xs) rs
tidy-mapped {ns} {xs} {rs} h f same shut =
    record {
      once = λ n.
          omega (
            arith,
            h.once n,
            count-mapped (is_closed_at n) (is_closed_at n) f
                (λ x. ap (λ (s : Serial). (s.0 == n) && is_some (f x).closed) (same x).serial ∙ ap (λ c. (x.serial.0 == n) && is_some c) (shut x)) xs,
          );
      stands = stands-mapped f same shut xs h.stands;
      due = due-mapped f same shut xs rs h.due;
    }

tidy-owner : (calls : List CallKey) (taken : List (Request Due)) (s : State) (o : Owner) (outcome : Outcome) (names : List (List ℕ))
    → TidyOn (going calls taken s) → TidyOn (going calls taken (owner_settled o outcome names s))
tidy-owner calls taken s (owner.Call call) outcome names h = tidy-one h (note.Settled call outcome) (λ n. refl)
tidy-owner calls taken s (owner.Job call part) outcome names h = h
tidy-owner calls taken s owner.Close outcome names h = h
tidy-owner calls taken s owner.Follow outcome names h = h

closes-plain : (n : ℕ) (m : Note) → IsPlain m → closes n m ≡ false
closes-plain n (note.Closed serial name why) h = absurd h
closes-plain n other h = refl

pub marked-closed : (m : Mark) (o : Object) → (marked m o).closed ≡ o.closed
marked-closed Running o = refl
marked-closed (Paused b) o = refl
marked-closed (ProducerPaused b) o = refl
marked-closed (Far serial) o = refl

chosen-closed : (b : Bool) (o p : Object) → p.closed ≡ o.closed → (cond b p o).closed ≡ o.closed
chosen-closed true o p h = h
chosen-closed false o p h = refl

due-makes : (turn : Option Bool) (makes : Option Object) (keeps : Keep) (o : Object) (k : Keep) → due_of turn makes keeps ≡ due.Opens o k → makes ≡ Some o
due-makes turn (Some p) keeps o k e = let same : p ≡ o = cc in ap Some same
due-makes (Some paused) None keeps o k e = absurd cc
due-makes None None keeps o k e = absurd cc

-- the only object of a serial
apart : (n : ℕ) (xs : List Object) → AllByRecursion (λ (x : Object). n < x.serial.0) xs → count_by (is_closed_at n) xs ≡ 0
apart n [] h = refl
apart n (x ∷ xs) h =
    let other : (x.serial.0 == n) ≡ false = ne_eqb x.serial.0 n (λ e. omega (arith, e, h.0)) in
    let here : one_if (is_closed_at n x) ≡ 0 = ap (λ b. one_if (b && is_some x.closed)) other in
    omega (arith, here, apart n xs h.1, count-cons (is_closed_at n) x xs)

pub count-closed : (serial : Serial) (xs : List Object) → AreInOrder xs → count_by (is_closed_at serial.0) xs ≡ one_if (is_shut (numbered xs serial))
count-closed serial [] h = refl
count-closed serial (x ∷ xs) h = at (has_serial serial x) refl (count-closed serial xs h.1)
  where
    at : (b : Bool) → has_serial serial x ≡ b → count_by (is_closed_at serial.0) xs ≡ one_if (is_shut (numbered xs serial))
        → count_by (is_closed_at serial.0) (x ∷ xs) ≡ one_if (is_shut (cond b (Some x) (numbered xs serial)))
    at true e rest =
        let own : x.serial.0 ≡ serial.0 = eqb-true x.serial.0 serial.0 e in
        let here : one_if (is_closed_at serial.0 x) ≡ one_if (is_some x.closed) = ap (λ b. one_if (b && is_some x.closed)) e in
        let none = apart serial.0 xs (all-each (λ (y : Object). x.serial.0 < y.serial.0) (λ (y : Object). serial.0 < y.serial.0) (λ y l. subst (λ k. k < y.serial.0) own l) xs h.0) in
        omega (arith, here, none, count-cons (is_closed_at serial.0) x xs)
    at false e rest =
        let here : one_if (is_closed_at serial.0 x) ≡ 0 = ap (λ b. one_if (b && is_some x.closed)) e in
        omega (arith, here, rest, count-cons (is_closed_at serial.0) x xs)

module _ (b : BuildsFit) (whole : FallsAreWhole) where
  tidy-fallen : (s : State) (roots : List Serial) (why : Reason) → AreInOrder s.objects → Tidy s.notes s.objects (waiting s.requests)
      → Tidy (s.notes ++ closed_notes (with_closed (falls s.objects roots) roots why s.objects) (falls s.objects roots)) (with_closed (falls s.objects roots) roots why s.objects)
      (map done (filter (is_under (falls s.objects roots)) (waiting s.requests)) ++ waiting (settled_where (is_under (falls s.objects roots)) s.requests))
  tidy-fallen s roots why rising h =
      let down : List Serial = falls s.objects roots in
      subst (λ ys. Tidy (s.notes ++ closed_notes ys down) ys (map done (filter (is_under down) (waiting s.requests)) ++ waiting (settled_where (is_under down) s.requests)))
      (sym (whole.exactly s.objects roots why rising))
      (record {
        once = λ k. once-fallen whole s.objects roots why rising k s.notes (h.once k);
        stands = stands-fallen whole s.objects roots why h.stands;
        due = due-fallen whole s.objects roots why s.requests h.due;
      })

  tidy-change : {g h : Going} → Change g h → FitsOn g → TidyOn g → TidyOn h
  tidy-change still f t = t
  tidy-change (both x y) f t = tidy-change y (fits-change b x f) (tidy-change x f t)
  tidy-change (notes ns plain) f t = tidy-noted t ns (λ k. count-plain (closes k) (closes-plain k) ns plain)
  tidy-change (slots worker) f t = t
  tidy-change (streams xs) f t = t
  tidy-change (settles_call call outcome names) f t = tidy-one t (note.Settled call outcome) (λ k. refl)
  tidy-change (awaits a) f t = t
  tidy-change (asks_by {calls} {taken} {s} call op r channel payload is) f t =
      tidy-one
      (tidy-asked taken s.requests t (new_request channel (issued s.requests channel + 1) (owner.Call call) r.under (due_by op r))
      (λ object keeps e.
      let stands = request-stands (known s) op r is.built_is in
      let new = subst (λ o. IfSome o (IsNew (known s) r)) (due-makes (turn_of op) r.makes r.keeps object keeps e) stands.new in
      (new.parent, new.opens, stands.on_open)))
      (note.Sent channel payload) (λ k. refl)
  tidy-change (wants {calls} {taken} {s} call name budget) f t =
      tidy-one
      (tidy-opened (tidy-asked taken s.requests t (start_request call (as_serial s.next.serial)) (λ object keeps e. absurd cc)) (new_worker s name) refl (λ e p is. absurd cc))
      (note.Spawn (first_worker s.slots)) (λ k. refl)
  tidy-change (asks_to_close {calls} {taken} {s} channel parent asked left) f t =
      tidy-one
      (tidy-asked taken s.requests t (new_request channel (issued s.requests channel + 1) owner.Close parent due.Nothing) (λ object keeps e. absurd cc))
      (note.Sent channel (payload_of (method_of asked) (ids_of asked) None (issued s.requests channel + 1))) (λ k. refl)
  tidy-change (takes {calls} {taken} {s} key r e) f t =
      tidy-requests t (r ∷ open_of taken (settled_where (has_key key) s.requests)) (all-taken (IsDueOnOpen s.objects) s.requests (has_key key) taken r e t.due)
  tidy-change (takes_none {calls} {taken} {s} key e) f t =
      tidy-requests t (open_of taken (settled_where (has_key key) s.requests)) (all-settled (IsDueOnOpen s.objects) s.requests (has_key key) taken t.due)
  tidy-change (opens {calls} {taken} {s} r object keeps o is same closed) f t =
      let at = t.due.0 object keeps is in
      let now =
      tidy-opened t o (closed ∙ at.1)
      (λ e p on.
      let found : Some r.under ≡ Some p = sym at.0 ∙ sym same.parent ∙ on in
      let own : r.under ≡ p = cc in
      subst (λ q. is_open_at s.objects q ≡ true) own at.2) in
      tidy-requests now (done r ∷ open_of taken s.requests) (λ object keeps e. absurd cc, now.due.1)
  tidy-change (settles_taken {calls} {taken} {s} r outcome names) f t =
      tidy-owner calls taken s r.owner outcome names (tidy-requests t (open_of taken s.requests) t.due.1)
  tidy-change (marks {calls} {taken} {s} serial m keeps) f t =
      tidy-mapped t (λ o. cond (has_serial serial o) (marked m o) o) (λ o. chosen-alike (has_serial serial o) o (marked m o) (marked-alike m keeps o))
      (λ o. chosen-closed (has_serial serial o) o (marked m o) (marked-closed m o))
  tidy-change (falls_with {calls} {s} roots why) f t = tidy-fallen s roots why f.ascending t
  tidy-change (settles_awaits {calls} {taken} {s}) f t =
      tidy-noted t (map settled_note (settled_by (times_noted s.notes) (is_hopeless s) s.awaits))
      (λ k.
      count-mapped (closes k) (λ e. false) settled_note (λ e. refl) (settled_by (times_noted s.notes) (is_hopeless s) s.awaits)
      ∙ count-none (λ e. false) (λ e. refl) (settled_by (times_noted s.notes) (is_hopeless s) s.awaits))

  abbrev pub AreTidy : State → Type 0
  AreTidy s = FitsOn (at_rest s) × TidyOn (at_rest s)

  pub tidy-step : (s : State) (m : Micro) → AreTidy s → AreTidy (step s m)
  tidy-step s m h =
      let st = step-is s m in
      let fits = fits-entered s m st.start st.entered h.0 in
      (fits-change b st.change fits, tidy-change st.change fits (once-entered TidyOn s (λ lane. h.1) (λ worker. h.1) h.1 m st.start st.entered))

  pub tidy-start : (seed : ℕ) → AreTidy (start seed)
  tidy-start seed = (fits-start seed, record { once = λ k. refl; stands = tt; due = tt })

  tidy : (j : Journal) → AreTidy (state_of j)
  tidy j = along AreTidy tidy-step (start j.seed) j.entries (tidy-start j.seed)

  pub on-open : (j : Journal) → AreOnOpen (state_of j).objects
  on-open j = (tidy j).1.stands

  pub closed-once : (j : Journal) → EachClosesOnce (state_of j)
  closed-once j = let h = tidy j in λ serial. h.1.once serial.0 ∙ count-closed serial (state_of j).objects h.0.ascending
