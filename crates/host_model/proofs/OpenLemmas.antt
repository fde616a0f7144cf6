-- Each object has one note of its opening: through each small change.
use Rattle.std.proofs.Common.{◌≡◌, ℕ, ◌+◌, List, [], ◌∷◌, ◌++◌, length, map, nat_lt, Bool, true, false, ◌==◌, cond, Option, Some, None, refl, sym, ap, ◌∙◌, subst, arith, count_by}
use Rattle.std.specs.List.{filter}
use Rattle.std.specs.Option.{is_some, option_map}
use Rattle.std.proofs.lemmas.Bool.{eqb-true, true≢false}
use Rattle.std.proofs.lemmas.List.{append-nil}
use Rattle.std.proofs.lemmas.List.Elements.{filter-append}
use Rattle.std.proofs.lemmas.List.Sums.{length-filter}
use Rattle.ms_base.specs.declared.keys.CallKey.{CallKey}
use Rattle.ms_base.specs.declared.keys.Reason.{Reason}
use Rattle.ms_base.specs.declared.keys.Serial.{Serial}
use Rattle.ms_base.specs.declared.outcome.Outcome.{Outcome}
use Rattle.transcript.specs.declared.note.Note.{Note}
use Rattle.transcript.specs.declared.note.Note.TheVariants as note
use Rattle.object_tree.specs.declared.object.Object.{Object}
use Rattle.object_tree.specs.Falls.{closed_if, falls, with_closed}
use Rattle.object_tree.specs.Objects.{marked, numbered, with_object}
use Rattle.object_tree.specs.Objects as objects
use Rattle.pending_calls.specs.declared.waiting.Owner.{Owner}
use Rattle.pending_calls.specs.declared.waiting.Owner.TheVariants as owner
use Rattle.host_awaits.specs.Awaits.{settled_by, times_noted}
use Rattle.host_requests.specs.declared.request.Request.{Request}
use Rattle.host_model.specs.declared.due.Due.{Due}
use Rattle.host_model.specs.State.{State, start}
use Rattle.host_model.specs.Changes.{opened, owner_settled}
use Rattle.host_model.specs.Falls.{closed_for, closed_note, closed_notes}
use Rattle.host_model.specs.Fit.{BuildsFit, has_serial, one_if}
use Rattle.host_model.specs.Run.{Journal, state_of}
use Rattle.host_model.specs.Standing.{EachOpensOnce, opened_if_any, opens, times_opened}
use Rattle.host_model.specs.Step.{Micro, first_worker, is_hopeless, new_worker, settled_note, step}
use Rattle.host_model.proofs.Along.{along}
use Rattle.host_model.proofs.Changes.{Change, Going, IsPlain, at_rest, going, once-entered, step-is, still, both, notes, slots, streams, settles_call, awaits, asks_by, wants, asks_to_close, takes, takes_none, settles_taken, marks, falls_with, settles_awaits}
use Rattle.host_model.proofs.Changes as change
use Rattle.host_model.proofs.Counts.{count-append, count-cons, count-mapped, count-none, same-itself}
use Rattle.host_model.proofs.FallLemmas.{numbered-mapped}
use Rattle.host_model.proofs.FitLemmas.{FitsOn, due-new, fits-change, fits-entered, fits-start, next-new}
use Rattle.host_model.proofs.Objects.{IsAlike, chosen-alike, closed-alike, marked-alike}
use Rattle.host_model.proofs.SettleLemmas.{count-plain}

-- ---- notes that tell of no opening

length-none : {X : Type 0} (xs : List X) → length xs ≡ 0 → xs ≡ []
length-none [] h = refl
length-none (x ∷ xs) h = absurd (omega (arith, h))

none-more : (n : ℕ) (ns ms : List Note) → times_opened n ms ≡ 0 → filter (opens n) (ns ++ ms) ≡ filter (opens n) ns
none-more n ns ms none =
    filter-append (opens n) ns ms ∙ ap (λ (xs : List Note). filter (opens n) ns ++ xs) (length-none (filter (opens n) ms) (length-filter (opens n) ms ∙ none))
    ∙ append-nil (filter (opens n) ns)

opens-plain : (n : ℕ) (m : Note) → IsPlain m → opens n m ≡ false
opens-plain n (note.Open serial kind name id) h = absurd h
opens-plain n other h = refl

closed-opens : (n : ℕ) (o : Option Object) → times_opened n (closed_note o) ≡ 0
closed-opens n None = refl
closed-opens n (Some o) = at o.closed
  where
    at : (r : Option Reason) → times_opened n (closed_for o r) ≡ 0
    at None = refl
    at (Some why) = refl

fallen-open : (n : ℕ) (xs : List Object) (serials : List Serial) → times_opened n (closed_notes xs serials) ≡ 0
fallen-open n xs [] = refl
fallen-open n xs (serial ∷ serials) =
    omega (
      arith,
      closed-opens n (numbered xs serial),
      fallen-open n xs serials,
      count-append (opens n) (closed_note (numbered xs serial)) (closed_notes xs serials),
    )

-- ---- objects that come, and that change

one-zero : (b : Bool) (n : ℕ) → one_if b + n ≡ 0 → (b ≡ false) × (n ≡ 0)
one-zero true n e = absurd (omega (arith, e))
one-zero false n e = (refl, omega (arith, e))

none-cons : (n : ℕ) (x : Object) (xs : List Object) → count_by (has_serial n) (x ∷ xs) ≡ 0 → (has_serial n x ≡ false) × (count_by (has_serial n) xs ≡ 0)
none-cons n x xs e = one-zero (has_serial n x) (count_by (has_serial n) xs) (sym (count-cons (has_serial n) x xs) ∙ e)

none-numbered : (serial : Serial) (xs : List Object) → count_by (has_serial serial.0) xs ≡ 0 → numbered xs serial ≡ None
none-numbered serial [] h = refl
none-numbered serial (x ∷ xs) h =
    let parts = none-cons serial.0 x xs h in
    ap (λ b. cond b (Some x) (numbered xs serial)) parts.0 ∙ none-numbered serial xs parts.1

abbrev own_note : Serial → Object → List Note
own_note serial o = filter (opens serial.0) (opened o ∷ [])

numbered-more : (serial : Serial) (o : Object) (xs : List Object) → count_by (has_serial o.serial.0) xs ≡ 0
    → opened_if_any (numbered (with_object o xs) serial) ≡ opened_if_any (numbered xs serial) ++ own_note serial o
numbered-more serial o [] none = at (has_serial serial.0 o)
  where
    at : (b : Bool) → opened_if_any (cond b (Some o) None) ≡ [] ++ cond b (opened o ∷ []) []
    at true = refl
    at false = refl
numbered-more serial o (x ∷ xs) none = at (nat_lt o.serial.0 x.serial.0) (numbered-more serial o xs (none-cons o.serial.0 x xs none).1)
  where
    here : (b : Bool) → has_serial serial.0 o ≡ b
        → opened_if_any (cond b (Some o) (numbered (x ∷ xs) serial)) ≡ opened_if_any (numbered (x ∷ xs) serial) ++ cond b (opened o ∷ []) []
    here true e =
        let own : o.serial.0 ≡ serial.0 = eqb-true o.serial.0 serial.0 e in
        let gone : numbered (x ∷ xs) serial ≡ None = none-numbered serial (x ∷ xs) (subst (λ n. count_by (has_serial n) (x ∷ xs) ≡ 0) own none) in
        sym (ap (λ p. opened_if_any p ++ opened o ∷ []) gone)
    here false e = sym (append-nil (opened_if_any (numbered (x ∷ xs) serial)))

    apart : has_serial serial.0 x ≡ true → has_serial serial.0 o ≡ true → ⊥
    apart e k =
        let same : x.serial.0 ≡ o.serial.0 = eqb-true x.serial.0 serial.0 e ∙ sym (eqb-true o.serial.0 serial.0 k) in
        true≢false (sym (ap (λ n. n == o.serial.0) same ∙ same-itself o.serial.0) ∙ (none-cons o.serial.0 x xs none).0)

    found : (b : Bool) → has_serial serial.0 o ≡ b → has_serial serial.0 x ≡ true → opened x ∷ [] ≡ opened x ∷ cond b (opened o ∷ []) []
    found true k e = absurd (apart e k)
    found false k e = refl

    later : (b : Bool) → has_serial serial.0 x ≡ b → opened_if_any (numbered (with_object o xs) serial) ≡ opened_if_any (numbered xs serial) ++ own_note serial o
        → opened_if_any (cond b (Some x) (numbered (with_object o xs) serial)) ≡ opened_if_any (cond b (Some x) (numbered xs serial)) ++ own_note serial o
    later true e rest = found (has_serial serial.0 o) refl e
    later false e rest = rest

    at : (b : Bool) → opened_if_any (numbered (with_object o xs) serial) ≡ opened_if_any (numbered xs serial) ++ own_note serial o
        → opened_if_any (numbered (cond b (o ∷ x ∷ xs) (x ∷ with_object o xs)) serial) ≡ opened_if_any (numbered (x ∷ xs) serial) ++ own_note serial o
    at true rest = here (has_serial serial.0 o) refl
    at false rest = later (has_serial serial.0 x) refl rest

opened-alike : (a b : Object) → IsAlike a b → opened b ≡ opened a
opened-alike a b same = λ i. note.Open (same.serial i) (same.kind i) (same.name i) (same.id i)

numbered-alike : (f : Object → Object) → ((x : Object) → IsAlike x (f x)) → (xs : List Object) (serial : Serial)
    → opened_if_any (numbered (map f xs) serial) ≡ opened_if_any (numbered xs serial)
numbered-alike f same xs serial = ap opened_if_any (numbered-mapped f (λ x. (same x).serial) xs serial) ∙ at (numbered xs serial)
  where
    at : (o : Option Object) → opened_if_any (option_map f o) ≡ opened_if_any o
    at None = refl
    at (Some x) = ap (λ n. n ∷ []) (opened-alike x (f x) (same x))

-- ---- each small change

record OpenedIn (ns : List Note) (xs : List Object) : Type 0 where
  each : EachOpensOnce ns xs

opens-noted : {ns : List Note} {xs : List Object} → OpenedIn ns xs → (ms : List Note) → ((n : ℕ) → times_opened n ms ≡ 0) → OpenedIn (ns ++ ms) xs
opens-noted {ns} h ms none = record { each = λ serial. none-more serial.0 ns ms (none serial.0) ∙ h.each serial }

opens-more : {ns : List Note} {xs : List Object} → OpenedIn ns xs → (o : Object) → count_by (has_serial o.serial.0) xs ≡ 0
    → OpenedIn (ns ++ opened o ∷ []) (with_object o xs)
opens-more {ns} {xs} h o none =
    record {
      each = λ serial.
          filter-append (opens serial.0) ns (opened o ∷ []) ∙ ap (λ (ms : List Note). ms ++ own_note serial o) (h.each serial) ∙ sym (numbered-more serial o xs none);
    }

opens-mapped : {ns : List Note} {xs : List Object} → OpenedIn ns xs → (f : Object → Object) → ((x : Object) → IsAlike x (f x)) → OpenedIn ns (map f xs)
opens-mapped {ns} {xs} h f same = record { each = λ serial. h.each serial ∙ sym (numbered-alike f same xs serial) }

abbrev OpensOn : Going → Type 0
OpensOn g = OpenedIn g.state.notes g.state.objects

opens-owner : (calls : List CallKey) (taken : List (Request Due)) (s : State) (o : Owner) (outcome : Outcome) (names : List (List ℕ))
    → OpensOn (going calls taken s) → OpensOn (going calls taken (owner_settled o outcome names s))
opens-owner calls taken s (owner.Call call) outcome names h = opens-noted h (note.Settled call outcome ∷ []) (λ n. refl)
opens-owner calls taken s (owner.Job call part) outcome names h = h
opens-owner calls taken s owner.Close outcome names h = h
opens-owner calls taken s owner.Follow outcome names h = h

module _ (b : BuildsFit) where
  opens-change : {g h : Going} → Change g h → FitsOn g → OpensOn g → OpensOn h
  opens-change still f h = h
  opens-change (both x y) f h = opens-change y (fits-change b x f) (opens-change x f h)
  opens-change (notes ns plain) f h = opens-noted h ns (λ n. count-plain (opens n) (opens-plain n) ns plain)
  opens-change (slots worker) f h = h
  opens-change (streams xs) f h = h
  opens-change (settles_call call outcome names) f h = opens-noted h (note.Settled call outcome ∷ []) (λ n. refl)
  opens-change (awaits a) f h = h
  opens-change (asks_by call op r channel payload is) f h = opens-noted h (note.Sent channel payload ∷ []) (λ n. refl)
  opens-change (wants {calls} {taken} {s} call name budget) f h =
      opens-noted (opens-more h (new_worker s name) (next-new f)) (note.Spawn (first_worker s.slots) ∷ []) (λ n. refl)
  opens-change (asks_to_close channel parent asked left) f h = opens-noted h (note.Sent channel _ ∷ []) (λ n. refl)
  opens-change (takes key r e) f h = h
  opens-change (takes_none key e) f h = h
  opens-change (change.opens r object keeps o is same closed) f h = opens-more h o (due-new r object keeps o f is same)
  opens-change (settles_taken {calls} {taken} {s} r outcome names) f h = opens-owner calls taken s r.owner outcome names h
  opens-change (marks {calls} {taken} {s} serial m keeps) f h =
      opens-mapped h (λ o. cond (objects.has_serial serial o) (marked m o) o) (λ o. chosen-alike (objects.has_serial serial o) o (marked m o) (marked-alike m keeps o))
  opens-change (falls_with {calls} {s} roots why) f h =
      let down : List Serial = falls s.objects roots in
      opens-noted (opens-mapped h (closed_if s.objects down roots why) (closed-alike s.objects down roots why)) (closed_notes (with_closed down roots why s.objects) down)
      (λ n. fallen-open n (with_closed down roots why s.objects) down)
  opens-change (settles_awaits {calls} {taken} {s}) f h =
      let settled = settled_by (times_noted s.notes) (is_hopeless s) s.awaits in
      opens-noted h (map settled_note settled) (λ n. count-mapped (opens n) (λ e. false) settled_note (λ e. refl) settled ∙ count-none (λ e. false) (λ e. refl) settled)

  abbrev Opens : State → Type 0
  Opens s = FitsOn (at_rest s) × OpensOn (at_rest s)

  opens-step : (s : State) (m : Micro) → Opens s → Opens (step s m)
  opens-step s m h =
      let st = step-is s m in
      let fits = fits-entered s m st.start st.entered h.0 in
      (fits-change b st.change fits, opens-change st.change fits (once-entered OpensOn s (λ lane. h.1) (λ worker. h.1) h.1 m st.start st.entered))

  pub opened-once : (j : Journal) → EachOpensOnce (state_of j).notes (state_of j).objects
  opened-once j = (along Opens opens-step (start j.seed) j.entries (fits-start j.seed, record { each = λ serial. refl })).1.each

  pub opened-times : (j : Journal) (serial : Serial) → times_opened serial.0 (state_of j).notes ≡ one_if (is_some (numbered (state_of j).objects serial))
  opened-times j serial =
      sym (length-filter (opens serial.0) (state_of j).notes) ∙ ap (λ (ns : List Note). length ns) (opened-once j serial) ∙ at (numbered (state_of j).objects serial)
    where
      at : (o : Option Object) → length (opened_if_any o) ≡ one_if (is_some o)
      at None = refl
      at (Some o) = refl
