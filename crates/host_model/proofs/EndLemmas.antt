-- A slot is over exactly where its Worker is closed: through each small change.
use Rattle.std.proofs.Common.{◌≡◌, ◌≤◌, ℕ, zero, suc, ◌+◌, List, [], ◌∷◌, ◌++◌, length, map, nat_le, Bool, true, false, not, ◌&&◌, ◌||◌, ◌==◌, cond, None, refl, sym, ap, ◌∙◌, subst, arith, count_by}
use Rattle.std.specs.Bool.{⊤}
use Rattle.std.specs.List.{AllByRecursion, list_any}
use Rattle.std.specs.Option.{is_some}
use Rattle.std.proofs.lemmas.Bool.{and_parts, eqb-true, true≢false}
use Rattle.std.proofs.lemmas.Bool.Decides.{nat_tests}
use Rattle.std.proofs.lemmas.List.{length-map, length_push}
use Rattle.ms_base.specs.declared.entry.Entry.{Entry}
use Rattle.ms_base.specs.declared.entry.Entry.TheVariants as entry
use Rattle.ms_base.specs.declared.keys.Reason.{Reason}
use Rattle.ms_base.specs.declared.keys.Serial.{Serial}
use Rattle.ms_base.specs.declared.keys.WorkerKey.{WorkerKey}
use Rattle.ms_base.specs.declared.outcome.Outcome.{Outcome}
use Rattle.channel_frames.specs.Frames.{new_frames}
use Rattle.channel_msgs.specs.Read.{message_of}
use Rattle.object_tree.specs.declared.object.Mark.{Mark}
use Rattle.object_tree.specs.declared.object.Mark.TheVariants.{Running, Paused, ProducerPaused, Far}
use Rattle.object_tree.specs.declared.object.Object.{Object}
use Rattle.object_tree.specs.Falls.{closed_by, closed_if, falls, is_among, reason_of, with_closed}
use Rattle.object_tree.specs.Objects.{has_serial, marked, numbered, with_object}
use Rattle.pending_calls.specs.declared.waiting.Owner.{Owner}
use Rattle.pending_calls.specs.declared.waiting.Owner.TheVariants as owner
use Rattle.request_build.specs.declared.built.Keep.{Keep}
use Rattle.host_notes.specs.Keys.{same_worker}
use Rattle.host_model.specs.declared.due.Due.TheVariants as due
use Rattle.host_model.specs.State.{State, Slot, Phase, Wanted, Up, Over, is_up, is_wanted, is_wanted_phase, start, stream_of, up_if, with_up}
use Rattle.host_model.specs.Changes.{owner_settled}
use Rattle.host_model.specs.Falls.{is_death, over_if}
use Rattle.host_model.specs.Fit.{BuildsFit, one_if}
use Rattle.host_model.specs.Fit as fit
use Rattle.host_model.specs.Laws.{is_shut}
use Rattle.host_model.specs.Run.{Journal, after, after_all, break_behind, breaks_with, chunk_micros, state_of}
use Rattle.host_model.specs.Standing.{EndsWithWorker, SlotsEndWithWorkers, is_over_phase}
use Rattle.host_model.specs.Step.{Micro, Calls, Awaits, Starting, Says, Breaks, first_worker, new_slot, new_worker, step, steps}
use Rattle.host_model.specs.Workers.{HasItsWorker, is_worker_at}
use Rattle.host_model.proofs.Changes.{Change, Going, at_rest, going, once-entered, step-is, Entered, by_call, by_await, by_start, quietly, still, both, notes, slots, streams, settles_call, awaits, asks_by, wants, asks_to_close, takes, takes_none, opens, settles_taken, marks, falls_with, settles_awaits}
use Rattle.host_model.proofs.CloseLemmas.{count-closed, marked-closed}
use Rattle.host_model.proofs.Counts.{all-append, all-each, count-cons, count-mapped, count-push}
use Rattle.host_model.proofs.FallLemmas.{is_closed_at}
use Rattle.host_model.proofs.FitLemmas.{FitsOn, fits-change, fits-entered, fits-start, most-one, next-new}
use Rattle.host_model.proofs.HeldLemmas.{BuildsKept}
use Rattle.host_model.proofs.KeptLemmas.{IsKeptDue, KeptOn, kept-change, kept-entered, kept-start}
use Rattle.host_model.proofs.Objects.{count-with_object}
use Rattle.host_model.proofs.WorkerLemmas.{BuildsNew, WorkersOn, workers-change}

-- ---- the keys of slots

-- a key is that of one slot at most, whose number is one of those of all slots
abbrev HasKeys : List Slot → Type 0
HasKeys xs = (worker : WorkerKey) → count_by (λ (x : Slot). same_worker x.key worker) xs ≤ one_if (nat_le worker.slot (length xs))

keys-more : (xs : List Slot) (x : Slot) → x.key ≡ first_worker xs → HasKeys xs → HasKeys (xs ++ x ∷ [])
keys-more xs x own h = λ worker.
    let here : one_if (same_worker x.key worker) ≡ one_if (same_worker (first_worker xs) worker) = ap (λ (k : WorkerKey). one_if (same_worker k worker)) own in
    let far : one_if (nat_le worker.slot (length xs + 1)) ≡ one_if (nat_le worker.slot (length (xs ++ x ∷ []))) =
    ap (λ n. one_if (nat_le worker.slot n)) (sym (length_push xs x)) in
    omega (arith, h worker, here, far, count-push (λ (y : Slot). same_worker y.key worker) xs x, last (length xs) worker.slot (1 == worker.generation))
  where
    last : (n m : ℕ) (b : Bool) → one_if (nat_le m n) + one_if ((n + 1 == m) && b) ≤ one_if (nat_le m (n + 1))
    last n m true = grind (arith, nat_tests)
    last n m false = grind (arith, nat_tests)

keys-mapped : (f : Slot → Slot) → ((x : Slot) → (f x).key ≡ x.key) → (xs : List Slot) → HasKeys xs → HasKeys (map f xs)
keys-mapped f same xs h = λ worker.
    let far : one_if (nat_le worker.slot (length xs)) ≡ one_if (nat_le worker.slot (length (map f xs))) = ap (λ n. one_if (nat_le worker.slot n)) (sym (length-map xs f)) in
    omega (
      arith,
      h worker,
      far,
      count-mapped (λ (x : Slot). same_worker x.key worker) (λ (x : Slot). same_worker x.key worker) f (λ x. ap (λ (k : WorkerKey). same_worker k worker) (same x)) xs,
    )

-- where the start of a worker is wanted, that of each slot of its key is
module _ {X : Type 0} (p w : X → Bool) where
  none-passes : (xs : List X) → count_by p xs ≡ 0 → AllByRecursion (λ (x : X). p x ≡ true → w x ≡ true) xs
  none-passes [] e = tt
  none-passes (x ∷ xs) e = (
    λ t. let one : one_if (p x) ≡ 1 = ap one_if t in absurd (omega (arith, e, one, count-cons p x xs)),
    none-passes xs (omega (arith, e, count-cons p x xs)),
  )

  none-both : (xs : List X) → count_by p xs ≡ 0 → list_any (λ x. p x && w x) xs ≡ false
  none-both [] e = refl
  none-both (x ∷ xs) e = at (p x) refl (none-both xs (omega (arith, e, count-cons p x xs)))
    where
      at : (b : Bool) → p x ≡ b → list_any (λ y. p y && w y) xs ≡ false → ((b && w x) || list_any (λ y. p y && w y) xs) ≡ false
      at true t later = let one : one_if (p x) ≡ 1 = ap one_if t in absurd (omega (arith, e, one, count-cons p x xs))
      at false t later = later

  pub only-one : (xs : List X) → count_by p xs ≤ 1 → list_any (λ x. p x && w x) xs ≡ true → AllByRecursion (λ (x : X). p x ≡ true → w x ≡ true) xs
  only-one [] few there = tt
  only-one (x ∷ xs) few there = at (p x) (w x) refl refl there (only-one xs)
    where
      at : (a b : Bool) → p x ≡ a → w x ≡ b → ((a && b) || list_any (λ y. p y && w y) xs) ≡ true
          → (count_by p xs ≤ 1 → list_any (λ y. p y && w y) xs ≡ true → AllByRecursion (λ (y : X). p y ≡ true → w y ≡ true) xs)
          → AllByRecursion (λ (y : X). p y ≡ true → w y ≡ true) (x ∷ xs)
      at true true t u any later =
          let one : one_if (p x) ≡ 1 = ap one_if t in (λ v. u, none-passes xs (omega (arith, few, one, count-cons p x xs)))
      at true false t u any later =
          let one : one_if (p x) ≡ 1 = ap one_if t in absurd (true≢false (sym any ∙ none-both xs (omega (arith, few, one, count-cons p x xs))))
      at false b t u any later = (λ v. absurd (true≢false (sym v ∙ t)), later (omega (arith, few, count-cons p x xs)) any)

-- ---- a slot and its Worker

-- so often a closed object has the serial of its Worker as the slot is over
abbrev Ends : List Object → Slot → Type 0
Ends os x = one_if (is_over_phase x.phase) ≡ count_by (is_closed_at x.worker.0) os

abbrev AllEnd : List Object → List Slot → Type 0
AllEnd os xs = AllByRecursion (Ends os) xs

no-more : (x : Slot) (os ps : List Object) → count_by (is_closed_at x.worker.0) ps ≡ count_by (is_closed_at x.worker.0) os → Ends os x → Ends ps x
no-more x os ps same h = h ∙ sym same

-- an open object more
ends-opened : (o : Object) (os : List Object) (xs : List Slot) → o.closed ≡ None → AllEnd os xs → AllEnd (with_object o os) xs
ends-opened o os xs opened h =
    all-each (Ends os) (Ends (with_object o os))
    (λ x k.
    let none : one_if (is_closed_at x.worker.0 o) ≡ 0 = ap (λ c. one_if ((o.serial.0 == x.worker.0) && is_some c)) opened ∙ and-none (o.serial.0 == x.worker.0) in
    omega (arith, k, none, count-with_object (is_closed_at x.worker.0) o os))
    xs h
  where
    and-none : (b : Bool) → one_if (b && false) ≡ 0
    and-none true = refl
    and-none false = refl

ends-marked : (serial : Serial) (m : Mark) (os : List Object) (xs : List Slot) → AllEnd os xs → AllEnd (map (λ o. cond (has_serial serial o) (marked m o) o) os) xs
ends-marked serial m os xs h =
    all-each (Ends os) (Ends (map (λ o. cond (has_serial serial o) (marked m o) o) os))
    (λ x k. no-more x os (map (λ o. cond (has_serial serial o) (marked m o) o) os)
    (count-mapped (is_closed_at x.worker.0) (is_closed_at x.worker.0) (λ o. cond (has_serial serial o) (marked m o) o) (λ o. same x.worker.0 o (has_serial serial o)) os) k)
    xs h
  where
    kept : (mark : Mark) (o : Object) → (marked mark o).serial ≡ o.serial
    kept Running o = refl
    kept (Paused b) o = refl
    kept (ProducerPaused b) o = refl
    kept (Far far) o = refl

    same : (n : ℕ) (o : Object) (b : Bool) → is_closed_at n (cond b (marked m o) o) ≡ is_closed_at n o
    same n o true = ap (λ (s : Serial). (s.0 == n) && is_some (marked m o).closed) (kept m o) ∙ ap (λ c. (o.serial.0 == n) && is_some c) (marked-closed m o)
    same n o false = refl

-- of a serial that falls each object is closed then
closed-fallen : (objects : List Object) (down roots : List Serial) (why : Reason) (serial : Serial) (os : List Object)
    → count_by (is_closed_at serial.0) (map (closed_if objects down roots why) os)
    ≡ cond (is_among down serial) (count_by (fit.has_serial serial.0) os) (count_by (is_closed_at serial.0) os)
closed-fallen objects down roots why serial [] = at (is_among down serial)
  where
    at : (b : Bool) → zero ≡ cond b zero zero
    at true = refl
    at false = refl
closed-fallen objects down roots why serial (o ∷ os) =
    count-cons (is_closed_at serial.0) (closed_if objects down roots why o) (map (closed_if objects down roots why) os)
    ∙ ap (λ n. one_if (is_closed_at serial.0 (closed_if objects down roots why o)) + n) (closed-fallen objects down roots why serial os)
    ∙ ap (λ n. n + cond (is_among down serial) (count_by (fit.has_serial serial.0) os) (count_by (is_closed_at serial.0) os)) (closed (o.serial.0 == serial.0) (is_some o.closed) (is_among down o.serial) refl refl refl)
    ∙ joined (is_among down serial)
  where
    among : (o.serial.0 == serial.0) ≡ true → is_among down o.serial ≡ is_among down serial
    among t = let e = eqb-true o.serial.0 serial.0 t in ap (is_among down) (λ i. record { 0 = e i })

    none : (b : Bool) → zero ≡ cond b zero zero
    none true = refl
    none false = refl

    one : (b : Bool) → suc zero ≡ cond b (suc zero) (suc zero)
    one true = refl
    one false = refl

    closed : (a c d : Bool) → (o.serial.0 == serial.0) ≡ a → is_some o.closed ≡ c → is_among down o.serial ≡ d
        → one_if (is_closed_at serial.0 (cond (not c && d) (closed_by (reason_of objects down roots why o) o) o)) ≡ cond (is_among down serial) (one_if a) (one_if (a && c))
    closed false false true h k l = ap (λ x. one_if (x && true)) h ∙ none (is_among down serial)
    closed false false false h k l = ap (λ x. one_if (x && is_some o.closed)) h ∙ none (is_among down serial)
    closed false true d h k l = ap (λ x. one_if (x && is_some o.closed)) h ∙ none (is_among down serial)
    closed true false true h k l = ap (λ x. one_if (x && true)) h ∙ ap (λ x. cond x 1 0) (sym l ∙ among h)
    closed true false false h k l = ap (λ x. one_if (x && is_some o.closed)) h ∙ ap one_if k ∙ ap (λ x. cond x 1 0) (sym l ∙ among h)
    closed true true d h k l = ap (λ x. one_if (x && is_some o.closed)) h ∙ ap one_if k ∙ one (is_among down serial)

    joined : (b : Bool) → cond b (one_if (o.serial.0 == serial.0)) (one_if (is_closed_at serial.0 o)) + cond b (count_by (fit.has_serial serial.0) os) (count_by (is_closed_at serial.0) os)
        ≡ cond b (count_by (fit.has_serial serial.0) (o ∷ os)) (count_by (is_closed_at serial.0) (o ∷ os))
    joined true = sym (count-cons (fit.has_serial serial.0) o os)
    joined false = sym (count-cons (is_closed_at serial.0) o os)

-- the Worker of a slot is in the tree, once
worker-once : {os : List Object} {ws : List _} {t : _} {next : _} → fit.Fits os ws t next → (x : Slot) → HasItsWorker os x → count_by (fit.has_serial x.worker.0) os ≡ 1
worker-once {os} {ws} {t} {next} h x there = omega (arith, h.drawn_once x.worker.0, most-one x.worker.0 next.serial, some os there)
  where
    own : (o : Object) → is_worker_at x.worker o ≡ true → (o.serial.0 == x.worker.0) ≡ true
    own o t = (and_parts (o.serial.0 == x.worker.0) _ (and_parts _ _ t).0).0

    some : (xs : List Object) → list_any (is_worker_at x.worker) xs ≡ true → 1 ≤ count_by (fit.has_serial x.worker.0) xs
    some [] e = absurd (true≢false (sym e))
    some (o ∷ xs) e = at (is_worker_at x.worker o) refl e (some xs)
      where
        at : (b : Bool) → is_worker_at x.worker o ≡ b → (b || list_any (is_worker_at x.worker) xs) ≡ true
            → (list_any (is_worker_at x.worker) xs ≡ true → 1 ≤ count_by (fit.has_serial x.worker.0) xs) → 1 ≤ count_by (fit.has_serial x.worker.0) (o ∷ xs)
        at true t any later = let one : one_if (fit.has_serial x.worker.0 o) ≡ 1 = ap one_if (own o t) in omega (arith, one, count-cons (fit.has_serial x.worker.0) o xs)
        at false t any later = omega (arith, later any, count-cons (fit.has_serial x.worker.0) o xs)

ends-fallen : {os : List Object} {ws : List _} {t : _} {next : _} → fit.Fits os ws t next → (xs : List Slot) → AllByRecursion (HasItsWorker os) xs → AllEnd os xs
    → (down roots : List Serial) (why : Reason) → AllEnd (with_closed down roots why os) (map (over_if down why) xs)
ends-fallen {os} h [] there k down roots why = tt
ends-fallen {os} h (x ∷ xs) there k down roots why = (
  at (is_among down x.worker) (closed-fallen os down roots why x.worker os),
  ends-fallen h xs there.1 k.1 down roots why,
)
  where
    at : (b : Bool) → count_by (is_closed_at x.worker.0) (with_closed down roots why os) ≡ cond b (count_by (fit.has_serial x.worker.0) os) (count_by (is_closed_at x.worker.0) os)
        → one_if (is_over_phase (cond b (Over (is_death why)) x.phase)) ≡ count_by (is_closed_at x.worker.0) (with_closed down roots why os)
    at true e = sym (e ∙ worker-once h x there.0)
    at false e = k.0 ∙ sym e

-- a start that is wanted
ends-started : (os : List Object) (worker : WorkerKey) (xs : List Slot) → HasKeys xs → is_wanted xs worker ≡ true → AllEnd os xs → AllEnd os (with_up worker xs)
ends-started os worker xs keys wanted h =
    let few : count_by (λ (x : Slot). same_worker x.key worker) xs ≤ 1 = omega (arith, keys worker, at_most (nat_le worker.slot (length xs))) in
    one-by-one xs (only-one (λ (x : Slot). same_worker x.key worker) (λ (x : Slot). is_wanted_phase x.phase) xs few wanted) h
  where
    at_most : (b : Bool) → one_if b ≤ 1
    at_most true = omega arith
    at_most false = omega arith

    not-over : (p : Phase) → is_wanted_phase p ≡ true → is_over_phase p ≡ false
    not-over Wanted t = refl
    not-over Up t = refl
    not-over (Over died) t = absurd (true≢false (sym t))

    up : (x : Slot) (b : Bool) → same_worker x.key worker ≡ b → (same_worker x.key worker ≡ true → is_wanted_phase x.phase ≡ true)
        → one_if (is_over_phase (cond b Up x.phase)) ≡ one_if (is_over_phase x.phase)
    up x true t only = sym (ap one_if (not-over x.phase (only t)))
    up x false t only = refl

    one-by-one : (ys : List Slot) → AllByRecursion (λ (x : Slot). same_worker x.key worker ≡ true → is_wanted_phase x.phase ≡ true) ys → AllEnd os ys → AllEnd os (with_up worker ys)
    one-by-one [] only k = tt
    one-by-one (y ∷ ys) only k = (up y (same_worker y.key worker) refl only.0 ∙ k.0, one-by-one ys only.1 k.1)

-- ---- each small change

record EndsOn (g : Going) : Type 0 where
  keys : HasKeys g.state.slots
  ends : AllEnd g.state.objects g.state.slots
  -- a start in hand is wanted
  wanted : AllByRecursion (λ (worker : WorkerKey). is_wanted g.state.slots worker ≡ true) g.starts

abbrev EndsIn : State → Type 0
EndsIn s = EndsOn (at_rest s)

ends-owner : (calls : List _) (taken : List _) (s : State) (o : Owner) (outcome : Outcome) (names : List (List ℕ)) → HasKeys s.slots → AllEnd s.objects s.slots
    → EndsOn (going calls taken (owner_settled o outcome names s))
ends-owner calls taken s (owner.Call call) outcome names keys ends = record { keys = keys; ends = ends; wanted = tt }
ends-owner calls taken s (owner.Job call part) outcome names keys ends = record { keys = keys; ends = ends; wanted = tt }
ends-owner calls taken s owner.Close outcome names keys ends = record { keys = keys; ends = ends; wanted = tt }
ends-owner calls taken s owner.Follow outcome names keys ends = record { keys = keys; ends = ends; wanted = tt }

due-opens : (object : Object) (keeps : Keep) → IsKeptDue (due.Opens object keeps) → object.closed ≡ None
due-opens object keeps h = h.1

module _ (b : BuildsFit) (new : BuildsNew) (k : BuildsKept) where
  ends-change : {g h : Going} → Change g h → FitsOn g → WorkersOn g → KeptOn g → EndsOn g → EndsOn h
  ends-change still f w kept e = e
  ends-change (both x y) f w kept e = ends-change y (fits-change b x f) (workers-change new x w) (kept-change b new k x f kept) (ends-change x f w kept e)
  ends-change (notes ns plain) f w kept e = record { keys = e.keys; ends = e.ends; wanted = tt }
  ends-change (slots {s} worker) f w kept e =
      record { keys = keys-mapped (up_if worker) (λ x. refl) s.slots e.keys; ends = ends-started s.objects worker s.slots e.keys e.wanted.0 e.ends; wanted = tt }
  ends-change (streams xs) f w kept e = record { keys = e.keys; ends = e.ends; wanted = tt }
  ends-change (settles_call call outcome names) f w kept e = record { keys = e.keys; ends = e.ends; wanted = tt }
  ends-change (awaits a) f w kept e = record { keys = e.keys; ends = e.ends; wanted = tt }
  ends-change (asks_by call op r channel payload is) f w kept e = record { keys = e.keys; ends = e.ends; wanted = tt }
  ends-change (wants {calls} {taken} {s} call name budget) f w kept e =
      let x : Slot = new_slot s name budget in
      let more : List Object = with_object (new_worker s name) s.objects in
      let none : count_by (is_closed_at s.next.serial) more ≡ 0 =
      omega (
        arith,
        next-new f,
        few-closed s.next.serial s.objects,
        count-with_object (is_closed_at s.next.serial) (new_worker s name) s.objects,
        none-with (s.next.serial == s.next.serial),
      ) in
      record {
        keys = keys-more s.slots x refl e.keys;
        ends = all-append (Ends more) s.slots (x ∷ []) (ends-opened (new_worker s name) s.objects s.slots refl e.ends) (sym none, tt);
        wanted = tt;
      }
    where
      none-with : (c : Bool) → one_if (c && false) ≡ 0
      none-with true = refl
      none-with false = refl

      few-closed : (n : ℕ) (os : List Object) → count_by (is_closed_at n) os ≤ count_by (fit.has_serial n) os
      few-closed n [] = omega arith
      few-closed n (o ∷ os) = omega (arith, one (o.serial.0 == n) (is_some o.closed), few-closed n os, count-cons (is_closed_at n) o os, count-cons (fit.has_serial n) o os)
        where
          one : (c d : Bool) → one_if (c && d) ≤ one_if c
          one true true = omega arith
          one true false = omega arith
          one false d = omega arith
  ends-change (asks_to_close channel parent asked left) f w kept e = record { keys = e.keys; ends = e.ends; wanted = tt }
  ends-change (takes key r is) f w kept e = record { keys = e.keys; ends = e.ends; wanted = tt }
  ends-change (takes_none key is) f w kept e = record { keys = e.keys; ends = e.ends; wanted = tt }
  ends-change (opens {calls} {taken} {s} r object keeps o is same closed) f w kept e =
      record { keys = e.keys; ends = ends-opened o s.objects s.slots (closed ∙ due-opens object keeps (subst IsKeptDue is kept.due.0)) e.ends; wanted = tt }
  ends-change (settles_taken {calls} {taken} {s} r outcome names) f w kept e = ends-owner calls taken s r.owner outcome names e.keys e.ends
  ends-change (marks {calls} {taken} {s} serial m keeps) f w kept e = record { keys = e.keys; ends = ends-marked serial m s.objects s.slots e.ends; wanted = tt }
  ends-change (falls_with {calls} {s} roots why) f w kept e =
      let down : List Serial = falls s.objects roots in
      record {
        keys = keys-mapped (over_if down why) (λ x. refl) s.slots e.keys;
        ends = ends-fallen f s.slots w.workers e.ends down roots why;
        wanted = tt;
      }
  ends-change settles_awaits f w kept e = record { keys = e.keys; ends = e.ends; wanted = tt }

  -- ---- micro steps of entries: a start is one that is wanted

  abbrev AllHold : State → Type 0
  AllHold s = FitsOn (at_rest s) × WorkersOn (at_rest s) × KeptOn (at_rest s) × EndsOn (at_rest s)

  abbrev IsMet : State → Micro → Type 0
  IsMet s (Starting worker) = is_wanted s.slots worker ≡ true
  IsMet s other = ⊤

  ends-entered : (s : State) (m : Micro) (g : Going) → Entered s m g → IsMet s m → EndsOn (at_rest s) → EndsOn g
  ends-entered s m g (by_call lane op) met e = record { keys = e.keys; ends = e.ends; wanted = tt }
  ends-entered s m g (by_await lane name event count) met e = record { keys = e.keys; ends = e.ends; wanted = tt }
  ends-entered s m g (by_start worker) met e = record { keys = e.keys; ends = e.ends; wanted = (met, tt) }
  ends-entered s m g (quietly n q) met e = e

  all-step : (s : State) (m : Micro) → IsMet s m → AllHold s → AllHold (step s m)
  all-step s m met h =
      let st = step-is s m in
      let fits = fits-entered s m st.start st.entered h.0 in
      let workers = once-entered WorkersOn s (λ lane. h.1) (λ worker. h.1) h.1 m st.start st.entered in
      let kept = kept-entered s m st.start st.entered h.2 in
      let ends = ends-entered s m st.start st.entered met h.3 in
      (fits-change b st.change fits, workers-change new st.change workers, kept-change b new k st.change fits kept, ends-change st.change fits workers kept ends)

  -- no start
  abbrev IsCalm : Micro → Type 0
  IsCalm (Starting worker) = ⊥
  IsCalm other = ⊤

  calm-met : (s : State) (m : Micro) → IsCalm m → IsMet s m
  calm-met s (Starting worker) calm = absurd calm
  calm-met s other calm = tt

  calm-steps : (s : State) (ms : List Micro) → AllByRecursion IsCalm ms → AllHold s → AllHold (steps s ms)
  calm-steps s [] calm h = h
  calm-steps s (m ∷ ms) calm h = calm-steps (step s m) ms calm.1 (all-step s m (calm-met s m calm.0) h)

  module _ (s : State) (worker : WorkerKey) (h : AllHold s) where
    started-or_not : (up : Bool) (c : Bool) → is_wanted s.slots worker ≡ c → AllHold (steps s (cond (up && c) (Starting worker ∷ []) []))
    started-or_not true true t = all-step s (Starting worker) t h
    started-or_not true false t = h
    started-or_not false c t = h

    breaks-calm : (c : Bool) → AllByRecursion IsCalm (cond c (Breaks worker ∷ []) [])
    breaks-calm true = (tt, tt)
    breaks-calm false = tt

    says-calm : (payloads : List (List ℕ)) → AllByRecursion IsCalm (map (λ payload. Says worker (message_of payload)) payloads)
    says-calm [] = tt
    says-calm (payload ∷ payloads) = (tt, says-calm payloads)

    chunk-holds : (bytes : List ℕ) (c : Bool) → AllHold (steps s (cond c (chunk_micros worker (stream_of s.streams worker) bytes) []))
    chunk-holds bytes true =
        let stream = stream_of s.streams worker in
        calm-steps s (chunk_micros worker stream bytes) (
          tt,
          all-append IsCalm (map (λ payload. Says worker (message_of payload)) (new_frames stream bytes)) (break_behind worker stream bytes)
              (says-calm (new_frames stream bytes)) (breaks-calm (breaks_with stream bytes)),
        ) h
    chunk-holds bytes false = h

  all-after : (s : State) (es : List Entry) → AllHold s → AllHold (after_all s es)
  all-after s [] h = h
  all-after s (entry.Call lane op ∷ es) h = all-after (after s (entry.Call lane op)) es (all-step s (Calls lane op) tt h)
  all-after s (entry.Await lane name event count ∷ es) h =
      all-after (after s (entry.Await lane name event count)) es (all-step s (Awaits lane name event count) tt h)
  all-after s (entry.Spawned worker up ∷ es) h =
      all-after (after s (entry.Spawned worker up)) es (started-or_not s worker h up (is_wanted s.slots worker) refl)
  all-after s (entry.Chunk worker bytes ∷ es) h =
      all-after (after s (entry.Chunk worker bytes)) es (chunk-holds s worker h bytes (is_up s.slots worker))
  all-after s (other ∷ es) h = all-after s es h

  all-hold : (j : Journal) → AllHold (state_of j)
  all-hold j =
      all-after (start j.seed) j.entries (
        fits-start j.seed,
        record { workers = tt; alone = tt; due = tt },
        kept-start j.seed,
        record { keys = λ worker. none (nat_le worker.slot 0); ends = tt; wanted = tt },
      )
    where
      none : (c : Bool) → 0 ≤ one_if c
      none true = omega arith
      none false = omega arith

  pub slots-end : (j : Journal) → SlotsEndWithWorkers (state_of j)
  slots-end j =
      let s = state_of j in
      let h = all-hold j in
      all-each (Ends s.objects) (EndsWithWorker s.objects)
      (λ x e. same (is_over_phase x.phase) (is_shut (numbered s.objects x.worker)) (e ∙ count-closed x.worker s.objects h.0.ascending)) s.slots h.3.ends
    where
      same : (c d : Bool) → one_if c ≡ one_if d → c ≡ d
      same true true e = refl
      same true false e = absurd (omega (arith, e))
      same false true e = absurd (omega (arith, e))
      same false false e = refl
