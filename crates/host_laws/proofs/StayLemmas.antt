-- No Worker of a slot is among what falls with a Consumer: no link leads to it.
use Rattle.std.proofs.Common.{◌≡◌, ◌≤◌, ℕ, zero, suc, ◌+◌, List, [], ◌∷◌, length, map, Bool, true, false, not, ◌&&◌, ◌||◌, ◌==◌, cond, Option, Some, None, refl, sym, ap, ◌∙◌, subst, arith, count_by}
use Rattle.std.specs.List.{AllByRecursion, filter, find, list_any}
use Rattle.std.specs.Option.{is_some}
use Rattle.std.proofs.lemmas.Bool.{and_parts, eqb-true, true≢false}
use Rattle.std.proofs.lemmas.Bool.Decides.{nat_tests}
use Rattle.std.proofs.lemmas.List.Sums.{sum_by-cons}
use Rattle.ms_base.specs.Kinds.{same_kind}
use Rattle.ms_base.specs.declared.keys.Kind.{Kind}
use Rattle.ms_base.specs.declared.keys.Kind.TheVariants as kind
use Rattle.ms_base.specs.declared.keys.Reason.{Reason}
use Rattle.ms_base.specs.declared.keys.Serial.{Serial}
use Rattle.object_tree.specs.declared.object.Object.{Object}
use Rattle.object_tree.specs.Falls.{are_in_and_out, are_linked, falls, falls_with, has_far_end, is_among, is_at, is_child, is_consumer, is_pipe, leads, reached}
use Rattle.object_tree.specs.Objects.{has_serial, is_open, is_producer, same_serial}
use Rattle.host_model.specs.Falls.{is_death, with_over}
use Rattle.host_model.specs.Fit.{one_if}
use Rattle.host_model.specs.Fit as fit
use Rattle.host_model.specs.State.{State, Slot, Over, waiting}
use Rattle.host_model.specs.Workers.{HasItsWorker, HaveWorkers, IsAlone, is_worker_at}

pub same-itself : (n : ℕ) → (n == n) ≡ true
same-itself n = grind (arith, nat_tests)

-- ---- the only one that passes a test

count-cons : (q : Object → Bool) (x : Object) (xs : List Object) → count_by q (x ∷ xs) ≡ one_if (q x) + count_by q xs
count-cons q x xs = sum_by-cons (λ y. cond (q y) 1 0) x xs

module _ (p q : Object → Bool) (more : (x : Object) → q x ≡ true → p x ≡ true) where
  none-passes : (xs : List Object) → count_by p xs ≡ 0 → AllByRecursion (λ (x : Object). p x ≡ true → q x ≡ true) xs
  none-passes [] e = tt
  none-passes (x ∷ xs) e = (
    λ t. let one : one_if (p x) ≡ 1 = ap one_if t in absurd (omega (arith, e, one, count-cons p x xs)),
    none-passes xs (omega (arith, e, count-cons p x xs)),
  )

  none-any : (xs : List Object) → count_by p xs ≡ 0 → list_any q xs ≡ false
  none-any [] e = refl
  none-any (x ∷ xs) e = at (q x) refl (none-any xs (omega (arith, e, count-cons p x xs)))
    where
      at : (b : Bool) → q x ≡ b → list_any q xs ≡ false → (b || list_any q xs) ≡ false
      at true t later = let one : one_if (p x) ≡ 1 = ap one_if (more x t) in absurd (omega (arith, e, one, count-cons p x xs))
      at false t later = later

  only-one : (xs : List Object) → count_by p xs ≤ 1 → list_any q xs ≡ true → AllByRecursion (λ (x : Object). p x ≡ true → q x ≡ true) xs
  only-one [] few there = tt
  only-one (x ∷ xs) few there = at (p x) (q x) refl refl there (only-one xs)
    where
      at : (a b : Bool) → p x ≡ a → q x ≡ b → (b || list_any q xs) ≡ true
          → (count_by p xs ≤ 1 → list_any q xs ≡ true → AllByRecursion (λ (y : Object). p y ≡ true → q y ≡ true) xs)
          → AllByRecursion (λ (y : Object). p y ≡ true → q y ≡ true) (x ∷ xs)
      at true true t u any later =
          let one : one_if (p x) ≡ 1 = ap one_if t in (λ v. u, none-passes xs (omega (arith, few, one, count-cons p x xs)))
      at true false t u any later =
          let one : one_if (p x) ≡ 1 = ap one_if t in absurd (true≢false (sym any ∙ none-any xs (omega (arith, few, one, count-cons p x xs))))
      at false true t u any later = absurd (true≢false (sym (more x u) ∙ t))
      at false false t u any later = (λ v. absurd (true≢false (sym v ∙ t)), later (omega (arith, few, count-cons p x xs)) any)

-- ---- no link leads to a Worker

and-none : (b : Bool) → (b && false) ≡ false
and-none true = refl
and-none false = refl

no-link : (a k : Kind) → same_kind k kind.Worker ≡ true → are_in_and_out a k ≡ false
no-link a kind.Worker h = ap (λ b. b || (is_producer a && false)) (and-none (is_consumer a)) ∙ and-none (is_producer a)
no-link a kind.Router h = absurd cc
no-link a kind.Plain h = absurd cc
no-link a kind.Pipe h = absurd cc
no-link a kind.Direct h = absurd cc
no-link a kind.Producer h = absurd cc
no-link a kind.Consumer h = absurd cc

no-parent : (p : Option Serial) (serial : Serial) → not (is_some p) ≡ true → is_at p serial ≡ false
no-parent None serial h = refl
no-parent (Some q) serial h = absurd cc

-- what is told of the Worker of a serial
record IsWorker (serial : Serial) (o : Object) : Type 0 where
  own : has_serial serial o ≡ true
  of_kind : same_kind o.kind kind.Worker ≡ true
  on_nothing : not (is_some o.parent) ≡ true

is-worker : (serial : Serial) (o : Object) → is_worker_at serial o ≡ true → IsWorker serial o
is-worker serial o h =
    let outer = and_parts (has_serial serial o && same_kind o.kind kind.Worker) (not (is_some o.parent)) h in
    let inner = and_parts (has_serial serial o) (same_kind o.kind kind.Worker) outer.0 in
    record { own = inner.0; of_kind = inner.1; on_nothing = outer.1 }

leads-nowhere : (serial : Serial) (x y : Object) → IsAlone x → IsWorker serial y → leads x y ≡ false
leads-nowhere serial x y alone worker =
    let child : is_child x y ≡ false = no-parent y.parent x.serial worker.on_nothing in
    let far : has_far_end x y ≡ false = ap (λ f. is_pipe x.kind && is_at f y.serial) alone ∙ and-none (is_pipe x.kind) in
    let linked : are_linked x y ≡ false = ap (λ b. b && (is_at x.far y.serial || is_at y.far x.serial)) (no-link x.kind y.kind worker.of_kind) in
    ap (λ b. b || has_far_end x y || are_linked x y) child ∙ ap (λ b. b || are_linked x y) far ∙ linked

-- ---- what falls with a Consumer

module _ (objects : List Object) (serial : Serial) (c : Object) (alone : AllByRecursion IsAlone objects) (apart : has_serial serial c ≡ true → ⊥) where
  none-leads : (n : ℕ) (xs : List Object) → AllByRecursion IsAlone xs → (o : Object) → IsWorker serial o
      → list_any (λ y. reached n objects (c.serial ∷ []) y && leads y o) xs ≡ false
  none-leads n [] h o worker = refl
  none-leads n (x ∷ xs) h o worker =
      let first : (reached n objects (c.serial ∷ []) x && leads x o) ≡ false =
      ap (λ b. reached n objects (c.serial ∷ []) x && b) (leads-nowhere serial x o h.0 worker) ∙ and-none (reached n objects (c.serial ∷ []) x) in
      ap (λ b. b || list_any (λ y. reached n objects (c.serial ∷ []) y && leads y o) xs) first ∙ none-leads n xs h.1 o worker

  no-root : (o : Object) → IsWorker serial o → (b : Bool) → same_serial c.serial o.serial ≡ b → (is_open o && (b || false)) ≡ false
  no-root o worker true e =
      let same : c.serial.0 ≡ serial.0 = eqb-true c.serial.0 o.serial.0 e ∙ eqb-true o.serial.0 serial.0 worker.own in
      absurd (apart (ap (λ n. n == serial.0) same ∙ same-itself serial.0))
  no-root o worker false e = and-none (is_open o)

  not-reached : (n : ℕ) (o : Object) → IsWorker serial o → reached n objects (c.serial ∷ []) o ≡ false
  not-reached zero o worker = no-root o worker (same_serial c.serial o.serial) refl
  not-reached (suc n) o worker =
      ap (λ b. b || is_open o && list_any (λ y. reached n objects (c.serial ∷ []) y && leads y o) objects) (not-reached n o worker)
      ∙ ap (λ b. is_open o && b) (none-leads n objects alone o worker)
      ∙ and-none (is_open o)

  not-among : (xs : List Object) → AllByRecursion (λ (o : Object). has_serial serial o ≡ true → is_worker_at serial o ≡ true) xs
      → is_among (map (λ (o : Object). o.serial) (filter (falls_with objects (c.serial ∷ [])) xs)) serial ≡ false
  not-among [] h = refl
  not-among (o ∷ os) h = at (falls_with objects (c.serial ∷ []) o) refl (not-among os h.1)
    where
      other : (b : Bool) → has_serial serial o ≡ b → falls_with objects (c.serial ∷ []) o ≡ true → b ≡ false
      other true e t = absurd (true≢false (sym t ∙ not-reached (length objects) o (is-worker serial o (h.0 e))))
      other false e t = refl

      at : (b : Bool) → falls_with objects (c.serial ∷ []) o ≡ b → is_among (map (λ (x : Object). x.serial) (filter (falls_with objects (c.serial ∷ [])) os)) serial ≡ false
          → is_among (map (λ (x : Object). x.serial) (cond b (o ∷ filter (falls_with objects (c.serial ∷ [])) os) (filter (falls_with objects (c.serial ∷ [])) os))) serial ≡ false
      at true t later =
          ap (λ b. b || is_among (map (λ (x : Object). x.serial) (filter (falls_with objects (c.serial ∷ [])) os)) serial) (other (has_serial serial o) refl t) ∙ later
      at false t later = later

-- ---- so each slot stays as it is

at-most-one : (b : Bool) (n : ℕ) → n ≤ one_if b → n ≤ 1
at-most-one true n h = h
at-most-one false n h = omega (arith, h)

-- the first that passes a test
found-has : (P : Object → Type 0) (p : Object → Bool) (xs : List Object) (o : Object) → find p xs ≡ Some o → AllByRecursion P xs → P o
found-has P p [] o e h = absurd cc
found-has P p (x ∷ xs) o e h = at (p x) e (found-has P p xs o)
  where
    at : (b : Bool) → cond b (Some x) (find p xs) ≡ Some o → (find p xs ≡ Some o → AllByRecursion P xs → P o) → P o
    at true here later = let same : x ≡ o = cc in subst P same h.0
    at false there later = later there h.1

module _ (s : State) (h : HaveWorkers s) (p : Object → Bool) (c : Object) (found : find p s.objects ≡ Some c) (none : same_kind c.kind kind.Worker ≡ false) where
  slot-stays : (x : Slot) → HasItsWorker s.objects x → is_among (falls s.objects (c.serial ∷ [])) x.worker ≡ false
  slot-stays x there =
      let once : count_by (fit.has_serial x.worker.0) s.objects ≤ 1 =
      omega (
        arith,
        at-most-one (fit.is_drawn s.next x.worker.0) (count_by (fit.has_serial x.worker.0) s.objects + count_by (fit.makes_serial x.worker.0) (waiting s.requests))
            (h.whole.drawn_once x.worker.0),
      ) in
      let only = only-one (has_serial x.worker) (is_worker_at x.worker) (λ o t. (is-worker x.worker o t).own) s.objects once there in
      let apart : has_serial x.worker c ≡ true → ⊥ =
      λ own.
      let its = found-has (λ (o : Object). has_serial x.worker o ≡ true → is_worker_at x.worker o ≡ true) p s.objects c found only own in
      true≢false (sym (is-worker x.worker c its).of_kind ∙ none) in
      not-among s.objects x.worker c h.alone apart s.objects only

  slots-stay : (why : Reason) (xs : List Slot) → AllByRecursion (HasItsWorker s.objects) xs → with_over (falls s.objects (c.serial ∷ [])) why xs ≡ xs
  slots-stay why [] k = refl
  slots-stay why (x ∷ xs) k =
      ap (λ b. record x { phase = cond b (Over (is_death why)) x.phase } ∷ with_over (falls s.objects (c.serial ∷ [])) why xs) (slot-stays x k.0)
      ∙ ap (λ (ys : List Slot). x ∷ ys) (slots-stay why xs k.1)

  pub slots-unfallen : (why : Reason) → with_over (falls s.objects (c.serial ∷ [])) why s.slots ≡ s.slots
  slots-unfallen why = slots-stay why s.slots h.workers
