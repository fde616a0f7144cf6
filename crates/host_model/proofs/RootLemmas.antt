-- The Worker of an open object is open: what an object stands on is in the same Worker, down to that, and each of them is open.
use Rattle.std.proofs.Common.{◌≡◌, ◌≤◌, ◌<◌, ℕ, zero, suc, ◌+◌, List, [], ◌∷◌, map, nat_le, nat_lt, Bool, true, false, ◌&&◌, ◌||◌, cond, Option, Some, None, refl, sym, ap, ◌∙◌, subst, arith, count_by}
use Rattle.std.specs.Bool.{⊤}
use Rattle.std.specs.List.{AllByRecursion, find, list_any}
use Rattle.std.specs.Option.{option_map}
use Rattle.std.specs.Prelude.{IfSome}
use Rattle.std.proofs.lemmas.Bool.{and_parts, eqb-true, ltb-true, true≢false}
use Rattle.std.proofs.lemmas.Bool.Decides.{nat_tests}
use Rattle.ms_base.specs.Kinds.{same_kind}
use Rattle.ms_base.specs.declared.keys.CallKey.{CallKey}
use Rattle.ms_base.specs.declared.keys.Kind.{Kind}
use Rattle.ms_base.specs.declared.keys.Kind.TheVariants as kind
use Rattle.ms_base.specs.declared.keys.Serial.{Serial}
use Rattle.ms_base.specs.declared.outcome.Outcome.{Outcome}
use Rattle.object_tree.specs.declared.object.Object.{Object}
use Rattle.object_tree.specs.Falls.{closed_if, falls}
use Rattle.object_tree.specs.Objects.{has_serial, is_open, marked, numbered, same_serial, with_object}
use Rattle.pending_calls.specs.declared.waiting.Owner.{Owner}
use Rattle.pending_calls.specs.declared.waiting.Owner.TheVariants as owner
use Rattle.request_build.specs.declared.built.Draws.{Draws}
use Rattle.request_build.specs.declared.built.Keep.{Keep}
use Rattle.request_build.specs.Laws.{DrawsFor, IsNewUnder}
use Rattle.host_requests.specs.declared.request.Request.{Request}
use Rattle.host_requests.specs.Requests.{is_under}
use Rattle.host_model.specs.declared.due.Due.{Due}
use Rattle.host_model.specs.declared.due.Due.TheVariants as due
use Rattle.host_model.specs.State.{State, Issued, as_serial, issued, start, with_request}
use Rattle.host_model.specs.Answer.{known}
use Rattle.host_model.specs.Changes.{new_request, owner_settled}
use Rattle.host_model.specs.Fit.{BuildsFit, one_if}
use Rattle.host_model.specs.Fit as fit
use Rattle.host_model.specs.Held.{is_open_of}
use Rattle.host_model.specs.Laws.{AreOnOpen, IsOnOpen}
use Rattle.host_model.specs.Run.{Journal, state_of}
use Rattle.host_model.specs.Standing.{AreInOpenWorkers, IsInOpenWorker}
use Rattle.host_model.specs.Step.{Micro, due_by, due_of, new_worker, start_request, step, turn_of}
use Rattle.host_model.proofs.Along.{along}
use Rattle.host_model.proofs.Changes.{Change, Going, at_rest, going, has_key, once-entered, step-is, still, both, notes, slots, streams, settles_call, awaits, asks_by, wants, asks_to_close, takes, takes_none, opens, settles_taken, marks, falls_with, settles_awaits}
use Rattle.host_model.proofs.Counts.{all-append, all-each, all-mapped, count-cons, same-itself}
use Rattle.host_model.proofs.EndLemmas.{only-one}
use Rattle.host_model.proofs.FallLemmas.{all-both, any-mapped, any-with_object, or-later}
use Rattle.host_model.proofs.FitLemmas.{FitsOn, fits-change, fits-entered, fits-start, most-one, open-more, open_of}
use Rattle.host_model.proofs.KindLemmas.{IsIn, all-in}
use Rattle.host_model.proofs.Objects.{IsAlike, all-with_object, chosen-alike, closed-alike, marked-alike}
use Rattle.host_model.proofs.Waiting.{all-fallen, all-settled, all-taken}
use Rattle.host_model.proofs.WorkerLemmas.{BuildsNew}

-- ---- what an object stands on is in its Worker

-- it has this serial, is in the Worker of another, and was drawn before that
abbrev is_above : Object → Serial → Object → Bool
is_above o p x = has_serial p x && (same_serial x.worker o.worker && nat_lt x.serial.0 o.serial.0)

abbrev IsRooted : List Object → Option Serial → Object → Type 0
IsRooted os None o = (same_kind o.kind kind.Worker ≡ true) × (o.worker ≡ o.serial)
IsRooted os (Some p) o = list_any (is_above o p) os ≡ true

abbrev IsRootedIn : List Object → Object → Type 0
IsRootedIn os o = IsRooted os o.parent o

abbrev IsRootedDue : List Object → Due → Type 0
IsRootedDue os (due.Opens object keeps) = IsRootedIn os object
IsRootedDue os (due.Turns paused) = ⊤
IsRootedDue os due.Nothing = ⊤

rooted-more : (n o : Object) (os : List Object) (p : Option Serial) → IsRooted os p o → IsRooted (with_object n os) p o
rooted-more n o os None h = h
rooted-more n o os (Some p) h = any-with_object (is_above o p) n os h

rooted-alike : (os : List Object) (a b : Object) → IsAlike a b → IsRootedIn os a → IsRootedIn os b
rooted-alike os a b same h = subst (λ (p : Option Serial). IsRooted os p b) (sym same.parent) (at a.parent h)
  where
    at : (p : Option Serial) → IsRooted os p a → IsRooted os p b
    at None k = (ap (λ (x : Kind). same_kind x kind.Worker) same.kind ∙ k.0, same.worker ∙ k.1 ∙ sym same.serial)
    at (Some p) k =
        ap (λ (w : Serial). list_any (λ (x : Object). has_serial p x && (same_serial x.worker w && nat_lt x.serial.0 b.serial.0)) os) same.worker
        ∙ ap (λ (n : Serial). list_any (λ (x : Object). has_serial p x && (same_serial x.worker a.worker && nat_lt x.serial.0 n.0)) os) same.serial
        ∙ k

module _ (f : Object → Object) (same : (o : Object) → IsAlike o (f o)) (os : List Object) where
  above-mapped : (o : Object) (p : Serial) (x : Object) → is_above o p (f x) ≡ is_above o p x
  above-mapped o p x =
      ap (λ (w : Serial). has_serial p (f x) && (same_serial w o.worker && nat_lt (f x).serial.0 o.serial.0)) (same x).worker
      ∙ ap (λ (n : Serial). same_serial n p && (same_serial x.worker o.worker && nat_lt n.0 o.serial.0)) (same x).serial

  rooted-in : (o : Object) (p : Option Serial) → IsRooted os p o → IsRooted (map f os) p o
  rooted-in o None h = h
  rooted-in o (Some p) h = any-mapped (is_above o p) f (above-mapped o p) os ∙ h

  rooted-mapped : AllByRecursion (IsRootedIn os) os → AllByRecursion (IsRootedIn (map f os)) (map f os)
  rooted-mapped h =
      all-mapped (IsRootedIn os) (IsRootedIn (map f os)) f (λ o k. rooted-alike (map f os) o (f o) (same o) (rooted-in o o.parent k)) os h

  due-mapped : (d : Due) → IsRootedDue os d → IsRootedDue (map f os) d
  due-mapped (due.Opens object keeps) h = rooted-in object object.parent h
  due-mapped (due.Turns paused) h = tt
  due-mapped due.Nothing h = tt

due-with : (n : Object) (os : List Object) (d : Due) → IsRootedDue os d → IsRootedDue (with_object n os) d
due-with n os (due.Opens object keeps) h = rooted-more n object os object.parent h
due-with n os (due.Turns paused) h = tt
due-with n os due.Nothing h = tt

-- ---- what is to be made stands on an object of the tree, in the same Worker

found-any : (p t : Object → Bool) (xs : List Object) (q : Object) → find p xs ≡ Some q → (p q ≡ true → t q ≡ true) → list_any t xs ≡ true
found-any p t [] q e h = absurd cc
found-any p t (x ∷ xs) q e h = at (p x) refl e (found-any p t xs q)
  where
    at : (b : Bool) → p x ≡ b → cond b (Some x) (find p xs) ≡ Some q → (find p xs ≡ Some q → (p q ≡ true → t q ≡ true) → list_any t xs ≡ true) → list_any t (x ∷ xs) ≡ true
    at true own here later =
        let same : x ≡ q = cc in
        ap (λ (y : Object). t y || list_any t xs) same ∙ ap (λ b. b || list_any t xs) (h (ap p (sym same) ∙ own))
    at false own there later = or-later (t x) (list_any t xs) (later there h)

-- an object of the tree was drawn
drawn-below : {os : List Object} {ws : List (Request Due)} {t : _} {next : Draws} → fit.Fits os ws t next → (serial : Serial) → list_any (has_serial serial) os ≡ true → serial.0 < next.serial
drawn-below {os} {ws} {t} {next} h serial there = at (nat_le 1 serial.0 && nat_lt serial.0 next.serial) refl (h.drawn_once serial.0)
  where
    some : (xs : List Object) → list_any (has_serial serial) xs ≡ true → 1 ≤ count_by (fit.has_serial serial.0) xs
    some [] e = absurd (true≢false (sym e))
    some (x ∷ xs) e = each (has_serial serial x) refl e (some xs)
      where
        each : (b : Bool) → has_serial serial x ≡ b → (b || list_any (has_serial serial) xs) ≡ true
            → (list_any (has_serial serial) xs ≡ true → 1 ≤ count_by (fit.has_serial serial.0) xs) → 1 ≤ count_by (fit.has_serial serial.0) (x ∷ xs)
        each true own any later = let one : one_if (fit.has_serial serial.0 x) ≡ 1 = ap one_if own in omega (arith, one, count-cons (fit.has_serial serial.0) x xs)
        each false own any later = omega (arith, later any, count-cons (fit.has_serial serial.0) x xs)

    at : (b : Bool) → (nat_le 1 serial.0 && nat_lt serial.0 next.serial) ≡ b
        → count_by (fit.has_serial serial.0) os + count_by (fit.makes_serial serial.0) ws ≤ one_if b → serial.0 < next.serial
    at true e k = ltb-true serial.0 next.serial (and_parts (nat_le 1 serial.0) (nat_lt serial.0 next.serial) e).1
    at false e k = absurd (omega (arith, k, some os there))

below-true : (a b : ℕ) → a < b → nat_lt a b ≡ true
below-true a b h = grind (arith, nat_tests)

new-rooted : {os : List Object} {ws : List (Request Due)} {t : _} {next : Draws} → fit.Fits os ws t next → (under : Serial) (o : Object) → IsNewUnder os under o → o.serial.0 ≡ next.serial
    → IsRootedIn os o
new-rooted {os} {ws} {t} {next} h under o new own =
    subst (λ (p : Option Serial). IsRooted os p o) (sym new.parent) (at (numbered os under) refl (new.worker h.ascending))
  where
    at : (x : Option Object) → numbered os under ≡ x → option_map (λ (p : Object). p.worker) x ≡ Some o.worker → list_any (is_above o under) os ≡ true
    at None e w = absurd cc
    at (Some q) e w =
        let same : q.worker ≡ o.worker = cc in
        let low : under.0 < next.serial = drawn-below h under (found-any (has_serial under) (has_serial under) os q e (λ k. k)) in
        found-any (has_serial under) (is_above o under) os q e
        (λ k.
        let its : q.serial.0 ≡ under.0 = eqb-true q.serial.0 under.0 k in
        let before : nat_lt q.serial.0 o.serial.0 ≡ true = below-true q.serial.0 o.serial.0 (omega (arith, its, low, own)) in
        ap (λ b. b && (same_serial q.worker o.worker && nat_lt q.serial.0 o.serial.0)) k
        ∙ ap (λ (s : Serial). same_serial s o.worker && nat_lt q.serial.0 o.serial.0) same
        ∙ ap (λ b. b && nat_lt q.serial.0 o.serial.0) (same-itself o.worker.0)
        ∙ before)

due-rooted : {os : List Object} {ws : List (Request Due)} {t : _} {next : Draws} → fit.Fits os ws t next → (after : Draws) (turn : Option Bool) (makes : Option Object) (keeps : Keep) (under : Serial)
    → DrawsFor makes next after → IfSome makes (IsNewUnder os under) → IsRootedDue os (due_of turn makes keeps)
due-rooted h after turn (Some o) keeps under drawn new = new-rooted h under o new drawn.own
due-rooted h after (Some paused) None keeps under drawn new = tt
due-rooted h after None None keeps under drawn new = tt

-- ---- each small change

record RootedOn (g : Going) : Type 0 where
  objects : AllByRecursion (IsRootedIn g.state.objects) g.state.objects
  due : AllByRecursion (λ (r : Request Due). IsRootedDue g.state.objects r.due) (open_of g.taken g.state.requests)

abbrev AreRootedDue : List Object → List (Request Due) → Type 0
AreRootedDue os rs = AllByRecursion (λ (r : Request Due). IsRootedDue os r.due) rs

rooted-asked : (os : List Object) (taken : List (Request Due)) (rs : List Issued) (r : Request Due) → IsRootedDue os r.due → AreRootedDue os (open_of taken rs)
    → AreRootedDue os (open_of taken (with_request r rs))
rooted-asked os taken rs r one h =
    subst (AreRootedDue os) (sym (open-more taken rs r)) (all-append (λ (q : Request Due). IsRootedDue os q.due) (open_of taken rs) (r ∷ []) h (one, tt))

rooted-opened : (n : Object) (os : List Object) → IsRootedIn os n → AllByRecursion (IsRootedIn os) os → AllByRecursion (IsRootedIn (with_object n os)) (with_object n os)
rooted-opened n os one h =
    all-with_object (IsRootedIn (with_object n os)) n os (rooted-more n n os n.parent one)
    (all-each (IsRootedIn os) (IsRootedIn (with_object n os)) (λ o k. rooted-more n o os o.parent k) os h)

dues-opened : (n : Object) (os : List Object) (rs : List (Request Due)) → AreRootedDue os rs → AreRootedDue (with_object n os) rs
dues-opened n os rs h = all-each (λ (r : Request Due). IsRootedDue os r.due) (λ (r : Request Due). IsRootedDue (with_object n os) r.due) (λ r k. due-with n os r.due k) rs h

rooted-owner : (calls : List CallKey) (taken : List (Request Due)) (s : State) (o : Owner) (outcome : Outcome) (names : List (List ℕ)) → RootedOn (going calls taken s)
    → RootedOn (going calls taken (owner_settled o outcome names s))
rooted-owner calls taken s (owner.Call call) outcome names h = record { objects = h.objects; due = h.due }
rooted-owner calls taken s (owner.Job call part) outcome names h = h
rooted-owner calls taken s owner.Close outcome names h = h
rooted-owner calls taken s owner.Follow outcome names h = h

rooted-change : BuildsFit → BuildsNew → {g h : Going} → Change g h → FitsOn g → RootedOn g → RootedOn h
rooted-change b new still f w = w
rooted-change b new (both x y) f w = rooted-change b new y (fits-change b x f) (rooted-change b new x f w)
rooted-change b new (notes ns plain) f w = record { objects = w.objects; due = w.due }
rooted-change b new (slots worker) f w = record { objects = w.objects; due = w.due }
rooted-change b new (streams xs) f w = record { objects = w.objects; due = w.due }
rooted-change b new (settles_call call outcome names) f w = record { objects = w.objects; due = w.due }
rooted-change b new (awaits a) f w = record { objects = w.objects; due = w.due }
rooted-change b new (asks_by {calls} {taken} {s} call op r channel payload is) f w =
    record {
      objects = w.objects;
      due = rooted-asked s.objects taken s.requests (new_request channel (issued s.requests channel + 1) (owner.Call call) r.under (due_by op r))
          (due-rooted f r.next (turn_of op) r.makes r.keeps r.under (b.draws (known s) op r f.few is.built_is) (new (known s) op r is.built_is)) w.due;
    }
rooted-change b new (wants {calls} {taken} {s} call name budget) f w =
    let q : Request Due = start_request call (as_serial s.next.serial) in
    record {
      objects = rooted-opened (new_worker s name) s.objects (refl, refl) w.objects;
      due = dues-opened (new_worker s name) s.objects (open_of taken (with_request q s.requests)) (rooted-asked s.objects taken s.requests q tt w.due);
    }
rooted-change b new (asks_to_close {calls} {taken} {s} channel parent asked left) f w =
    record {
      objects = w.objects;
      due = rooted-asked s.objects taken s.requests (new_request channel (issued s.requests channel + 1) owner.Close parent due.Nothing) tt w.due;
    }
rooted-change b new (takes {calls} {taken} {s} key r e) f w =
    record { objects = w.objects; due = all-taken (λ (q : Request Due). IsRootedDue s.objects q.due) s.requests (has_key key) taken r e w.due }
rooted-change b new (takes_none {calls} {taken} {s} key e) f w =
    record { objects = w.objects; due = all-settled (λ (q : Request Due). IsRootedDue s.objects q.due) s.requests (has_key key) taken w.due }
rooted-change b new (opens {calls} {taken} {s} r object keeps o is same closed) f w =
    let own : IsRootedDue s.objects (due.Opens object keeps) = subst (IsRootedDue s.objects) is w.due.0 in
    let later = dues-opened o s.objects (open_of taken s.requests) w.due.1 in
    record { objects = rooted-opened o s.objects (rooted-alike s.objects object o same own) w.objects; due = (tt, later) }
rooted-change b new (settles_taken {calls} {taken} {s} r outcome names) f w =
    rooted-owner calls taken s r.owner outcome names (record { objects = w.objects; due = w.due.1 })
rooted-change b new (marks {calls} {taken} {s} serial m keeps) f w =
    let change : Object → Object = λ o. cond (has_serial serial o) (marked m o) o in
    let alike : (o : Object) → IsAlike o (change o) = λ o. chosen-alike (has_serial serial o) o (marked m o) (marked-alike m keeps o) in
    record {
      objects = rooted-mapped change alike s.objects w.objects;
      due = all-each (λ (r : Request Due). IsRootedDue s.objects r.due) (λ (r : Request Due). IsRootedDue (map change s.objects) r.due)
          (λ r k. due-mapped change alike s.objects r.due k) (open_of taken s.requests) w.due;
    }
rooted-change b new (falls_with {calls} {s} roots why) f w =
    let down : List Serial = falls s.objects roots in
    let change : Object → Object = closed_if s.objects down roots why in
    let alike : (o : Object) → IsAlike o (change o) = closed-alike s.objects down roots why in
    record {
      objects = rooted-mapped change alike s.objects w.objects;
      due = all-fallen (λ (r : Request Due). IsRootedDue s.objects r.due) (λ (r : Request Due). IsRootedDue (map change s.objects) r.due) s.requests (is_under down)
          (λ r k e. due-mapped change alike s.objects r.due k) (λ r. tt) w.due;
    }
rooted-change b new settles_awaits f w = record { objects = w.objects; due = w.due }

module _ (b : BuildsFit) (new : BuildsNew) where
  abbrev Rooted : State → Type 0
  Rooted s = FitsOn (at_rest s) × RootedOn (at_rest s)

  rooted-step : (s : State) (m : Micro) → Rooted s → Rooted (step s m)
  rooted-step s m h =
      let st = step-is s m in
      let fits = fits-entered s m st.start st.entered h.0 in
      let here = once-entered RootedOn s (λ lane. record { objects = h.1.objects; due = h.1.due }) (λ worker. record { objects = h.1.objects; due = h.1.due }) h.1 m st.start st.entered in
      (fits-change b st.change fits, rooted-change b new st.change fits here)

  rooted : (j : Journal) → Rooted (state_of j)
  rooted j = along Rooted rooted-step (start j.seed) j.entries (fits-start j.seed, record { objects = tt; due = tt })

-- ---- one that passes a test

pub record Passes (P : Object → Type 0) (t : Object → Bool) : Type 0 where
  pub one : Object
  pub known : P one
  pub passes : t one ≡ true

pub witness : (P : Object → Type 0) (t : Object → Bool) (xs : List Object) → AllByRecursion P xs → list_any t xs ≡ true → Passes P t
witness P t [] all e = absurd (true≢false (sym e))
witness P t (x ∷ xs) all e = at (t x) refl e (witness P t xs all.1)
  where
    at : (b : Bool) → t x ≡ b → (b || list_any t xs) ≡ true → (list_any t xs ≡ true → Passes P t) → Passes P t
    at true own any later = record { one = x; known = all.0; passes = own }
    at false own any later = later any

-- ---- so each open object is in an open Worker

module _ (os : List Object) (few : (n : ℕ) → count_by (fit.has_serial n) os ≤ 1) where
  abbrev is_open_worker : Serial → Object → Bool
  is_open_worker serial o = has_serial serial o && (is_open o && same_kind o.kind kind.Worker)

  -- what is told of each object of the tree
  record IsPlaced (o : Object) : Type 0 where
    on_open : IsOnOpen os o
    root : IsRootedIn os o
    there : IsIn os o

  module _ (placed : AllByRecursion IsPlaced os) where
    record IsPlacedOpen (p : Serial) (x : Object) : Type 0 where
      its : IsPlaced x
      opened : has_serial p x ≡ true → is_open x ≡ true

    worker-open : (n : ℕ) (o : Object) → o.serial.0 < n → IsPlaced o → is_open o ≡ true → is_open_of kind.Worker os o.worker ≡ true
    worker-open zero o low h opened = absurd (omega (arith, low))
    worker-open (suc n) o low h opened = at o.parent refl h.root (worker-open n)
      where
        at : (p : Option Serial) → o.parent ≡ p → IsRooted os p o
            → ((x : Object) → x.serial.0 < n → IsPlaced x → is_open x ≡ true → is_open_of kind.Worker os x.worker ≡ true)
            → is_open_of kind.Worker os o.worker ≡ true
        at None e root below =
            let own : has_serial o.worker o ≡ true = ap (λ (w : Serial). same_serial o.serial w) root.1 ∙ same-itself o.serial.0 in
            h.there (is_open_worker o.worker)
            (ap (λ b. b && (is_open o && same_kind o.kind kind.Worker)) own ∙ ap (λ b. b && same_kind o.kind kind.Worker) opened ∙ root.0)
        at (Some p) e root below =
            let on = only-one (has_serial p) is_open os (few p.0) (h.on_open opened p e) in
            let both_of = all-both IsPlaced (λ (x : Object). has_serial p x ≡ true → is_open x ≡ true) (IsPlacedOpen p) os (λ x k l. record { its = k; opened = l }) placed on in
            let found = witness (IsPlacedOpen p) (is_above o p) os both_of root in
            let x = found.one in
            let outer = and_parts (has_serial p x) (same_serial x.worker o.worker && nat_lt x.serial.0 o.serial.0) found.passes in
            let inner = and_parts (same_serial x.worker o.worker) (nat_lt x.serial.0 o.serial.0) outer.1 in
            let before : x.serial.0 < o.serial.0 = ltb-true x.serial.0 o.serial.0 inner.1 in
            let same : x.worker.0 ≡ o.worker.0 = eqb-true x.worker.0 o.worker.0 inner.0 in
            subst (λ k. is_open_of kind.Worker os (as_serial k) ≡ true) same (below x (omega (arith, before, low)) found.known.its (found.known.opened outer.0))

pub open-workers : BuildsFit → BuildsNew → (j : Journal) → AreOnOpen (state_of j).objects → AreInOpenWorkers (state_of j)
open-workers b new j on_open =
    let s = state_of j in
    let h = rooted b new j in
    let few : (n : ℕ) → count_by (fit.has_serial n) s.objects ≤ 1 = λ n. omega (arith, h.0.drawn_once n, most-one n s.next.serial) in
    let one = all-both (IsOnOpen s.objects) (IsRootedIn s.objects) (λ (o : Object). IsOnOpen s.objects o × IsRootedIn s.objects o) s.objects (λ o x y. (x, y)) on_open h.1.objects in
    let placed =
    all-both (λ (o : Object). IsOnOpen s.objects o × IsRootedIn s.objects o) (IsIn s.objects) (IsPlaced s.objects few) s.objects
    (λ o x y. record { on_open = x.0; root = x.1; there = y }) one (all-in s.objects) in
    all-each (IsPlaced s.objects few) (IsInOpenWorker s.objects) (λ o k opened. worker-open s.objects few placed (suc o.serial.0) o (omega arith) k opened) s.objects placed
