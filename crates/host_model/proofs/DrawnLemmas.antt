-- Serials and SSRCs are given out once, through each small change.
use Rattle.std.proofs.Common.{◌≡◌, ◌≤◌, ℕ, ◌+◌, List, [], ◌∷◌, ◌++◌, map, Bool, true, false, ◌&&◌, ◌==◌, cond, Option, Some, None, IfSome, refl, sym, ap, ◌∙◌, subst, arith, count_by}
use Rattle.std.specs.Bool.{⊤}
use Rattle.std.specs.List.{AllByRecursion, filter}
use Rattle.std.proofs.lemmas.Bool.{true≢false}
use Rattle.ms_base.specs.Kinds.{same_kind}
use Rattle.ms_base.specs.declared.keys.CallKey.{CallKey}
use Rattle.ms_base.specs.declared.keys.Kind.{Kind}
use Rattle.ms_base.specs.declared.keys.Kind.TheVariants as kind
use Rattle.ms_base.specs.declared.keys.Serial.{Serial}
use Rattle.ms_base.specs.declared.outcome.Outcome.{Outcome}
use Rattle.object_tree.specs.declared.object.Object.{Object}
use Rattle.object_tree.specs.Falls.{closed_if, falls}
use Rattle.object_tree.specs.Objects.{marked, with_object}
use Rattle.object_tree.specs.Objects as objects
use Rattle.pending_calls.specs.declared.waiting.Owner.{Owner}
use Rattle.pending_calls.specs.declared.waiting.Owner.TheVariants as owner
use Rattle.request_build.specs.declared.built.Draws.{Draws}
use Rattle.request_build.specs.declared.built.Keep.{Keep}
use Rattle.request_build.specs.Laws.{DrawsFor, IsNewUnder}
use Rattle.host_requests.specs.declared.request.Request.{Request}
use Rattle.host_requests.specs.Requests.{is_under}
use Rattle.host_model.specs.declared.due.Due.{Due}
use Rattle.host_model.specs.declared.due.Due.TheVariants as due
use Rattle.host_model.specs.State.{State, Issued, as_serial, issued, settled_if, settled_where, start, waiting, with_request}
use Rattle.host_model.specs.Answer.{known}
use Rattle.host_model.specs.Changes.{new_request, owner_settled}
use Rattle.host_model.specs.Drawn.{EachGivenOnce, IsAskedFor, is_worker, is_worker_with, times_asked}
use Rattle.host_model.specs.Fit.{BuildsFit, has_serial, is_drawn, makes_serial, one_if, opens_serial}
use Rattle.host_model.specs.Run.{Journal, state_of}
use Rattle.host_model.specs.Step.{Micro, due_by, due_of, new_worker, start_request, step, turn_of}
use Rattle.host_model.proofs.Along.{along}
use Rattle.host_model.proofs.Changes.{Change, Going, at_rest, done, going, has_key, once-entered, step-is, still, both, notes, slots, streams, settles_call, awaits, asks_by, wants, asks_to_close, takes, takes_none, opens, settles_taken, marks, falls_with, settles_awaits}
use Rattle.host_model.proofs.Counts.{all-append, all-each, all-mapped, count-mapped, count-push, same-itself}
use Rattle.host_model.proofs.FitLemmas.{FitsOn, drawn-more, fits-change, fits-entered, fits-start, most, open-more, open_of}
use Rattle.host_model.proofs.Objects.{IsAlike, all-with_object, chosen-alike, closed-alike, count-with_object, marked-alike}
use Rattle.host_model.proofs.Waiting.{all-fallen, all-settled, all-taken}
use Rattle.host_model.proofs.WorkerLemmas.{BuildsNew}

-- ---- what is given

-- what a request is to make is no Worker, and was asked for
abbrev IsAskedDue : List Issued → Due → Type 0
IsAskedDue rs (due.Opens object keeps) = (is_worker object ≡ false) × (1 ≤ times_asked object.serial.0 rs)
IsAskedDue rs (due.Turns paused) = ⊤
IsAskedDue rs due.Nothing = ⊤

abbrev AreAskedDue : List Issued → List (Request Due) → Type 0
AreAskedDue rs ws = AllByRecursion (λ (r : Request Due). IsAskedDue rs r.due) ws

record GivenIn (os : List Object) (rs : List Issued) (ws : List (Request Due)) (next : Draws) : Type 0 where
  once : (n : ℕ) → times_asked n rs + count_by (is_worker_with n) os ≤ one_if (is_drawn next n)
  asked : AllByRecursion (IsAskedFor rs) os
  due : AreAskedDue rs ws

abbrev GivenOn : Going → Type 0
GivenOn g = GivenIn g.state.objects g.state.requests (open_of g.taken g.state.requests) g.state.next

-- ---- more requests, and settled ones

module _ (rs qs : List Issued) (more : (n : ℕ) → times_asked n rs ≤ times_asked n qs) where
  due-more : (d : Due) → IsAskedDue rs d → IsAskedDue qs d
  due-more (due.Opens object keeps) h = (h.0, omega (arith, h.1, more object.serial.0))
  due-more (due.Turns paused) h = tt
  due-more due.Nothing h = tt

  dues-more : (ws : List (Request Due)) → AreAskedDue rs ws → AreAskedDue qs ws
  dues-more ws h = all-each (λ (r : Request Due). IsAskedDue rs r.due) (λ (r : Request Due). IsAskedDue qs r.due) (λ r k. due-more r.due k) ws h

  asked-more : (os : List Object) → AllByRecursion (IsAskedFor rs) os → AllByRecursion (IsAskedFor qs) os
  asked-more os h = all-each (IsAskedFor rs) (IsAskedFor qs) (λ o k. λ e. at o (k e)) os h
    where
      at : (o : Object) → 1 ≤ times_asked o.serial.0 rs → 1 ≤ times_asked o.serial.0 qs
      at o k = omega (arith, k, more o.serial.0)

count-asked : (n : ℕ) (rs : List Issued) (r : Request Due) → times_asked n (with_request r rs) ≡ times_asked n rs + one_if (makes_serial n r)
count-asked n rs r = count-push (λ (x : Issued). makes_serial n x.request) rs (record { request = r; settled = false })

count-settled : (n : ℕ) (test : Request Due → Bool) (rs : List Issued) → times_asked n (settled_where test rs) ≡ times_asked n rs
count-settled n test rs = count-mapped (λ (x : Issued). makes_serial n x.request) (λ (x : Issued). makes_serial n x.request) (settled_if test) (λ x. refl) rs

given-due : {os : List Object} {rs : List Issued} {ws : List (Request Due)} {next : Draws} → GivenIn os rs ws next → (vs : List (Request Due)) → AreAskedDue rs vs → GivenIn os rs vs next
given-due h vs due = record { once = h.once; asked = h.asked; due = due }

given-settled : {os : List Object} {rs : List Issued} {ws : List (Request Due)} {next : Draws} → GivenIn os rs ws next → (test : Request Due → Bool) → GivenIn os (settled_where test rs) ws next
given-settled {os} {rs} {ws} {next} h test =
    let more : (n : ℕ) → times_asked n rs ≤ times_asked n (settled_where test rs) = λ n. omega (arith, count-settled n test rs) in
    record {
      once = λ n. omega (arith, count-settled n test rs, h.once n);
      asked = asked-more rs (settled_where test rs) more os h.asked;
      due = dues-more rs (settled_where test rs) more ws h.due;
    }

given-asked : {os : List Object} {next : Draws} (taken : List (Request Due)) (rs : List Issued) → GivenIn os rs (open_of taken rs) next → (r : Request Due) (after : Draws)
    → ((n : ℕ) → times_asked n rs + count_by (is_worker_with n) os + one_if (makes_serial n r) ≤ one_if (is_drawn after n)) → IsAskedDue (with_request r rs) r.due
    → GivenIn os (with_request r rs) (open_of taken (with_request r rs)) after
given-asked {os} {next} taken rs h r after once due =
    let qs : List Issued = with_request r rs in
    let more : (n : ℕ) → times_asked n rs ≤ times_asked n qs = λ n. omega (arith, count-asked n rs r) in
    record {
      once = λ n. omega (arith, once n, count-asked n rs r);
      asked = asked-more rs qs more os h.asked;
      due = subst (AreAskedDue qs) (sym (open-more taken rs r))
          (all-append (λ (q : Request Due). IsAskedDue qs q.due) (open_of taken rs) (r ∷ []) (dues-more rs qs more (open_of taken rs) h.due) (due, tt));
    }

-- a request of which no object is due
given-plain : {os : List Object} {next : Draws} (taken : List (Request Due)) (rs : List Issued) → GivenIn os rs (open_of taken rs) next → (r : Request Due)
    → ((n : ℕ) → makes_serial n r ≡ false) → IsAskedDue (with_request r rs) r.due → GivenIn os (with_request r rs) (open_of taken (with_request r rs)) next
given-plain taken rs h r none due =
    given-asked taken rs h r _ (λ n. let here : one_if (makes_serial n r) ≡ 0 = ap one_if (none n) in omega (arith, here, h.once n)) due

-- a request that a call comes to
given-issued : {os : List Object} {next : Draws} (taken : List (Request Due)) (rs : List Issued) → 1 ≤ next.serial → GivenIn os rs (open_of taken rs) next
    → (r : Request Due) (after : Draws) (turn : Option Bool) (makes : Option Object) (keeps : Keep) (olds : List Object) (under : Serial)
    → r.due ≡ due_of turn makes keeps → DrawsFor makes next after → IfSome makes (IsNewUnder olds under)
    → GivenIn os (with_request r rs) (open_of taken (with_request r rs)) after
given-issued {os} {next} taken rs from_one h r after turn (Some o) keeps olds under is drawn new =
    let own : one_if (makes_serial o.serial.0 r) ≡ 1 = ap (λ d. one_if (opens_serial o.serial.0 d)) is ∙ ap one_if (same-itself o.serial.0) in
    given-asked taken rs h r after
    (λ n.
    let here : one_if (makes_serial n r) ≡ one_if (next.serial == n) = ap (λ d. one_if (opens_serial n d)) is ∙ ap (λ k. one_if (k == n)) drawn.own in
    let more = drawn-more n next.serial (times_asked n rs + count_by (is_worker_with n) os) from_one (h.once n) in
    let far : most n (next.serial + 1) ≡ most n after.serial = ap (most n) (sym drawn.serial) in
    omega (arith, here, more, far))
    (subst (IsAskedDue (with_request r rs)) (sym is) (new.kind, omega (arith, own, count-asked o.serial.0 rs r)))
given-issued {os} {next} taken rs from_one h r after (Some paused) None keeps olds under is drawn new =
    subst (GivenIn os (with_request r rs) (open_of taken (with_request r rs))) (sym drawn)
    (given-plain taken rs h r (λ n. ap (opens_serial n) is) (subst (IsAskedDue (with_request r rs)) (sym is) tt))
given-issued {os} {next} taken rs from_one h r after None None keeps olds under is drawn new =
    subst (GivenIn os (with_request r rs) (open_of taken (with_request r rs))) (sym drawn)
    (given-plain taken rs h r (λ n. ap (opens_serial n) is) (subst (IsAskedDue (with_request r rs)) (sym is) tt))

-- ---- objects that come and change

none-with : (b : Bool) → one_if (b && false) ≡ 0
none-with true = refl
none-with false = refl

all-with : (b : Bool) → one_if (b && true) ≡ one_if b
all-with true = refl
all-with false = refl

given-opened : {os : List Object} {rs : List Issued} {ws : List (Request Due)} {next : Draws} (r : Request Due) (object : Object) (keeps : Keep) (o : Object)
    → GivenIn os rs (r ∷ ws) next → r.due ≡ due.Opens object keeps → IsAlike object o → GivenIn (with_object o os) rs (done r ∷ ws) next
given-opened {os} {rs} {ws} {next} r object keeps o h is same =
    let due : IsAskedDue rs (due.Opens object keeps) = subst (IsAskedDue rs) is h.due.0 in
    let other : is_worker o ≡ false = ap (λ (k : Kind). same_kind k kind.Worker) same.kind ∙ due.0 in
    record {
      once = λ n.
          let none : one_if (is_worker_with n o) ≡ 0 = ap (λ b. one_if (has_serial n o && b)) other ∙ none-with (has_serial n o) in
          omega (arith, none, h.once n, count-with_object (is_worker_with n) o os);
      asked = all-with_object (IsAskedFor rs) o os (λ e. subst (λ (s : Serial). 1 ≤ times_asked s.0 rs) (sym same.serial) due.1) h.asked;
      due = (tt, h.due.1);
    }

given-mapped : {os : List Object} {rs : List Issued} {ws : List (Request Due)} {next : Draws} → GivenIn os rs ws next → (f : Object → Object) → ((o : Object) → IsAlike o (f o))
    → GivenIn (map f os) rs ws next
given-mapped {os} {rs} {ws} {next} h f same =
    let kinds : (o : Object) → is_worker (f o) ≡ is_worker o = λ o. ap (λ (k : Kind). same_kind k kind.Worker) (same o).kind in
    let alike : (n : ℕ) (o : Object) → is_worker_with n (f o) ≡ is_worker_with n o =
    λ n o. ap (λ (s : Serial). (s.0 == n) && is_worker (f o)) (same o).serial ∙ ap (λ b. has_serial n o && b) (kinds o) in
    record {
      once = λ n. omega (arith, h.once n, count-mapped (is_worker_with n) (is_worker_with n) f (alike n) os);
      asked = all-mapped (IsAskedFor rs) (IsAskedFor rs) f
          (λ o k. λ e. subst (λ (s : Serial). 1 ≤ times_asked s.0 rs) (sym (same o).serial) (k (sym (kinds o) ∙ e))) os h.asked;
      due = h.due;
    }

given-worker : {os : List Object} {rs : List Issued} {ws : List (Request Due)} {next : Draws} → 1 ≤ next.serial → GivenIn os rs ws next → (o : Object)
    → o.serial.0 ≡ next.serial → is_worker o ≡ true → GivenIn (with_object o os) rs ws (record next { serial = next.serial + 1 })
given-worker {os} {rs} {ws} {next} from_one h o is own =
    record {
      once = λ n.
          let here : one_if (is_worker_with n o) ≡ one_if (next.serial == n) =
          ap (λ b. one_if (has_serial n o && b)) own ∙ all-with (has_serial n o) ∙ ap (λ k. one_if (k == n)) is in
          let more = drawn-more n next.serial (times_asked n rs + count_by (is_worker_with n) os) from_one (h.once n) in
          omega (arith, here, more, count-with_object (is_worker_with n) o os);
      asked = all-with_object (IsAskedFor rs) o os (λ e. absurd (true≢false (sym own ∙ e))) h.asked;
      due = h.due;
    }

given-owner : (calls : List CallKey) (taken : List (Request Due)) (s : State) (o : Owner) (outcome : Outcome) (names : List (List ℕ)) → GivenOn (going calls taken s)
    → GivenOn (going calls taken (owner_settled o outcome names s))
given-owner calls taken s (owner.Call call) outcome names h = h
given-owner calls taken s (owner.Job call part) outcome names h = h
given-owner calls taken s owner.Close outcome names h = h
given-owner calls taken s owner.Follow outcome names h = h

-- ---- each small change

given-change : BuildsFit → BuildsNew → {g h : Going} → Change g h → FitsOn g → GivenOn g → GivenOn h
given-change b new still f w = w
given-change b new (both x y) f w = given-change b new y (fits-change b x f) (given-change b new x f w)
given-change b new (notes ns plain) f w = w
given-change b new (slots worker) f w = w
given-change b new (streams xs) f w = w
given-change b new (settles_call call outcome names) f w = w
given-change b new (awaits a) f w = w
given-change b new (asks_by {calls} {taken} {s} call op r channel payload is) f w =
    given-issued taken s.requests f.from_one w (new_request channel (issued s.requests channel + 1) (owner.Call call) r.under (due_by op r)) r.next (turn_of op) r.makes r.keeps
    (known s).objects r.under refl (b.draws (known s) op r f.few is.built_is) (new (known s) op r is.built_is)
given-change b new (wants {calls} {taken} {s} call name budget) f w =
    given-worker f.from_one (given-plain taken s.requests w (start_request call (as_serial s.next.serial)) (λ n. refl) tt) (new_worker s name) refl refl
given-change b new (asks_to_close {calls} {taken} {s} channel parent asked left) f w =
    given-plain taken s.requests w (new_request channel (issued s.requests channel + 1) owner.Close parent due.Nothing) (λ n. refl) tt
given-change b new (takes {calls} {taken} {s} key r e) f w =
    given-settled (given-due w (r ∷ open_of taken (settled_where (has_key key) s.requests))
    (all-taken (λ (q : Request Due). IsAskedDue s.requests q.due) s.requests (has_key key) taken r e w.due)) (has_key key)
given-change b new (takes_none {calls} {taken} {s} key e) f w =
    given-settled (given-due w (open_of taken (settled_where (has_key key) s.requests))
    (all-settled (λ (q : Request Due). IsAskedDue s.requests q.due) s.requests (has_key key) taken w.due)) (has_key key)
given-change b new (opens r object keeps o is same closed) f w = given-opened r object keeps o w is same
given-change b new (settles_taken {calls} {taken} {s} r outcome names) f w =
    given-owner calls taken s r.owner outcome names (given-due w (open_of taken s.requests) w.due.1)
given-change b new (marks {calls} {taken} {s} serial m keeps) f w =
    given-mapped w (λ o. cond (objects.has_serial serial o) (marked m o) o) (λ o. chosen-alike (objects.has_serial serial o) o (marked m o) (marked-alike m keeps o))
given-change b new (falls_with {calls} {s} roots why) f w =
    let down : List Serial = falls s.objects roots in
    given-mapped
    (given-settled
    (given-due w (map done (filter (is_under down) (waiting s.requests)) ++ waiting (settled_where (is_under down) s.requests))
    (all-fallen (λ (q : Request Due). IsAskedDue s.requests q.due) (λ (q : Request Due). IsAskedDue s.requests q.due) s.requests (is_under down) (λ r k e. k) (λ r. tt) w.due))
    (is_under down))
    (closed_if s.objects down roots why) (closed-alike s.objects down roots why)
given-change b new settles_awaits f w = w

-- ---- each micro step, and whole journals

abbrev IsGiven : State → Type 0
IsGiven s = FitsOn (at_rest s) × GivenOn (at_rest s)

given-step : BuildsFit → BuildsNew → (s : State) (m : Micro) → IsGiven s → IsGiven (step s m)
given-step b new s m h =
    let st = step-is s m in
    let fits = fits-entered s m st.start st.entered h.0 in
    let given = once-entered GivenOn s (λ lane. h.1) (λ worker. h.1) h.1 m st.start st.entered in
    (fits-change b st.change fits, given-change b new st.change fits given)

given-start : (seed : ℕ) → GivenOn (at_rest (start seed))
given-start seed = record { once = λ n. omega arith; asked = tt; due = tt }

given : BuildsFit → BuildsNew → (j : Journal) → IsGiven (state_of j)
given b new j = along IsGiven (given-step b new) (start j.seed) j.entries (fits-start j.seed, given-start j.seed)

pub given-once : BuildsFit → BuildsNew → (j : Journal) → EachGivenOnce (state_of j)
given-once b new j = (given b new j).1.once

pub asked-for : BuildsFit → BuildsNew → (j : Journal) → AllByRecursion (IsAskedFor (state_of j).requests) (state_of j).objects
asked-for b new j = (given b new j).1.asked
