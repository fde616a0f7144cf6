-- The Workers of a host, through each small change: each slot has one in the tree, and nothing there has a far end.
use Rattle.std.proofs.Common.{◌≡◌, ℕ, ◌+◌, List, [], ◌∷◌, ◌++◌, map, Bool, true, not, ◌&&◌, ◌==◌, cond, Option, Some, None, Ok, refl, sym, ap, ◌∙◌, subst}
use Rattle.std.specs.List.{AllByRecursion, filter, list_any}
use Rattle.std.specs.Option.{is_some}
use Rattle.std.specs.Prelude.{IfSome}
use Rattle.ms_base.specs.Kinds.{same_kind}
use Rattle.ms_base.specs.declared.keys.Kind.{Kind}
use Rattle.ms_base.specs.declared.keys.Kind.TheVariants as kind
use Rattle.ms_base.specs.declared.keys.Serial.{Serial}
use Rattle.ms_base.specs.declared.op.Op.{Op}
use Rattle.ms_base.specs.declared.outcome.Outcome.{Outcome}
use Rattle.object_tree.specs.declared.object.Object.{Object}
use Rattle.object_tree.specs.Falls.{closed_if, falls}
use Rattle.object_tree.specs.Objects.{has_serial, marked, with_object}
use Rattle.pending_calls.specs.declared.waiting.Owner.{Owner}
use Rattle.pending_calls.specs.declared.waiting.Owner.TheVariants as owner
use Rattle.request_build.specs.declared.built.Keep.{Keep}
use Rattle.request_build.specs.Asks as asks
use Rattle.request_build.specs.Asks.{Ask}
use Rattle.request_build.specs.Built.{built}
use Rattle.request_build.specs.Known.{Known}
use Rattle.request_build.specs.Laws.{IsNewUnder}
use Rattle.host_requests.specs.declared.request.Request.{Request}
use Rattle.host_requests.specs.Requests.{is_under}
use Rattle.host_model.specs.declared.due.Due.{Due}
use Rattle.host_model.specs.declared.due.Due.TheVariants as due
use Rattle.host_model.specs.State.{State, Slot, Issued, as_serial, issued, settled_where, start, up_if, waiting, with_request}
use Rattle.host_model.specs.Answer.{known}
use Rattle.host_model.specs.Changes.{new_request, owner_settled}
use Rattle.host_model.specs.Falls.{over_if}
use Rattle.host_model.specs.Fit.{BuildsFit}
use Rattle.host_model.specs.Step.{Micro, due_by, due_of, new_slot, new_worker, start_request, step, turn_of}
use Rattle.host_model.specs.Workers.{HasItsWorker, HaveWorkers, IsAlone, IsAloneDue, is_worker_at}
use Rattle.host_model.proofs.Changes.{Change, Going, at_rest, done, going, has_key, once-entered, step-is, still, both, notes, slots, streams, settles_call, awaits, asks_by, wants, asks_to_close, takes, takes_none, opens, settles_taken, marks, falls_with, settles_awaits}
use Rattle.host_model.proofs.Counts.{all-append, all-each, all-mapped, same-itself}
use Rattle.host_model.proofs.FallLemmas.{any-mapped, any-with_object, own-with_object}
use Rattle.host_model.proofs.FitLemmas.{fits-start, fits-step, open-more, open_of}
use Rattle.host_model.proofs.Objects.{IsAlike, all-with_object, chosen-alike, closed-alike, marked-alike}
use Rattle.host_model.proofs.Waiting.{all-fallen, all-settled, all-taken}

abbrev AreAloneDue : List (Request Due) → Type 0
AreAloneDue rs = AllByRecursion (λ (r : Request Due). IsAloneDue r.due) rs

pub record WorkersIn (xs : List Slot) (os : List Object) (rs : List (Request Due)) : Type 0 where
  pub workers : AllByRecursion (HasItsWorker os) xs
  pub alone : AllByRecursion IsAlone os
  pub due : AreAloneDue rs

abbrev pub WorkersOn : Going → Type 0
WorkersOn g = WorkersIn g.state.slots g.state.objects (open_of g.taken g.state.requests)

-- ---- what changes

workers-due : {xs : List Slot} {os : List Object} {rs : List (Request Due)} → WorkersIn xs os rs → (qs : List (Request Due)) → AreAloneDue qs → WorkersIn xs os qs
workers-due h qs due = record { workers = h.workers; alone = h.alone; due = due }

workers-asked : {xs : List Slot} {os : List Object} (taken : List (Request Due)) (rs : List Issued) → WorkersIn xs os (open_of taken rs) → (r : Request Due) → IsAloneDue r.due
    → WorkersIn xs os (open_of taken (with_request r rs))
workers-asked taken rs h r due =
    workers-due h (open_of taken (with_request r rs))
    (subst AreAloneDue (sym (open-more taken rs r)) (all-append (λ (q : Request Due). IsAloneDue q.due) (open_of taken rs) (r ∷ []) h.due (due, tt)))

workers-slots : {xs : List Slot} {os : List Object} {rs : List (Request Due)} → WorkersIn xs os rs → (f : Slot → Slot) → ((x : Slot) → (f x).worker ≡ x.worker) → WorkersIn (map f xs) os rs
workers-slots {xs} {os} h f same =
    record {
      workers = all-mapped (HasItsWorker os) (HasItsWorker os) f (λ x k. subst (λ w. list_any (is_worker_at w) os ≡ true) (sym (same x)) k) xs h.workers;
      alone = h.alone;
      due = h.due;
    }

workers-opened : {xs : List Slot} {os : List Object} {rs : List (Request Due)} → WorkersIn xs os rs → (o : Object) → IsAlone o → WorkersIn xs (with_object o os) rs
workers-opened {xs} {os} h o alone =
    record {
      workers = all-each (HasItsWorker os) (HasItsWorker (with_object o os)) (λ x k. any-with_object (is_worker_at x.worker) o os k) xs h.workers;
      alone = all-with_object IsAlone o os alone h.alone;
      due = h.due;
    }

worker-alike : (serial : Serial) (a b : Object) → IsAlike a b → is_worker_at serial b ≡ is_worker_at serial a
worker-alike serial a b same =
    ap (λ (s : Serial). (s.0 == serial.0) && same_kind b.kind kind.Worker && not (is_some b.parent)) same.serial
    ∙ ap (λ (k : Kind). has_serial serial a && same_kind k kind.Worker && not (is_some b.parent)) same.kind
    ∙ ap (λ p. has_serial serial a && same_kind a.kind kind.Worker && not (is_some p)) same.parent

workers-mapped : {xs : List Slot} {os : List Object} {rs : List (Request Due)} → WorkersIn xs os rs → (f : Object → Object) → ((o : Object) → IsAlike o (f o)) → WorkersIn xs (map f os) rs
workers-mapped {xs} {os} h f same =
    record {
      workers = all-each (HasItsWorker os) (HasItsWorker (map f os))
          (λ x k. any-mapped (is_worker_at x.worker) f (λ o. worker-alike x.worker o (f o) (same o)) os ∙ k) xs h.workers;
      alone = all-mapped IsAlone IsAlone f (λ o k. (same o).far ∙ k) os h.alone;
      due = h.due;
    }

-- a Worker comes with its slot
workers-more : {xs : List Slot} {os : List Object} {rs : List (Request Due)} → WorkersIn xs os rs → (s : State) (name : List ℕ) (budget : ℕ)
    → WorkersIn (xs ++ new_slot s name budget ∷ []) (with_object (new_worker s name) os) rs
workers-more {xs} {os} h s name budget =
    let more = workers-opened h (new_worker s name) refl in
    let own : is_worker_at (as_serial s.next.serial) (new_worker s name) ≡ true = ap (λ b. b && true && true) (same-itself s.next.serial) in
    record {
      workers = all-append (HasItsWorker (with_object (new_worker s name) os)) xs (new_slot s name budget ∷ []) more.workers
          (own-with_object (is_worker_at (as_serial s.next.serial)) (new_worker s name) own os, tt);
      alone = more.alone;
      due = h.due;
    }

workers-owner : (calls : List _) (taken : List (Request Due)) (s : State) (o : Owner) (outcome : Outcome) (names : List (List ℕ)) → WorkersOn (going calls taken s)
    → WorkersOn (going calls taken (owner_settled o outcome names s))
workers-owner calls taken s (owner.Call call) outcome names h = h
workers-owner calls taken s (owner.Job call part) outcome names h = h
workers-owner calls taken s owner.Close outcome names h = h
workers-owner calls taken s owner.Follow outcome names h = h

-- what is built has no far end
abbrev pub BuildsNew : Type 0
BuildsNew = (k : Known) (op : Op) (r : asks.Request) → built k op ≡ Ok (Ask r) → IfSome r.makes (IsNewUnder k.objects r.under)

alone-due : (k : Known) (r : asks.Request) (turn : Option Bool) (makes : Option Object) (keeps : Keep) → IfSome makes (IsNewUnder k.objects r.under)
    → IsAloneDue (due_of turn makes keeps)
alone-due k r turn (Some o) keeps h = h.alone
alone-due k r (Some paused) None keeps h = tt
alone-due k r None None keeps h = tt

pub workers-change : BuildsNew → {g h : Going} → Change g h → WorkersOn g → WorkersOn h
workers-change b still w = w
workers-change b (both x y) w = workers-change b y (workers-change b x w)
workers-change b (notes ns plain) w = w
workers-change b (slots worker) w = workers-slots w (up_if worker) (λ x. refl)
workers-change b (streams xs) w = w
workers-change b (settles_call call outcome names) w = w
workers-change b (awaits a) w = w
workers-change b (asks_by {calls} {taken} {s} call op r channel payload is) w =
    workers-asked taken s.requests w (new_request channel (issued s.requests channel + 1) (owner.Call call) r.under (due_by op r))
    (alone-due (known s) r (turn_of op) r.makes r.keeps (b (known s) op r is.built_is))
workers-change b (wants {calls} {taken} {s} call name budget) w =
    workers-more (workers-asked taken s.requests w (start_request call (as_serial s.next.serial)) tt) s name budget
workers-change b (asks_to_close {calls} {taken} {s} channel parent asked left) w =
    workers-asked taken s.requests w (new_request channel (issued s.requests channel + 1) owner.Close parent due.Nothing) tt
workers-change b (takes {calls} {taken} {s} key r e) w =
    workers-due w (r ∷ open_of taken (settled_where (has_key key) s.requests)) (all-taken (λ (q : Request Due). IsAloneDue q.due) s.requests (has_key key) taken r e w.due)
workers-change b (takes_none {calls} {taken} {s} key e) w =
    workers-due w (open_of taken (settled_where (has_key key) s.requests)) (all-settled (λ (q : Request Due). IsAloneDue q.due) s.requests (has_key key) taken w.due)
workers-change b (opens {calls} {taken} {s} r object keeps o is same closed) w =
    let now = workers-opened w o (same.far ∙ subst IsAloneDue is w.due.0) in
    workers-due now (done r ∷ open_of taken s.requests) (tt, w.due.1)
workers-change b (settles_taken {calls} {taken} {s} r outcome names) w =
    workers-owner calls taken s r.owner outcome names (workers-due w (open_of taken s.requests) w.due.1)
workers-change b (marks {calls} {taken} {s} serial m keeps) w =
    workers-mapped w (λ o. cond (has_serial serial o) (marked m o) o) (λ o. chosen-alike (has_serial serial o) o (marked m o) (marked-alike m keeps o))
workers-change b (falls_with {calls} {s} roots why) w =
    let down : List Serial = falls s.objects roots in
    workers-slots
    (workers-mapped
    (workers-due w (map done (filter (is_under down) (waiting s.requests)) ++ waiting (settled_where (is_under down) s.requests))
    (all-fallen (λ (q : Request Due). IsAloneDue q.due) (λ (q : Request Due). IsAloneDue q.due) s.requests (is_under down) (λ r k e. k) (λ r. tt) w.due))
    (closed_if s.objects down roots why) (closed-alike s.objects down roots why))
    (over_if down why) (λ x. refl)
workers-change b settles_awaits w = w

-- ---- each micro step

pub workers-start : (seed : ℕ) → HaveWorkers (start seed)
workers-start seed = record { whole = fits-start seed; workers = tt; alone = tt; due = tt }

pub workers-step : BuildsFit → BuildsNew → (s : State) (m : Micro) → HaveWorkers s → HaveWorkers (step s m)
workers-step fit b s m h =
    let st = step-is s m in
    let here : WorkersOn (at_rest s) = record { workers = h.workers; alone = h.alone; due = h.due } in
    let now = workers-change b st.change (once-entered WorkersOn s (λ lane. here) (λ worker. here) here m st.start st.entered) in
    record { whole = fits-step fit s m h.whole; workers = now.workers; alone = now.alone; due = now.due }
