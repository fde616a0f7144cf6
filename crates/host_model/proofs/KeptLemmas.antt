-- What is kept is of the open objects, and of each of them: through each small change.
use Rattle.std.proofs.Common.{◌≡◌, ◌≤◌, ℕ, ◌+◌, List, [], ◌∷◌, map, nat_lt, Bool, true, false, not, ◌&&◌, cond, Option, Some, None, refl, sym, ap, ◌∙◌, subst, arith, count_by}
use Rattle.std.specs.Bool.{⊤}
use Rattle.std.specs.BTreeMap.{is_at}
use Rattle.std.specs.List.{AllByRecursion}
use Rattle.std.specs.Option.{is_some}
use Rattle.std.specs.Ordering.{nat_cmp}
use Rattle.std.specs.Prelude.{IfSome}
use Rattle.ms_base.specs.Kinds.{same_kind}
use Rattle.ms_base.specs.declared.keys.CallKey.{CallKey}
use Rattle.ms_base.specs.declared.keys.Kind.{Kind}
use Rattle.ms_base.specs.declared.keys.Kind.TheVariants as kind
use Rattle.ms_base.specs.declared.keys.Reason.{Reason}
use Rattle.ms_base.specs.declared.keys.Serial.{Serial}
use Rattle.ms_base.specs.declared.outcome.Outcome.{Outcome}
use Rattle.object_tree.specs.declared.object.Mark.{Mark}
use Rattle.object_tree.specs.declared.object.Mark.TheVariants.{Running, Paused, ProducerPaused, Far}
use Rattle.object_tree.specs.declared.object.Object.{Object}
use Rattle.object_tree.specs.Falls.{falls, is_among, with_closed}
use Rattle.object_tree.specs.Objects.{has_serial, marked, with_object}
use Rattle.pending_calls.specs.declared.waiting.Owner.{Owner}
use Rattle.pending_calls.specs.declared.waiting.Owner.TheVariants as owner
use Rattle.request_build.specs.declared.built.Keep.{Keep}
use Rattle.request_build.specs.declared.built.Keep.TheVariants as keep
use Rattle.request_build.specs.Keeps.{IsOfKind, KeepsFor, is_of_consumer, is_of_pipe, is_of_producer, is_of_router}
use Rattle.request_build.specs.Laws.{IsNewUnder}
use Rattle.host_requests.specs.declared.request.Request.{Request}
use Rattle.host_requests.specs.Requests.{is_under}
use Rattle.host_model.specs.declared.due.Due.{Due}
use Rattle.host_model.specs.declared.due.Due.TheVariants as due
use Rattle.host_model.specs.State.{State, Issued, Tables, as_serial, issued, start, with_request}
use Rattle.host_model.specs.Answer.{known}
use Rattle.host_model.specs.Changes.{new_request, owner_settled, with_kept, without}
use Rattle.host_model.specs.Falls.{all_without}
use Rattle.host_model.specs.Fit.{BuildsFit, one_if}
use Rattle.host_model.specs.Fit as fit
use Rattle.host_model.specs.Held.{IsKeptOf, KeptOfOpen}
use Rattle.host_model.specs.Run.{Journal, state_of}
use Rattle.host_model.specs.Step.{Micro, due_by, due_of, new_worker, start_request, step, turn_of}
use Rattle.host_model.proofs.Along.{along}
use Rattle.host_model.proofs.Changes.{Change, Entered, Going, at_rest, going, has_key, once-entered, step-is, still, both, notes, slots, streams, settles_call, awaits, asks_by, wants, asks_to_close, takes, takes_none, opens, settles_taken, marks, falls_with, settles_awaits}
use Rattle.host_model.proofs.Counts.{all-append, count-mapped}
use Rattle.host_model.proofs.FitLemmas.{FitsOn, due-new, fits-change, fits-entered, fits-start, next-new, open-more, open_of}
use Rattle.host_model.proofs.HeldLemmas.{BuildsKept}
use Rattle.host_model.proofs.Objects.{count-with_object}
use Rattle.host_model.proofs.Waiting.{all-fallen, all-settled, all-taken}
use Rattle.host_model.proofs.WorkerLemmas.{BuildsNew}
use Rattle.host_model.proofs.KeptTimes.{all_gone, few-open, found-times, is_the, key-same, one-open, open-fallen, open-times, times-all_gone, times-inserted, times_in, times_open}

-- ---- one table and one kind

abbrev pub Agree : {A : Type 0} → Kind → List Object → List (ℕ × A) → Type 0
Agree of_kind os table = (serial : Serial) → times_in serial table ≡ times_open of_kind serial os

agree-kept : {A : Type 0} (of_kind : Kind) (os : List Object) (table : List (ℕ × A)) → Agree of_kind os table → IsKeptOf of_kind os table
agree-kept of_kind os table h = λ serial. found-times serial table ∙ ap (nat_lt 0) (h serial) ∙ sym (open-times of_kind os serial)

agree-mapped : {A : Type 0} (of_kind : Kind) (os : List Object) (table : List (ℕ × A)) → Agree of_kind os table → (f : Object → Object)
    → ((serial : Serial) (o : Object) → is_the of_kind serial (f o) ≡ is_the of_kind serial o) → Agree of_kind (map f os) table
agree-mapped of_kind os table h f same = λ serial. h serial ∙ sym (count-mapped (is_the of_kind serial) (is_the of_kind serial) f (same serial) os)

agree-fallen : {A : Type 0} (of_kind : Kind) (os : List Object) (table : List (ℕ × A)) → Agree of_kind os table → ((serial : Serial) → times_open of_kind serial os ≤ 1)
    → (down roots : List Serial) (why : Reason) → Agree of_kind (with_closed down roots why os) (all_gone down table)
agree-fallen of_kind os table h few down roots why =
    λ serial.
    times-all_gone serial down table (λ other. omega (arith, h other, few other)) ∙ ap (λ n. cond (is_among down serial) 0 n) (h serial)
    ∙ sym (open-fallen of_kind serial os down roots why os)

-- an object that opens, with so many entries of its serial
agree-opened : {A : Type 0} (of_kind : Kind) (os : List Object) (table after : List (ℕ × A)) → Agree of_kind os table → (o : Object) (own : Bool) → o.closed ≡ None
    → own ≡ same_kind o.kind of_kind → ((serial : Serial) → times_in serial after ≡ times_in serial table + one_if (own && is_at (nat_cmp serial.0) o.serial.0))
    → Agree of_kind (with_object o os) after
agree-opened of_kind os table after h o own opened kind more = λ serial.
    let here : one_if (is_the of_kind serial o) ≡ one_if (own && is_at (nat_cmp serial.0) o.serial.0) =
    ap (λ c. one_if (has_serial serial o && (not (is_some c) && same_kind o.kind of_kind))) opened
    ∙ ap (λ b. one_if (b && same_kind o.kind of_kind)) (sym (key-same serial.0 o.serial.0))
    ∙ ap (λ b. one_if (is_at (nat_cmp serial.0) o.serial.0 && b)) (sym kind)
    ∙ ap one_if (turned (is_at (nat_cmp serial.0) o.serial.0) own) in
    omega (arith, more serial, h serial, here, count-with_object (is_the of_kind serial) o os)
  where
    turned : (a b : Bool) → (a && b) ≡ (b && a)
    turned true true = refl
    turned true false = refl
    turned false true = refl
    turned false false = refl

-- ---- all four

pub record AllAgree (os : List Object) (t : Tables) : Type 0 where
  routers : Agree kind.Router os t.routers
  producers : Agree kind.Producer os t.producers
  consumers : Agree kind.Consumer os t.consumers
  pipes : Agree kind.Pipe os t.pipes

module _ (serial : Serial) (n : Serial) where
  same-times : {A : Type 0} (table : List (ℕ × A)) → times_in n table ≡ times_in n table + 0
  same-times table = omega arith

  routers-opened : (t : Tables) (keeps : Keep) → times_in serial t.routers ≡ 0
      → times_in n (with_kept serial keeps t).routers ≡ times_in n t.routers + one_if (is_of_router keeps && is_at (nat_cmp n.0) serial.0)
  routers-opened t (keep.Router caps) none = times-inserted n t.routers serial.0 caps none
  routers-opened t (keep.Producer offer) none = same-times t.routers
  routers-opened t (keep.Consumer params) none = same-times t.routers
  routers-opened t (keep.Pipe enable_rtx) none = same-times t.routers
  routers-opened t keep.Nothing none = same-times t.routers

  producers-opened : (t : Tables) (keeps : Keep) → times_in serial t.producers ≡ 0
      → times_in n (with_kept serial keeps t).producers ≡ times_in n t.producers + one_if (is_of_producer keeps && is_at (nat_cmp n.0) serial.0)
  producers-opened t (keep.Router caps) none = same-times t.producers
  producers-opened t (keep.Producer offer) none = times-inserted n t.producers serial.0 offer none
  producers-opened t (keep.Consumer params) none = same-times t.producers
  producers-opened t (keep.Pipe enable_rtx) none = same-times t.producers
  producers-opened t keep.Nothing none = same-times t.producers

  consumers-opened : (t : Tables) (keeps : Keep) → times_in serial t.consumers ≡ 0
      → times_in n (with_kept serial keeps t).consumers ≡ times_in n t.consumers + one_if (is_of_consumer keeps && is_at (nat_cmp n.0) serial.0)
  consumers-opened t (keep.Router caps) none = same-times t.consumers
  consumers-opened t (keep.Producer offer) none = same-times t.consumers
  consumers-opened t (keep.Consumer params) none = times-inserted n t.consumers serial.0 params none
  consumers-opened t (keep.Pipe enable_rtx) none = same-times t.consumers
  consumers-opened t keep.Nothing none = same-times t.consumers

  pipes-opened : (t : Tables) (keeps : Keep) → times_in serial t.pipes ≡ 0
      → times_in n (with_kept serial keeps t).pipes ≡ times_in n t.pipes + one_if (is_of_pipe keeps && is_at (nat_cmp n.0) serial.0)
  pipes-opened t (keep.Router caps) none = same-times t.pipes
  pipes-opened t (keep.Producer offer) none = same-times t.pipes
  pipes-opened t (keep.Consumer params) none = same-times t.pipes
  pipes-opened t (keep.Pipe enable_rtx) none = times-inserted n t.pipes serial.0 enable_rtx none
  pipes-opened t keep.Nothing none = same-times t.pipes

-- a new object opens
all-opened : (os : List Object) (t : Tables) → AllAgree os t → (o : Object) (keeps : Keep) → count_by (fit.has_serial o.serial.0) os ≡ 0 → o.closed ≡ None → IsOfKind o.kind keeps
    → AllAgree (with_object o os) (with_kept o.serial keeps t)
all-opened os t h o keeps new opened own =
    let none : (of_kind : Kind) → times_open of_kind o.serial os ≡ 0 = λ of_kind. omega (arith, new, few-open of_kind o.serial os) in
    record {
      routers = agree-opened kind.Router os t.routers (with_kept o.serial keeps t).routers h.routers o (is_of_router keeps) opened own.router
          (λ n. routers-opened o.serial n t keeps (h.routers o.serial ∙ none kind.Router));
      producers = agree-opened kind.Producer os t.producers (with_kept o.serial keeps t).producers h.producers o (is_of_producer keeps) opened own.producer
          (λ n. producers-opened o.serial n t keeps (h.producers o.serial ∙ none kind.Producer));
      consumers = agree-opened kind.Consumer os t.consumers (with_kept o.serial keeps t).consumers h.consumers o (is_of_consumer keeps) opened own.consumer
          (λ n. consumers-opened o.serial n t keeps (h.consumers o.serial ∙ none kind.Consumer));
      pipes = agree-opened kind.Pipe os t.pipes (with_kept o.serial keeps t).pipes h.pipes o (is_of_pipe keeps) opened own.pipe
          (λ n. pipes-opened o.serial n t keeps (h.pipes o.serial ∙ none kind.Pipe));
    }

all-changed : (os : List Object) (t : Tables) → AllAgree os t → (f : Object → Object) → ((of_kind : Kind) (serial : Serial) (o : Object) → is_the of_kind serial (f o) ≡ is_the of_kind serial o)
    → AllAgree (map f os) t
all-changed os t h f same =
    record {
      routers = agree-mapped kind.Router os t.routers h.routers f (same kind.Router);
      producers = agree-mapped kind.Producer os t.producers h.producers f (same kind.Producer);
      consumers = agree-mapped kind.Consumer os t.consumers h.consumers f (same kind.Consumer);
      pipes = agree-mapped kind.Pipe os t.pipes h.pipes f (same kind.Pipe);
    }

routers-gone : (serials : List Serial) (t : Tables) → (all_without serials t).routers ≡ all_gone serials t.routers
routers-gone [] t = refl
routers-gone (serial ∷ serials) t = routers-gone serials (without serial t)

producers-gone : (serials : List Serial) (t : Tables) → (all_without serials t).producers ≡ all_gone serials t.producers
producers-gone [] t = refl
producers-gone (serial ∷ serials) t = producers-gone serials (without serial t)

consumers-gone : (serials : List Serial) (t : Tables) → (all_without serials t).consumers ≡ all_gone serials t.consumers
consumers-gone [] t = refl
consumers-gone (serial ∷ serials) t = consumers-gone serials (without serial t)

pipes-gone : (serials : List Serial) (t : Tables) → (all_without serials t).pipes ≡ all_gone serials t.pipes
pipes-gone [] t = refl
pipes-gone (serial ∷ serials) t = pipes-gone serials (without serial t)

all-fell : (os : List Object) (t : Tables) → AllAgree os t → ((of_kind : Kind) (serial : Serial) → times_open of_kind serial os ≤ 1) → (down roots : List Serial) (why : Reason)
    → AllAgree (with_closed down roots why os) (all_without down t)
all-fell os t h few down roots why =
    let ys : List Object = with_closed down roots why os in
    record {
      routers = subst (Agree kind.Router ys) (sym (routers-gone down t)) (agree-fallen kind.Router os t.routers h.routers (few kind.Router) down roots why);
      producers = subst (Agree kind.Producer ys) (sym (producers-gone down t)) (agree-fallen kind.Producer os t.producers h.producers (few kind.Producer) down roots why);
      consumers = subst (Agree kind.Consumer ys) (sym (consumers-gone down t)) (agree-fallen kind.Consumer os t.consumers h.consumers (few kind.Consumer) down roots why);
      pipes = subst (Agree kind.Pipe ys) (sym (pipes-gone down t)) (agree-fallen kind.Pipe os t.pipes h.pipes (few kind.Pipe) down roots why);
    }

-- ---- what is to be made

abbrev pub IsKeptDue : Due → Type 0
IsKeptDue (due.Opens object keeps) = IsOfKind object.kind keeps × (object.closed ≡ None)
IsKeptDue (due.Turns paused) = ⊤
IsKeptDue due.Nothing = ⊤

abbrev pub AreKeptDue : List (Request Due) → Type 0
AreKeptDue rs = AllByRecursion (λ (r : Request Due). IsKeptDue r.due) rs

kept-due : (turn : Option Bool) (makes : Option Object) (keeps : Keep) (olds : List Object) (under : Serial) → KeepsFor makes keeps → IfSome makes (IsNewUnder olds under)
    → IsKeptDue (due_of turn makes keeps)
kept-due turn (Some o) keeps olds under kind new = (kind, new.opens)
kept-due (Some paused) None keeps olds under kind new = tt
kept-due None None keeps olds under kind new = tt

kept-asked : (taken : List (Request Due)) (rs : List Issued) (r : Request Due) → IsKeptDue r.due → AreKeptDue (open_of taken rs) → AreKeptDue (open_of taken (with_request r rs))
kept-asked taken rs r one h =
    subst AreKeptDue (sym (open-more taken rs r)) (all-append (λ (q : Request Due). IsKeptDue q.due) (open_of taken rs) (r ∷ []) h (one, tt))

-- ---- each small change

pub record KeptOn (g : Going) : Type 0 where
  pub agree : AllAgree g.state.objects g.state.tables
  pub due : AreKeptDue (open_of g.taken g.state.requests)

kept-owner : (calls : List CallKey) (taken : List (Request Due)) (s : State) (o : Owner) (outcome : Outcome) (names : List (List ℕ)) → KeptOn (going calls taken s)
    → KeptOn (going calls taken (owner_settled o outcome names s))
kept-owner calls taken s (owner.Call call) outcome names h = record { agree = h.agree; due = h.due }
kept-owner calls taken s (owner.Job call part) outcome names h = h
kept-owner calls taken s owner.Close outcome names h = h
kept-owner calls taken s owner.Follow outcome names h = h

marked-is : (m : Mark) (of_kind : Kind) (serial : Serial) (o : Object) → is_the of_kind serial (marked m o) ≡ is_the of_kind serial o
marked-is Running of_kind serial o = refl
marked-is (Paused b) of_kind serial o = refl
marked-is (ProducerPaused b) of_kind serial o = refl
marked-is (Far far) of_kind serial o = refl

chosen-is : (b : Bool) (m : Mark) (of_kind : Kind) (serial : Serial) (o : Object) → is_the of_kind serial (cond b (marked m o) o) ≡ is_the of_kind serial o
chosen-is true m of_kind serial o = marked-is m of_kind serial o
chosen-is false m of_kind serial o = refl

pub kept-change : BuildsFit → BuildsNew → BuildsKept → {g h : Going} → Change g h → FitsOn g → KeptOn g → KeptOn h
kept-change b new k still f w = w
kept-change b new k (both x y) f w = kept-change b new k y (fits-change b x f) (kept-change b new k x f w)
kept-change b new k (notes ns plain) f w = record { agree = w.agree; due = w.due }
kept-change b new k (slots worker) f w = record { agree = w.agree; due = w.due }
kept-change b new k (streams xs) f w = record { agree = w.agree; due = w.due }
kept-change b new k (settles_call call outcome names) f w = record { agree = w.agree; due = w.due }
kept-change b new k (awaits a) f w = record { agree = w.agree; due = w.due }
kept-change b new k (asks_by {calls} {taken} {s} call op r channel payload is) f w =
    record {
      agree = w.agree;
      due = kept-asked taken s.requests (new_request channel (issued s.requests channel + 1) (owner.Call call) r.under (due_by op r))
          (kept-due (turn_of op) r.makes r.keeps (known s).objects r.under (k.kinds (known s) op r is.built_is) (new (known s) op r is.built_is)) w.due;
    }
kept-change b new k (wants {calls} {taken} {s} call name budget) f w =
    record {
      agree = all-opened s.objects s.tables w.agree (new_worker s name) keep.Nothing (next-new f) refl (record { router = refl; producer = refl; consumer = refl; pipe = refl });
      due = kept-asked taken s.requests (start_request call (as_serial s.next.serial)) tt w.due;
    }
kept-change b new k (asks_to_close {calls} {taken} {s} channel parent asked left) f w =
    record { agree = w.agree; due = kept-asked taken s.requests (new_request channel (issued s.requests channel + 1) owner.Close parent due.Nothing) tt w.due }
kept-change b new k (takes {calls} {taken} {s} key r e) f w =
    record { agree = w.agree; due = all-taken (λ (q : Request Due). IsKeptDue q.due) s.requests (has_key key) taken r e w.due }
kept-change b new k (takes_none {calls} {taken} {s} key e) f w =
    record { agree = w.agree; due = all-settled (λ (q : Request Due). IsKeptDue q.due) s.requests (has_key key) taken w.due }
kept-change b new k (opens {calls} {taken} {s} r object keeps o is same closed) f w =
    let own : IsKeptDue (due.Opens object keeps) = subst IsKeptDue is w.due.0 in
    record {
      agree = all-opened s.objects s.tables w.agree o keeps (due-new r object keeps o f is same) (closed ∙ own.1) (subst (λ (x : Kind). IsOfKind x keeps) (sym same.kind) own.0);
      due = (tt, w.due.1);
    }
kept-change b new k (settles_taken {calls} {taken} {s} r outcome names) f w =
    kept-owner calls taken s r.owner outcome names (record { agree = w.agree; due = w.due.1 })
kept-change b new k (marks {calls} {taken} {s} serial m keeps) f w =
    record {
      agree = all-changed s.objects s.tables w.agree (λ o. cond (has_serial serial o) (marked m o) o) (λ of_kind n o. chosen-is (has_serial serial o) m of_kind n o);
      due = w.due;
    }
kept-change b new k (falls_with {calls} {s} roots why) f w =
    let down : List Serial = falls s.objects roots in
    record {
      agree = all-fell s.objects s.tables w.agree (one-open f) down roots why;
      due = all-fallen (λ (q : Request Due). IsKeptDue q.due) (λ (q : Request Due). IsKeptDue q.due) s.requests (is_under down) (λ r h e. h) (λ r. tt) w.due;
    }
kept-change b new k settles_awaits f w = record { agree = w.agree; due = w.due }

-- ---- each micro step

pub kept-entered : (s : State) (m : Micro) (g : Going) → Entered s m g → KeptOn (at_rest s) → KeptOn g
kept-entered s m g e h =
    once-entered KeptOn s (λ lane. record { agree = h.agree; due = h.due }) (λ worker. record { agree = h.agree; due = h.due }) h m g e

pub kept-start : (seed : ℕ) → KeptOn (at_rest (start seed))
kept-start seed =
    let none : AllAgree [] (start seed).tables = record { routers = λ n. refl; producers = λ n. refl; consumers = λ n. refl; pipes = λ n. refl } in
    record { agree = none; due = tt }

module _ (b : BuildsFit) (new : BuildsNew) (k : BuildsKept) where
  abbrev AreKept : State → Type 0
  AreKept s = FitsOn (at_rest s) × KeptOn (at_rest s)

  kept-step : (s : State) (m : Micro) → AreKept s → AreKept (step s m)
  kept-step s m h =
      let st = step-is s m in
      let fits = fits-entered s m st.start st.entered h.0 in
      (fits-change b st.change fits, kept-change b new k st.change fits (kept-entered s m st.start st.entered h.1))

  pub kept-of_open : (j : Journal) → KeptOfOpen (state_of j)
  kept-of_open j =
      let s = state_of j in
      let h = (along AreKept kept-step (start j.seed) j.entries (fits-start j.seed, kept-start j.seed)).1.agree in
      record {
        routers = agree-kept kind.Router s.objects s.tables.routers h.routers;
        producers = agree-kept kind.Producer s.objects s.tables.producers h.producers;
        consumers = agree-kept kind.Consumer s.objects s.tables.consumers h.consumers;
        pipes = agree-kept kind.Pipe s.objects s.tables.pipes h.pipes;
      }
