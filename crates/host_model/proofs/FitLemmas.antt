-- Each small change keeps what a host knows fit, and draws little.
use Rattle.std.proofs.Common.{◌≡◌, ◌≤◌, ◌<◌, ◌^◌, ◌*◌, ℕ, suc, ◌+◌, List, [], ◌∷◌, ◌++◌, length, map, nat_le, nat_lt, Bool, true, false, ◌&&◌, ◌==◌, cond, Option, Some, None, IfSome, refl, sym, ap, ◌∙◌, subst, arith, append_assoc, count_by}
use Rattle.std.specs.List.{AllByRecursion, filter}
use Rattle.std.proofs.lemmas.Bool.Decides.{nat_tests}
use Rattle.std.proofs.lemmas.List.{length_push}
use Rattle.ms_base.specs.declared.keys.CallKey.{CallKey}
use Rattle.ms_base.specs.declared.keys.Serial.{Serial}
use Rattle.ms_base.specs.declared.outcome.Outcome.{Outcome}
use Rattle.object_tree.specs.declared.object.Object.{Object}
use Rattle.object_tree.specs.Falls.{closed_if, falls}
use Rattle.object_tree.specs.Objects.{marked, with_object}
use Rattle.object_tree.specs.Objects as objects
use Rattle.pending_calls.specs.declared.waiting.Owner.{Owner}
use Rattle.pending_calls.specs.declared.waiting.Owner.TheVariants as owner
use Rattle.request_build.specs.declared.built.Draws.{Draws}
use Rattle.request_build.specs.declared.built.Keep.{Keep}
use Rattle.request_build.specs.Asks as asks
use Rattle.request_build.specs.Known.{HasFew, Known}
use Rattle.request_build.specs.Laws.{DrawsFor, DrawsOne}
use Rattle.host_requests.specs.declared.request.Request.{Request}
use Rattle.host_requests.specs.Requests.{is_under}
use Rattle.host_model.specs.declared.due.Due.{Due}
use Rattle.host_model.specs.declared.due.Due.TheVariants as due
use Rattle.host_model.specs.State.{State, Issued, Tables, as_serial, issued, next_call, settled_where, start, waiting, waiting_for, with_request}
use Rattle.host_model.specs.Answer.{known}
use Rattle.host_model.specs.Changes.{new_request, owner_settled, with_kept}
use Rattle.host_model.specs.Falls.{all_without}
use Rattle.host_model.specs.Fit.{BuildsFit, Fits, HasDrawn, HasOwnId, IsFit, IsFitDue, has_serial, makes_serial, one_if, opens_serial}
use Rattle.host_model.specs.Run.{Journal, state_of}
use Rattle.host_model.specs.Step.{Micro, due_by, due_of, new_worker, start_request, step, turn_of}
use Rattle.host_model.proofs.BuiltLemmas.{IsNew, Stands, request-stands}
use Rattle.host_model.proofs.Changes.{Change, Entered, Going, done, going, at_rest, has_key, once-entered, step-is, still, both, notes, slots, streams, settles_call, awaits, asks_by, wants, asks_to_close, takes, takes_none, opens, settles_taken, marks, falls_with, settles_awaits}
use Rattle.host_model.proofs.Counts.{all-append, count-append, count-cons, count-found, count-none, count-others, count-push, same-itself}
use Rattle.host_model.proofs.Objects.{IsAlike, all-with_object, chosen-alike, closed-alike, count-with_object, in_order-mapped, in_order-with_object, marked-alike, own_id-alike, own_ids-mapped, serial-mapped}
use Rattle.host_model.proofs.Counts.{count-mapped}
use Rattle.host_model.proofs.Tables.{few-all_without, few-kept}
use Rattle.host_model.proofs.Waiting.{all-fallen, all-settled, all-taken, others, waiting-more, waiting-settled}
use Rattle.host_model.proofs.Along.{along}

-- ---- serials

-- how many may have a serial
abbrev pub most : ℕ → ℕ → ℕ
most n next = one_if (nat_le 1 n && nat_lt n next)

pub drawn-more : (n next c : ℕ) → 1 ≤ next → c ≤ most n next → c + one_if (next == n) ≤ most n (next + 1)
drawn-more n next c h k = grind (arith, nat_tests)

pub most-one : (n next : ℕ) → most n next ≤ 1
most-one n next = at (nat_le 1 n && nat_lt n next)
  where
    at : (b : Bool) → one_if b ≤ 1
    at true = omega arith
    at false = omega arith

most-none : (n : ℕ) → most n n ≡ 0
most-none n = at (nat_le 1 n)
  where
    at : (b : Bool) → one_if (b && nat_lt n n) ≡ 0
    at b = grind (arith, nat_tests)

-- ---- what the parts fit together

abbrev AreDue : ℕ → List (Request Due) → Type 0
AreDue seed rs = AllByRecursion (λ (r : Request Due). IsFitDue seed r.due) rs

-- fewer requests
fits-fewer : {os : List Object} {ws : List (Request Due)} {t : Tables} {next : Draws} → Fits os ws t next → (vs : List (Request Due))
    → ((n : ℕ) → count_by (makes_serial n) vs ≤ count_by (makes_serial n) ws) → AreDue next.seed vs → Fits os vs t next
fits-fewer h vs fewer due =
    record { from_one = h.from_one; drawn_once = λ n. omega (arith, h.drawn_once n, fewer n); ascending = h.ascending; own_ids = h.own_ids; due = due; few = h.few }

-- a request more, of which no object is due
fits-more : {os : List Object} {ws : List (Request Due)} {t : Tables} {next : Draws} → Fits os ws t next → (r : Request Due)
    → ((n : ℕ) → makes_serial n r ≡ false) → IsFitDue next.seed r.due → Fits os (ws ++ r ∷ []) t next
fits-more {os} {ws} {t} {next} h r none fit =
    record {
      from_one = h.from_one;
      drawn_once = λ n.
          let here : one_if (makes_serial n r) ≡ 0 = ap one_if (none n) in
          omega (arith, here, h.drawn_once n, count-push (makes_serial n) ws r);
      ascending = h.ascending;
      own_ids = h.own_ids;
      due = all-append (λ (q : Request Due). IsFitDue next.seed q.due) ws (r ∷ []) h.due (fit, tt);
      few = h.few;
    }

-- a request more that is to make an object, of the next serial
fits-asked : {os : List Object} {ws : List (Request Due)} {t : Tables} {next : Draws} → Fits os ws t next → (r : Request Due) (after : Draws) (o : Object) (keeps : Keep)
    → r.due ≡ due.Opens o keeps → DrawsOne o next after → HasOwnId next.seed o → HasFew keeps → Fits os (ws ++ r ∷ []) t after
fits-asked {os} {ws} {t} {next} h r after o keeps is drawn own few =
    record {
      from_one = omega (arith, drawn.serial);
      drawn_once = λ n.
          let here : one_if (makes_serial n r) ≡ one_if (next.serial == n) = ap (λ d. one_if (opens_serial n d)) is ∙ ap (λ k. one_if (k == n)) drawn.own in
          let more = drawn-more n next.serial (count_by (has_serial n) os + count_by (makes_serial n) ws) h.from_one (h.drawn_once n) in
          let far : most n (next.serial + 1) ≡ most n after.serial = ap (most n) (sym drawn.serial) in
          omega (arith, here, more, far, count-push (makes_serial n) ws r);
      ascending = h.ascending;
      own_ids = subst (λ s. AllByRecursion (HasOwnId s) os) (sym drawn.seed) h.own_ids;
      due = subst (λ s. AreDue s (ws ++ r ∷ [])) (sym drawn.seed)
          (all-append (λ (q : Request Due). IsFitDue next.seed q.due) ws (r ∷ []) h.due (subst (IsFitDue next.seed) (sym is) (own, few), tt));
      few = h.few;
    }

-- what is made has the id of its serial
own-ids : (k : Known) (r : asks.Request) → Stands k r → IfSome r.makes (HasOwnId k.next.seed)
own-ids k r h = any-own r.makes h.new
  where
    any-own : (o : Option Object) → IfSome o (IsNew k r) → IfSome o (HasOwnId k.next.seed)
    any-own None n = tt
    any-own (Some o) n = n.own_id

-- a request that a call comes to
fits-issued : {os : List Object} {ws : List (Request Due)} {t : Tables} {next : Draws} → Fits os ws t next → (r : Request Due) (after : Draws) (turn : Option Bool) (makes : Option Object) (keeps : Keep)
    → r.due ≡ due_of turn makes keeps → DrawsFor makes next after → IfSome makes (HasOwnId next.seed) → HasFew keeps → Fits os (ws ++ r ∷ []) t after
fits-issued h r after turn (Some o) keeps is drawn own few = fits-asked h r after o keeps is drawn own few
fits-issued {os} {ws} {t} {next} h r after (Some paused) None keeps is drawn own few =
    subst (Fits os (ws ++ r ∷ []) t) (sym drawn) (fits-more h r (λ n. ap (opens_serial n) is) (subst (IsFitDue next.seed) (sym is) tt))
fits-issued {os} {ws} {t} {next} h r after None None keeps is drawn own few =
    subst (Fits os (ws ++ r ∷ []) t) (sym drawn) (fits-more h r (λ n. ap (opens_serial n) is) (subst (IsFitDue next.seed) (sym is) tt))

-- an object that was due has the serial that the request is to make
due-serial : (r : Request Due) (object : Object) (keeps : Keep) (o : Object) → r.due ≡ due.Opens object keeps → IsAlike object o
    → (n : ℕ) → one_if (makes_serial n r) ≡ one_if (has_serial n o)
due-serial r object keeps o is same n = ap (λ d. one_if (opens_serial n d)) is ∙ ap (λ (s : Serial). one_if (s.0 == n)) (sym same.serial)

-- no object has it yet
pub due-new : {os : List Object} {ws : List (Request Due)} {t : Tables} {next : Draws} (r : Request Due) (object : Object) (keeps : Keep) (o : Object) → Fits os (r ∷ ws) t next
    → r.due ≡ due.Opens object keeps → IsAlike object o → count_by (has_serial o.serial.0) os ≡ 0
due-new {os} {ws} {t} {next} r object keeps o h is same =
    let n = o.serial.0 in
    let one : one_if (has_serial n o) ≡ 1 = ap one_if (same-itself n) in
    omega (arith, one, due-serial r object keeps o is same n, most-one n next.serial, h.drawn_once n, count-cons (makes_serial n) r ws)

-- an object that was due opens
fits-opened : {os : List Object} {ws : List (Request Due)} {t : Tables} {next : Draws} (r : Request Due) (object : Object) (keeps : Keep) (o : Object) → Fits os (r ∷ ws) t next
    → r.due ≡ due.Opens object keeps → IsAlike object o → Fits (with_object o os) (done r ∷ ws) (with_kept o.serial keeps t) next
fits-opened {os} {ws} {t} {next} r object keeps o h is same =
    let due : IsFitDue next.seed (due.Opens object keeps) = subst (IsFitDue next.seed) is h.due.0 in
    let counted = due-serial r object keeps o is same in
    let fresh = due-new r object keeps o h is same in
    record {
      from_one = h.from_one;
      drawn_once = λ n.
          omega (arith, counted n, h.drawn_once n, count-cons (makes_serial n) r ws, count-cons (makes_serial n) (done r) ws, count-with_object (has_serial n) o os);
      ascending = in_order-with_object o os h.ascending fresh;
      own_ids = all-with_object (HasOwnId next.seed) o os (own_id-alike next.seed object o same due.0) h.own_ids;
      due = (tt, h.due.1);
      few = few-kept t o.serial keeps h.few due.1;
    }

-- objects change, but not in what tells them apart
fits-mapped : {os : List Object} {ws : List (Request Due)} {t : Tables} {next : Draws} → Fits os ws t next → (f : Object → Object) → ((o : Object) → IsAlike o (f o))
    → Fits (map f os) ws t next
fits-mapped {os} {ws} {t} {next} h f same =
    record {
      from_one = h.from_one;
      drawn_once = λ n. omega (arith, h.drawn_once n, count-mapped (has_serial n) (has_serial n) f (serial-mapped f same n) os);
      ascending = in_order-mapped f same os h.ascending;
      own_ids = own_ids-mapped f same next.seed os h.own_ids;
      due = h.due;
      few = h.few;
    }

-- nothing is kept any more of some
fits-without : {os : List Object} {ws : List (Request Due)} {t : Tables} {next : Draws} → Fits os ws t next → (serials : List Serial) → Fits os ws (all_without serials t) next
fits-without {os} {ws} {t} {next} h serials =
    record { from_one = h.from_one; drawn_once = h.drawn_once; ascending = h.ascending; own_ids = h.own_ids; due = h.due; few = few-all_without serials t h.few }

-- no object has the serial that is drawn next
pub next-new : {os : List Object} {ws : List (Request Due)} {t : Tables} {next : Draws} → Fits os ws t next → count_by (has_serial next.serial) os ≡ 0
next-new {os} {ws} {t} {next} h = omega (arith, most-none next.serial, h.drawn_once next.serial)

-- a Worker comes
fits-worker : {os : List Object} {ws : List (Request Due)} {t : Tables} {next : Draws} → Fits os ws t next → (o : Object) → o.serial.0 ≡ next.serial → HasOwnId next.seed o
    → Fits (with_object o os) ws t (record next { serial = next.serial + 1 })
fits-worker {os} {ws} {t} {next} h o is own =
    let none = next-new h in
    record {
      from_one = omega (arith, h.from_one);
      drawn_once = λ n.
          let here : one_if (has_serial n o) ≡ one_if (next.serial == n) = ap (λ k. one_if (k == n)) is in
          let more = drawn-more n next.serial (count_by (has_serial n) os + count_by (makes_serial n) ws) h.from_one (h.drawn_once n) in
          omega (arith, here, more, count-with_object (has_serial n) o os);
      ascending = in_order-with_object o os h.ascending (ap (λ n. count_by (has_serial n) os) is ∙ none);
      own_ids = all-with_object (HasOwnId next.seed) o os own h.own_ids;
      due = h.due;
      few = h.few;
    }

-- ---- the requests: those in hand, and those without a settlement

abbrev pub open_of : List (Request Due) → List Issued → List (Request Due)
open_of taken rs = taken ++ waiting rs

pub open-more : (taken : List (Request Due)) (rs : List Issued) (r : Request Due) → open_of taken (with_request r rs) ≡ open_of taken rs ++ r ∷ []
open-more taken rs r = ap (λ (ws : List (Request Due)). taken ++ ws) (waiting-more rs r) ∙ sym (append_assoc taken (waiting rs) (r ∷ []))

-- some are settled
module _ (rs : List Issued) (test : Request Due → Bool) where
  count-settled : (q : Request Due → Bool) → count_by q (waiting (settled_where test rs)) ≡ count_by q (others test (waiting rs))
  count-settled q = ap (count_by q) (waiting-settled test rs)

  module _ (taken : List (Request Due)) where
    fewer-taken : (q : Request Due → Bool) (r : Request Due) → waiting_for test rs ≡ Some r
        → count_by q (r ∷ open_of taken (settled_where test rs)) ≤ count_by q (open_of taken rs)
    fewer-taken q r e =
        omega (
          arith,
          count-cons q r (open_of taken (settled_where test rs)),
          count-append q taken (waiting (settled_where test rs)),
          count-settled q,
          count-append q taken (waiting rs),
          count-found q test (waiting rs) r e,
        )

    fewer-settled : (q : Request Due → Bool) → count_by q (open_of taken (settled_where test rs)) ≤ count_by q (open_of taken rs)
    fewer-settled q =
        omega (
          arith,
          count-append q taken (waiting (settled_where test rs)),
          count-settled q,
          count-append q taken (waiting rs),
          count-others q test (waiting rs),
        )

  -- those that are taken out make nothing any more
  taken-none : (n : ℕ) (xs : List (Request Due)) → count_by (makes_serial n) (map done xs) ≡ 0
  taken-none n xs = count-mapped (makes_serial n) (λ r. false) done (λ r. refl) xs ∙ count-none (λ (r : Request Due). false) (λ r. refl) xs

  fewer-fallen : (n : ℕ) → count_by (makes_serial n) (open_of (map done (filter test (waiting rs))) (settled_where test rs)) ≤ count_by (makes_serial n) (waiting rs)
  fewer-fallen n =
      omega (
        arith,
        count-append (makes_serial n) (map done (filter test (waiting rs))) (waiting (settled_where test rs)),
        taken-none n (filter test (waiting rs)),
        count-settled (makes_serial n),
        count-others (makes_serial n) test (waiting rs),
      )

-- ---- each small change

abbrev pub FitsOn : Going → Type 0
FitsOn g = Fits g.state.objects (open_of g.taken g.state.requests) g.state.tables g.state.next

fits-owner : (calls : List CallKey) (taken : List (Request Due)) (s : State) (o : Owner) (outcome : Outcome) (names : List (List ℕ)) → FitsOn (going calls taken s)
    → FitsOn (going calls taken (owner_settled o outcome names s))
fits-owner calls taken s (owner.Call call) outcome names h = h
fits-owner calls taken s (owner.Job call part) outcome names h = h
fits-owner calls taken s owner.Close outcome names h = h
fits-owner calls taken s owner.Follow outcome names h = h

pub fits-change : BuildsFit → {g h : Going} → Change g h → FitsOn g → FitsOn h
fits-change b still f = f
fits-change b (both x y) f = fits-change b y (fits-change b x f)
fits-change b (notes ns plain) f = f
fits-change b (slots worker) f = f
fits-change b (streams xs) f = f
fits-change b (settles_call call outcome names) f = f
fits-change b (awaits a) f = f
fits-change b (asks_by {calls} {taken} {s} call op r channel payload is) f =
    let q : Request Due = new_request channel (issued s.requests channel + 1) (owner.Call call) r.under (due_by op r) in
    subst (λ ws. Fits s.objects ws s.tables r.next) (sym (open-more taken s.requests q))
    (fits-issued f q r.next (turn_of op) r.makes r.keeps refl (b.draws (known s) op r f.few is.built_is) (own-ids (known s) r (request-stands (known s) op r is.built_is)) (b.few (known s) op r f.few is.built_is))
fits-change b (wants {calls} {taken} {s} call name budget) f =
    let q : Request Due = start_request call (as_serial s.next.serial) in
    subst (λ ws. Fits (with_object (new_worker s name) s.objects) ws s.tables (record s.next { serial = s.next.serial + 1 })) (sym (open-more taken s.requests q))
    (fits-more (fits-worker f (new_worker s name) refl (λ e. refl)) q (λ n. refl) tt)
fits-change b (asks_to_close {calls} {taken} {s} channel parent asked left) f =
    let q : Request Due = new_request channel (issued s.requests channel + 1) owner.Close parent due.Nothing in
    subst (λ ws. Fits s.objects ws s.tables s.next) (sym (open-more taken s.requests q)) (fits-more f q (λ n. refl) tt)
fits-change b (takes {calls} {taken} {s} key r e) f =
    fits-fewer f (r ∷ open_of taken (settled_where (has_key key) s.requests)) (λ n. fewer-taken s.requests (has_key key) taken (makes_serial n) r e)
    (all-taken (λ (q : Request Due). IsFitDue s.next.seed q.due) s.requests (has_key key) taken r e f.due)
fits-change b (takes_none {calls} {taken} {s} key e) f =
    fits-fewer f (open_of taken (settled_where (has_key key) s.requests)) (λ n. fewer-settled s.requests (has_key key) taken (makes_serial n))
    (all-settled (λ (q : Request Due). IsFitDue s.next.seed q.due) s.requests (has_key key) taken f.due)
fits-change b (opens r object keeps o is same closed) f = fits-opened r object keeps o f is same
fits-change b (settles_taken {calls} {taken} {s} r outcome names) f =
    fits-owner calls taken s r.owner outcome names
    (fits-fewer f (open_of taken s.requests) (λ n. omega (arith, count-cons (makes_serial n) r (open_of taken s.requests))) f.due.1)
fits-change b (marks {calls} {taken} {s} serial m keeps) f =
    fits-mapped f (λ o. cond (objects.has_serial serial o) (marked m o) o) (λ o. chosen-alike (objects.has_serial serial o) o (marked m o) (marked-alike m keeps o))
fits-change b (falls_with {calls} {s} roots why) f =
    let down : List Serial = falls s.objects roots in
    fits-without
    (fits-mapped
    (fits-fewer f (open_of (map done (filter (is_under down) (waiting s.requests))) (settled_where (is_under down) s.requests)) (fewer-fallen s.requests (is_under down))
    (all-fallen (λ (q : Request Due). IsFitDue s.next.seed q.due) (λ (q : Request Due). IsFitDue s.next.seed q.due) s.requests (is_under down) (λ r k e. k) (λ r. tt) f.due))
    (closed_if s.objects down roots why) (closed-alike s.objects down roots why))
    down
fits-change b settles_awaits f = f

-- ---- what is drawn

-- so little was drawn from one moment to another, each with the calls in hand and those that were entered
record DrawsLittle (next : Draws) (hand entered : ℕ) (next' : Draws) (hand' entered' : ℕ) : Type 0 where
  seed : next'.seed ≡ next.seed
  serials : next'.serial + hand' + entered ≤ next.serial + hand + entered'
  ssrcs : next'.ssrc + 16 * hand' + 16 * entered ≤ next.ssrc + 16 * hand + 16 * entered'

abbrev DrawsOn : Going → Going → Type 0
DrawsOn g h = DrawsLittle g.state.next (length g.calls) (length g.state.calls) h.state.next (length h.calls) (length h.state.calls)

draws-none : (next : Draws) (hand entered : ℕ) → DrawsLittle next hand entered next hand entered
draws-none next hand entered = record { seed = refl; serials = omega arith; ssrcs = omega arith }

-- a call that comes to nothing that draws
draws-settled : (next : Draws) (hand entered : ℕ) → DrawsLittle next (suc hand) entered next hand entered
draws-settled next hand entered = record { seed = refl; serials = omega arith; ssrcs = omega arith }

-- a call that is entered
draws-entered : (next : Draws) (hand entered entered' : ℕ) → entered' ≡ entered + 1 → DrawsLittle next hand entered next (suc hand) entered'
draws-entered next hand entered entered' more = record { seed = refl; serials = omega (arith, more); ssrcs = omega (arith, more) }

-- a call that comes to a request
draws-asked : (makes : Option Object) (next after : Draws) (hand entered : ℕ) → DrawsFor makes next after → DrawsLittle next (suc hand) entered after hand entered
draws-asked None next after hand entered drawn = subst (λ d. DrawsLittle next (suc hand) entered d hand entered) (sym drawn) (draws-settled next hand entered)
draws-asked (Some o) next after hand entered drawn = record { seed = drawn.seed; serials = omega (arith, drawn.serial); ssrcs = omega (arith, drawn.few) }

draws-worker : (next : Draws) (hand entered : ℕ) → DrawsLittle next (suc hand) entered (record next { serial = next.serial + 1 }) hand entered
draws-worker next hand entered = record { seed = refl; serials = omega arith; ssrcs = omega arith }

draws-then : (g h i : Going) → DrawsOn g h → DrawsOn h i → DrawsOn g i
draws-then g h i x y = record { seed = y.seed ∙ x.seed; serials = omega (arith, x.serials, y.serials); ssrcs = omega (arith, x.ssrcs, y.ssrcs) }

draws-owner : (calls : List CallKey) (taken : List (Request Due)) (s : State) (r : Request Due) (o : Owner) (outcome : Outcome) (names : List (List ℕ))
    → DrawsOn (going calls (r ∷ taken) s) (going calls taken (owner_settled o outcome names s))
draws-owner calls taken s r (owner.Call call) outcome names = draws-none s.next (length calls) (length s.calls)
draws-owner calls taken s r (owner.Job call part) outcome names = draws-none s.next (length calls) (length s.calls)
draws-owner calls taken s r owner.Close outcome names = draws-none s.next (length calls) (length s.calls)
draws-owner calls taken s r owner.Follow outcome names = draws-none s.next (length calls) (length s.calls)

draws-change : BuildsFit → {g h : Going} → Change g h → FitsOn g → DrawsOn g h
draws-change b (still {g}) f = draws-none g.state.next (length g.calls) (length g.state.calls)
draws-change b (both {g} {h} {i} x y) f = draws-then g h i (draws-change b x f) (draws-change b y (fits-change b x f))
draws-change b (notes {calls} {taken} {s} ns plain) f = draws-none s.next (length calls) (length s.calls)
draws-change b (slots {s} worker) f = draws-none s.next 0 (length s.calls)
draws-change b (streams {calls} {taken} {s} xs) f = draws-none s.next (length calls) (length s.calls)
draws-change b (settles_call {calls} {taken} {s} call outcome names) f = draws-settled s.next (length calls) (length s.calls)
draws-change b (awaits {calls} {taken} {s} a) f = draws-settled s.next (length calls) (length s.calls)
draws-change b (asks_by {calls} {taken} {s} call op r channel payload is) f =
    draws-asked r.makes s.next r.next (length calls) (length s.calls) (b.draws (known s) op r f.few is.built_is)
draws-change b (wants {calls} {taken} {s} call name budget) f = draws-worker s.next (length calls) (length s.calls)
draws-change b (asks_to_close {calls} {taken} {s} channel parent asked left) f = draws-none s.next (length calls) (length s.calls)
draws-change b (takes {calls} {taken} {s} key r e) f = draws-none s.next (length calls) (length s.calls)
draws-change b (takes_none {calls} {taken} {s} key e) f = draws-none s.next (length calls) (length s.calls)
draws-change b (opens {calls} {taken} {s} r object keeps o is same closed) f = draws-none s.next (length calls) (length s.calls)
draws-change b (settles_taken {calls} {taken} {s} r outcome names) f = draws-owner calls taken s r r.owner outcome names
draws-change b (marks {calls} {taken} {s} serial m keeps) f = draws-none s.next (length calls) (length s.calls)
draws-change b (falls_with {calls} {s} roots why) f = draws-none s.next (length calls) (length s.calls)
draws-change b (settles_awaits {calls} {taken} {s}) f = draws-none s.next (length calls) (length s.calls)

-- ---- each micro step, and whole journals

pub fits-entered : (s : State) (m : Micro) (g : Going) → Entered s m g → FitsOn (at_rest s) → FitsOn g
fits-entered s m g e f = once-entered FitsOn s (λ lane. f) (λ worker. f) f m g e

pub fits-step : BuildsFit → (s : State) (m : Micro) → FitsOn (at_rest s) → FitsOn (at_rest (step s m))
fits-step b s m f = let st = step-is s m in fits-change b st.change (fits-entered s m st.start st.entered f)

draws-step : BuildsFit → (s : State) (m : Micro) → FitsOn (at_rest s) → DrawsOn (at_rest s) (at_rest (step s m))
draws-step b s m f =
    let st = step-is s m in
    draws-then (at_rest s) st.start (at_rest (step s m))
    (once-entered (DrawsOn (at_rest s)) s
    (λ lane. draws-entered s.next 0 (length s.calls) (length (s.calls ++ next_call s.calls lane ∷ [])) (length_push s.calls (next_call s.calls lane)))
    (λ worker. draws-none s.next 0 (length s.calls)) (draws-none s.next 0 (length s.calls)) m st.start st.entered)
    (draws-change b st.change (fits-entered s m st.start st.entered f))

pub fit-step : BuildsFit → (s : State) (m : Micro) → IsFit s → IsFit (step s m)
fit-step b s m h =
    record { seed = subst (λ n. n < 2 ^ 60) (sym (draws-step b s m h.whole).seed) h.seed; whole = fits-step b s m h.whole }

pub drawn-step : BuildsFit → (seed : ℕ) (s : State) (m : Micro) → IsFit s → HasDrawn seed s → HasDrawn seed (step s m)
drawn-step b seed s m h d =
    let little = draws-step b s m h.whole in
    record { same_seed = little.seed ∙ d.same_seed; serials = omega (arith, little.serials, d.serials); ssrcs = omega (arith, little.ssrcs, d.ssrcs) }

pub fits-start : (seed : ℕ) → FitsOn (at_rest (start seed))
fits-start seed =
    record { from_one = omega arith; drawn_once = λ n. omega arith; ascending = tt; own_ids = tt; due = tt; few = record { producers = tt; consumers = tt } }

pub fit-start : (seed : ℕ) → seed < 2 ^ 60 → IsFit (start seed)
fit-start seed h = record { seed = h; whole = fits-start seed }

pub drawn-start : (seed : ℕ) → HasDrawn seed (start seed)
drawn-start seed = record { same_seed = refl; serials = omega arith; ssrcs = omega arith }

abbrev IsWell : ℕ → State → Type 0
IsWell seed s = IsFit s × HasDrawn seed s

pub well : BuildsFit → (j : Journal) → j.seed < 2 ^ 60 → IsFit (state_of j) × HasDrawn j.seed (state_of j)
well b j h =
    along (IsWell j.seed) (λ s m w. (fit-step b s m w.0, drawn-step b j.seed s m w.0 w.1)) (start j.seed) j.entries (fit-start j.seed h, drawn-start j.seed)
