-- Requests that are issued and settled, and what they are to make.
use Rattle.std.proofs.Common.{◌≡◌, ℕ, ◌+◌, ◌-◌, List, [], ◌∷◌, ◌++◌, map, Bool, true, false, not, ◌&&◌, ◌||◌, cond, Option, Some, None, bytes_eq, refl, sym, ap, ◌∙◌, subst, arith, count_by, nat_lt}
use Rattle.std.specs.List.{AllByRecursion, find, list_any}
use Rattle.ms_base.specs.declared.id.Id.{Id}
use Rattle.ms_base.specs.declared.keys.CallKey.{CallKey}
use Rattle.ms_base.specs.declared.keys.Event.{Event}
use Rattle.ms_base.specs.declared.keys.Serial.{Serial}
use Rattle.ms_base.specs.declared.keys.WorkerKey.{WorkerKey}
use Rattle.transcript.specs.declared.note.Note.TheVariants as note
use Rattle.object_tree.specs.declared.object.Object.{Object}
use Rattle.object_tree.specs.Objects.{named}
use Rattle.pending_calls.specs.declared.waiting.Owner.{Owner}
use Rattle.request_build.specs.declared.names.Names.{Names}
use Rattle.request_build.specs.declared.router_ids.RouterIds.{RouterIds}
use Rattle.request_build.specs.Counts as counts
use Rattle.request_build.specs.Counts.{one_if, times_named}
use Rattle.host_awaits.specs.Awaits.{times_noted}
use Rattle.host_awaits.specs.Watching.{HasNoneYet, Watched, Watching, awaits_in, times_in, touched_by}
use Rattle.host_notes.specs.Keys.{same_worker}
use Rattle.host_requests.specs.declared.request.Request.{Request}
use Rattle.host_requests.specs.Requests.{RequestsView, last_on, others}
use Rattle.host_model.specs.declared.due.Due.{Due}
use Rattle.host_model.specs.Changes.{new_request, noted, request_issued}
use Rattle.host_model.specs.State.{Issued, State, is_being_made, is_by, issued, makes_named, makes_producer, names_of, offers_due, settled_where, waiting, with_request}
use Rattle.host_model.specs.Step.{is_given_up, is_hopeless, start_request}
use Rattle.host_tables.specs.Kept.{Expects, ExpectsNoMore, HasLookUps, IsAlone, IsKept, Moves, Seen, is_one_of}
use Rattle.host_tables.specs.declared.tables.Tables.{Tables}
use Rattle.host_tables.proofs.Counts.{any-append, any-counted, count-alone, count-cons, count-last, count-push, one-more, one-of-turned, or-false, others-none}
use Rattle.host_tables.proofs.Watching.{awaits-touched, rest-same, rest-touched}

-- ---- the requests without a settlement

waiting-more : (rs : List Issued) (r : Request Due) → waiting (with_request r rs) ≡ waiting rs ++ r ∷ []
waiting-more [] r = refl
waiting-more (x ∷ xs) r = at x.settled (waiting-more xs r)
  where
    at : (b : Bool) → waiting (with_request r xs) ≡ waiting xs ++ r ∷ []
        → cond b (waiting (with_request r xs)) (x.request ∷ waiting (with_request r xs)) ≡ cond b (waiting xs) (x.request ∷ waiting xs) ++ r ∷ []
    at true h = h
    at false h = ap (λ (l : List (Request Due)). x.request ∷ l) h

pub waiting-settled : (test : Request Due → Bool) (rs : List Issued) → waiting (settled_where test rs) ≡ others test (waiting rs)
waiting-settled test [] = refl
waiting-settled test (x ∷ xs) = at x.settled (waiting-settled test xs)
  where
    unsettled : (t : Bool) → waiting (settled_where test xs) ≡ others test (waiting xs)
        → cond t (waiting (settled_where test xs)) (x.request ∷ waiting (settled_where test xs)) ≡ cond (not t) (x.request ∷ others test (waiting xs)) (others test (waiting xs))
    unsettled true h = h
    unsettled false h = ap (λ (l : List (Request Due)). x.request ∷ l) h

    at : (b : Bool) → waiting (settled_where test xs) ≡ others test (waiting xs)
        → cond (b || test x.request) (waiting (settled_where test xs)) (x.request ∷ waiting (settled_where test xs)) ≡ others test (cond b (waiting xs) (x.request ∷ waiting xs))
    at true h = h
    at false h = unsettled (test x.request) h

pub issued-settled : (test : Request Due → Bool) (worker : WorkerKey) (rs : List Issued) → issued (settled_where test rs) worker ≡ issued rs worker
issued-settled test worker [] = refl
issued-settled test worker (x ∷ xs) =
    let q : Issued → Bool = λ r. is_by worker r.request.via in
    count-cons q (record x { settled = x.settled || test x.request }) (settled_where test xs) ∙ ap (λ n. one_if (is_by worker x.request.via) + n) (issued-settled test worker xs)
    ∙ sym (count-cons q x xs)

-- ---- other requests wait, and the awaits of what they were to make are touched

hopeless-same : (s : State) (qs : List Issued) (n : List ℕ) → is_being_made qs n ≡ is_being_made s.requests n → (o : Option Object)
    → is_given_up (record s { requests = qs }) n o ≡ is_given_up s n o
hopeless-same s qs n same None = ap (λ b. not b && list_any (bytes_eq n) s.failed) same
hopeless-same s qs n same (Some o) = refl

-- the tables where other requests wait
abbrev pub remade : Tables → Names → RouterIds → Watching → RequestsView Due → Tables
remade t names ids w rs = record t { kept = record t.kept { names = names; producer_ids = ids }; awaits = w; requests = rs }

pub record AreOf (qs : List Issued) (names : Names) (ids : RouterIds) (rs : RequestsView Due) : Type 0 where
  pub names_made : (n : List ℕ) → times_named names n ≡ count_by (makes_named n) (waiting qs)
  pub offered : (router : Serial) (id : Id) → counts.times_in ids router id ≡ count_by (makes_producer router id) (waiting qs)
  pub waits : rs.waiting ≡ waiting qs
  pub lasts : (worker : WorkerKey) → last_on rs worker ≡ issued qs worker

pub remade-kept : (s : State) (t : Tables) (names : Names) (ids : RouterIds) (w : Watching) (rs : RequestsView Due) (qs : List Issued) (is_of : List ℕ → Bool) → AreOf qs names ids rs
    → w.waiting ≡ map (touched_by is_of) t.awaits.waiting → ((n : List ℕ) (e : Event) → times_in w n e ≡ times_in t.awaits n e)
    → ((n : List ℕ) → is_of n ≡ false → is_being_made qs n ≡ is_being_made s.requests n)
    → IsKept s t → IsKept (record s { requests = qs }) (remade t names ids w rs)
remade-kept s t names ids w rs qs is_of of waiting_now times same k =
    let after : State = record s { requests = qs } in
    let awaits : awaits_in w ≡ s.awaits = ap (map (λ (x : Watched). x.awaited)) waiting_now ∙ awaits-touched is_of t.awaits.waiting ∙ ap (λ (v : Seen). v.awaits) k.look_ups in
    let same_times : (n : List ℕ) (e : Event) → times_in w n e ≡ times_noted s.notes n e = λ n e. times n e ∙ ap (λ (v : Seen). v.times n e) k.look_ups in
    record {
      look_ups = λ i. record (k.look_ups i) {
        names = λ n. of.names_made n i;
        offered = λ router id. of.offered router id i;
        waits = of.waits i;
        lasts = λ worker. of.lasts worker i;
        awaits = awaits i;
        times = λ n e. same_times n e i;
      };
      at_rest =
          subst (AllByRecursion (HasNoneYet (times_noted s.notes) (is_hopeless after))) (sym waiting_now)
          (rest-touched (times_noted s.notes) (times_noted s.notes) (is_hopeless s) (is_hopeless after) is_of (λ n e f. refl)
          (λ n f. hopeless-same s qs n (same n f) (named s.objects n)) t.awaits.waiting k.at_rest);
    }

-- ---- one request more

module _ (s : State) (t : Tables) (k : HasLookUps s t) (r : Request Due) (names : Names) (ids : RouterIds) (rs : RequestsView Due) where
  more-of : ((n : List ℕ) → times_named names n ≡ times_named t.kept.names n + one_if (is_one_of (names_of r.due) n))
      → ((router : Serial) (id : Id) → counts.times_in ids router id ≡ counts.times_in t.kept.producer_ids router id + one_if (offers_due router id r.due))
      → rs.waiting ≡ t.requests.waiting ++ r ∷ [] → ((w : WorkerKey) → last_on rs w ≡ issued s.requests w + one_if (is_by w r.via))
      → AreOf (with_request r s.requests) names ids rs
  more-of named_more offered waits lasts = record {
    names_made = λ n.
        named_more n ∙ (λ i. (k i).names n + one_if (one-of-turned (names_of r.due) n i)) ∙ sym (count-push (makes_named n) (waiting s.requests) r)
        ∙ ap (count_by (makes_named n)) (sym (waiting-more s.requests r));
    offered = λ router id.
        offered router id ∙ ap (λ (v : Seen). v.offered router id + one_if (offers_due router id r.due)) k ∙ sym (count-push (makes_producer router id) (waiting s.requests) r)
        ∙ ap (count_by (makes_producer router id)) (sym (waiting-more s.requests r));
    waits = waits ∙ ap (λ (v : Seen). v.waits ++ r ∷ []) k ∙ sym (waiting-more s.requests r);
    lasts = λ w. lasts w ∙ sym (count-push (λ (x : Issued). is_by w x.request.via) s.requests (record { request = r; settled = false }));
  }

made-more : (rs : List Issued) (r : Request Due) (n : List ℕ) → is_one_of (names_of r.due) n ≡ false → is_being_made (with_request r rs) n ≡ is_being_made rs n
made-more rs r n f =
    ap (list_any (makes_named n)) (waiting-more rs r) ∙ any-append (makes_named n) (waiting rs) (r ∷ [])
    ∙ ap (λ b. list_any (makes_named n) (waiting rs) || (b || false)) (sym (one-of-turned (names_of r.due) n) ∙ f) ∙ or-false (is_being_made rs n)

-- a request to a worker, with the next id of its channel
pub issued-kept : (s : State) (t mid : Tables) (channel : WorkerKey) (owner : Owner) (under : Serial) (due : Due) (id : ℕ) (rs : RequestsView Due) → Expects due t mid
    → id ≡ last_on mid.requests channel + 1 → rs.waiting ≡ mid.requests.waiting ++ new_request channel id owner under due ∷ []
    → ((w : WorkerKey) → last_on rs w ≡ cond (same_worker channel w) (last_on mid.requests w + 1) (last_on mid.requests w))
    → IsKept s t → IsKept (record s { requests = with_request (new_request channel (issued s.requests channel + 1) owner under due) s.requests }) (record mid { requests = rs })
issued-kept s t mid channel owner under due id rs h is_id waits lasts k =
    let same_requests : mid.requests ≡ t.requests = ap (λ (x : Tables). x.requests) h.touches.others in
    let next_id : id ≡ issued s.requests channel + 1 = is_id ∙ ap (λ (v : RequestsView Due). last_on v channel + 1) same_requests ∙ ap (λ (v : Seen). v.lasts channel + 1) k.look_ups in
    let r : Request Due = new_request channel (issued s.requests channel + 1) owner under due in
    let waits_now : rs.waiting ≡ t.requests.waiting ++ r ∷ [] =
    waits ∙ (λ i. (same_requests i).waiting ++ new_request channel (next_id i) owner under due ∷ []) in
    let lasts_now : (w : WorkerKey) → last_on rs w ≡ issued s.requests w + one_if (is_by w r.via) =
    λ w. lasts w ∙ ap (λ (v : RequestsView Due). cond (same_worker channel w) (last_on v w + 1) (last_on v w)) same_requests ∙ one-more (same_worker channel w) (last_on t.requests w)
    ∙ ap (λ (v : Seen). v.lasts w + one_if (same_worker channel w)) k.look_ups in
    subst (λ (x : Tables). IsKept (record s { requests = with_request r s.requests }) (record x { requests = rs })) (sym h.touches.others)
    (remade-kept s t mid.kept.names mid.kept.producer_ids mid.awaits rs (with_request r s.requests) (is_one_of (names_of due))
    (more-of s t k.look_ups r mid.kept.names mid.kept.producer_ids rs h.names h.offered waits_now lasts_now)
    h.touches.waiting h.touches.times (λ n f. made-more s.requests r n f) k)

pub issued-moves : (t mid now : Tables) (channel : WorkerKey) (owner : Owner) (under : Serial) (due : Due) (id : ℕ) (payload : List ℕ) (rs : RequestsView Due) → Expects due t mid
    → id ≡ last_on mid.requests channel + 1 → rs.waiting ≡ mid.requests.waiting ++ new_request channel id owner under due ∷ []
    → ((w : WorkerKey) → last_on rs w ≡ cond (same_worker channel w) (last_on mid.requests w + 1) (last_on mid.requests w))
    → Moves (noted (note.Sent channel payload)) (record mid { requests = rs }) now → Moves (request_issued channel owner under due payload) t now
issued-moves t mid now channel owner under due id payload rs h is_id waits lasts moves = λ s k.
    moves (record s { requests = with_request (new_request channel (issued s.requests channel + 1) owner under due) s.requests })
    (issued-kept s t mid channel owner under due id rs h is_id waits lasts k)

-- a call that waits for a start
pub start_added-moves : (t : Tables) (call : CallKey) (worker : Serial) (rs : RequestsView Due) → rs ≡ record t.requests { waiting = t.requests.waiting ++ start_request call worker ∷ [] }
    → Moves (λ s. record s { requests = with_request (start_request call worker) s.requests }) t (record t { requests = rs })
start_added-moves t call worker rs e = λ s k.
    let r : Request Due = start_request call worker in
    let after : State = record s { requests = with_request r s.requests } in
    let names : (n : List ℕ) → times_named t.kept.names n ≡ count_by (makes_named n) (waiting (with_request r s.requests)) =
    λ n. ap (λ (v : Seen). v.names n) k.look_ups ∙ sym (count-last (makes_named n) (waiting s.requests) r refl) ∙ ap (count_by (makes_named n)) (sym (waiting-more s.requests r)) in
    let offered : (router : Serial) (id : Id) → counts.times_in t.kept.producer_ids router id ≡ count_by (makes_producer router id) (waiting (with_request r s.requests)) =
    λ router id.
    ap (λ (v : Seen). v.offered router id) k.look_ups ∙ sym (count-last (makes_producer router id) (waiting s.requests) r refl)
    ∙ ap (count_by (makes_producer router id)) (sym (waiting-more s.requests r)) in
    let waits : rs.waiting ≡ waiting (with_request r s.requests) = ap (λ (v : RequestsView Due). v.waiting) e ∙ ap (λ (v : Seen). v.waits ++ r ∷ []) k.look_ups ∙ sym (waiting-more s.requests r) in
    let lasts : (w : WorkerKey) → last_on rs w ≡ issued (with_request r s.requests) w =
    λ w. ap (λ (v : RequestsView Due). last_on v w) e ∙ ap (λ (v : Seen). v.lasts w) k.look_ups
    ∙ sym (count-last (λ (x : Issued). is_by w x.request.via) s.requests (record { request = r; settled = false }) refl) in
    record {
      look_ups = λ i. record (k.look_ups i) { names = λ n. names n i; offered = λ router id. offered router id i; waits = waits i; lasts = λ w. lasts w i };
      at_rest =
          rest-same (times_noted s.notes) (times_noted s.notes) (is_hopeless s) (is_hopeless after) (λ n ev. refl)
          (λ n. hopeless-same s (with_request r s.requests) n (made-more s.requests r n refl) (named s.objects n)) t.awaits.waiting k.at_rest;
    }

-- ---- a request that is settled

module _ (s : State) (t : Tables) (k : HasLookUps s t) (test : Request Due → Bool) (r : Request Due) (found : find test t.requests.waiting ≡ Some r) (alone : IsAlone test t.requests.waiting) where
  -- of those that wait then
  count-settled : (q : Request Due → Bool) → count_by q (waiting (settled_where test s.requests)) + one_if (q r) ≡ count_by q (waiting s.requests)
  count-settled q =
      ap (λ (l : List (Request Due)). count_by q l + one_if (q r)) (waiting-settled test s.requests)
      ∙ count-alone q test (waiting s.requests) r (ap (λ (v : Seen). find test v.waits) (sym k) ∙ found) (subst (λ (v : Seen). IsAlone test v.waits) k alone)

  less-of : (names : Names) (ids : RouterIds) (rs : RequestsView Due) → ((n : List ℕ) → times_named names n ≡ times_named t.kept.names n - one_if (is_one_of (names_of r.due) n))
      → ((router : Serial) (id : Id) → counts.times_in ids router id ≡ counts.times_in t.kept.producer_ids router id - one_if (offers_due router id r.due))
      → rs ≡ record t.requests { waiting = others test t.requests.waiting } → AreOf (settled_where test s.requests) names ids rs
  less-of names ids rs named_less offered e = record {
    names_made = λ n.
        named_less n ∙ (λ i. (k i).names n - one_if (one-of-turned (names_of r.due) n i))
        ∙ minus (count_by (makes_named n) (waiting (settled_where test s.requests))) (one_if (makes_named n r)) (count_by (makes_named n) (waiting s.requests)) (count-settled (makes_named n));
    offered = λ router id.
        offered router id ∙ ap (λ (v : Seen). v.offered router id - one_if (offers_due router id r.due)) k
        ∙ minus (count_by (makes_producer router id) (waiting (settled_where test s.requests))) (one_if (makes_producer router id r)) (count_by (makes_producer router id) (waiting s.requests)) (count-settled (makes_producer router id));
    waits = ap (λ (v : RequestsView Due). v.waiting) e ∙ ap (λ (v : Seen). others test v.waits) k ∙ sym (waiting-settled test s.requests);
    lasts = λ w. ap (λ (v : RequestsView Due). last_on v w) e ∙ ap (λ (v : Seen). v.lasts w) k ∙ sym (issued-settled test w s.requests);
  }
    where
      minus : (a b c : ℕ) → a + b ≡ c → c - b ≡ a
      minus a b c h = omega arith

  made-settled : (n : List ℕ) → is_one_of (names_of r.due) n ≡ false → is_being_made (settled_where test s.requests) n ≡ is_being_made s.requests n
  made-settled n f =
      let none : one_if (makes_named n r) ≡ 0 = ap one_if (sym (one-of-turned (names_of r.due) n) ∙ f) in
      let same : count_by (makes_named n) (waiting (settled_where test s.requests)) ≡ count_by (makes_named n) (waiting s.requests) = omega (arith, none, count-settled (makes_named n)) in
      any-counted (makes_named n) (waiting (settled_where test s.requests)) ∙ ap (nat_lt 0) same ∙ sym (any-counted (makes_named n) (waiting s.requests))

pub taken-moves : (t now : Tables) (test : Request Due → Bool) (r : Request Due) (rs : RequestsView Due) → rs ≡ record t.requests { waiting = others test t.requests.waiting }
    → find test t.requests.waiting ≡ Some r → ExpectsNoMore r.due (record t { requests = rs }) now → IsAlone test t.requests.waiting
    → Moves (λ s. record s { requests = settled_where test s.requests }) t now
taken-moves t now test r rs e found h alone = λ s k.
    subst (λ (x : Tables). IsKept (record s { requests = settled_where test s.requests }) x) (sym h.touches.others)
    (remade-kept s t now.kept.names now.kept.producer_ids now.awaits rs (settled_where test s.requests) (is_one_of (names_of r.due))
    (less-of s t k.look_ups test r found alone now.kept.names now.kept.producer_ids rs h.names h.offered e)
    h.touches.waiting h.touches.times (λ n f. made-settled s t k.look_ups test r found alone n f) k)

-- ---- none is settled

settled-none : (test : Request Due → Bool) (rs : List Issued) → find test (waiting rs) ≡ None → settled_where test rs ≡ rs
settled-none test [] e = refl
settled-none test (x ∷ xs) e = λ i. settled-one x.settled x.request e i ∷ settled-none test xs (later x.settled e) i
  where
    later : (b : Bool) → find test (cond b (waiting xs) (x.request ∷ waiting xs)) ≡ None → find test (waiting xs) ≡ None
    later true f = f
    later false f = at (test x.request) f
      where
        at : (c : Bool) → cond c (Some x.request) (find test (waiting xs)) ≡ None → find test (waiting xs) ≡ None
        at true g = absurd cc
        at false g = g

    settled-one : (b : Bool) (r : Request Due) → find test (cond b (waiting xs) (r ∷ waiting xs)) ≡ None → (let y : Issued = record { request = r; settled = b || test r } in y) ≡ record { request = r; settled = b }
    settled-one true r f = refl
    settled-one false r f = at (test r) f
      where
        at : (c : Bool) → cond c (Some r) (find test (waiting xs)) ≡ None → (let y : Issued = record { request = r; settled = c } in y) ≡ record { request = r; settled = false }
        at true g = absurd cc
        at false g = refl

-- the tables are as they were
pub untaken-same : (t : Tables) (test : Request Due → Bool) (rs : RequestsView Due) → rs ≡ record t.requests { waiting = others test t.requests.waiting }
    → find test t.requests.waiting ≡ None → (let x : Tables = record t { requests = rs } in x) ≡ t
untaken-same t test rs e none =
    let same : rs ≡ t.requests = e ∙ ap (λ (l : List (Request Due)). let v : RequestsView Due = record t.requests { waiting = l } in v) (others-none test t.requests.waiting none) in
    ap (λ (v : RequestsView Due). let x : Tables = record t { requests = v } in x) same

pub untaken-moves : (t : Tables) (test : Request Due → Bool) (rs : RequestsView Due) → rs ≡ record t.requests { waiting = others test t.requests.waiting }
    → find test t.requests.waiting ≡ None → Moves (λ s. s) t (record t { requests = rs })
untaken-moves t test rs e none = λ s k. subst (IsKept s) (sym (untaken-same t test rs e none)) k

pub none_taken-moves : (t : Tables) (test : Request Due → Bool) (rs : RequestsView Due) → rs ≡ record t.requests { waiting = others test t.requests.waiting }
    → find test t.requests.waiting ≡ None → Moves (λ s. record s { requests = settled_where test s.requests }) t (record t { requests = rs })
none_taken-moves t test rs e none = λ s k.
    let same : settled_where test s.requests ≡ s.requests = settled-none test s.requests (ap (λ (v : Seen). find test v.waits) (sym k.look_ups) ∙ none) in
    subst (λ (qs : List Issued). IsKept (record s { requests = qs }) (record t { requests = rs })) (sym same) (untaken-moves t test rs e none s k)
