-- The requests under what falls, which settle one after another.
use Rattle.std.proofs.Common.{◌≡◌, ◌<◌, ◌+◌, ◌-◌, ℕ, zero, suc, List, IsTrue, is_some, get_or, cond, [], ◌∷◌, ◌++◌, map, length, Bool, true, false, ◌||◌, nat_lt, refl, sym, ap, ◌∙◌, subst, arith, count_by}
use Rattle.std.specs.List.{filter, list_any}
use Rattle.std.proofs.lemmas.Bool.{eqb-true, true≢false}
use Rattle.std.proofs.lemmas.Bool.Decides.{nat_tests}
use Rattle.ms_base.specs.declared.keys.Serial.{Serial}
use Rattle.object_tree.specs.declared.object.Object.{Object}
use Rattle.object_tree.specs.Objects.{numbered}
use Rattle.pending_calls.specs.Pending.{same_serial}
use Rattle.request_build.specs.Counts as counts
use Rattle.request_build.specs.Counts.{one_if, times_named}
use Rattle.host_awaits.specs.Watching.{touched_by}
use Rattle.host_requests.specs.declared.request.Request.{Request}
use Rattle.host_requests.specs.Requests.{RequestsView, is_under, last_on, others}
use Rattle.host_model.specs.declared.due.Due.{Due}
use Rattle.host_model.specs.Falls.{all_closed, request_closed, requests_closed}
use Rattle.host_model.specs.State.{Issued, State, is_being_made, makes_named, makes_producer, names_of, offers_due, settled_where, waiting}
use Rattle.host_tables.specs.Kept.{AreThere, AreUnderThere, ExpectsNoMore, ExpectsNone, HasLookUps, IsKept, Moves, Seen, is_made_by, is_one_of}
use Rattle.host_tables.specs.declared.tables.Tables.{Tables}
use Rattle.host_tables.proofs.Counts.{any-append, any-counted, count-parted, count-push, one-of-turned, or-false}
use Rattle.host_tables.proofs.Making.{AreOf, issued-settled, remade-kept, waiting-settled}
use Rattle.host_tables.proofs.Parts.{touched-both, touched-none}

-- ---- what they were to make isn't being made any more

pub expects_none-first : (t : Tables) → ExpectsNone [] t t
expects_none-first t = record {
  names = λ n. less (times_named t.kept.names n);
  offered = λ router id. less (counts.times_in t.kept.producer_ids router id);
  waiting = touched-none t.awaits.waiting;
  times = λ n e. refl;
  others = refl;
}
  where
    less : (n : ℕ) → n ≡ n - 0
    less n = omega arith

pub expects_none-next : (rs : List (Request Due)) (r : Request Due) (a b c : Tables) → ExpectsNone rs a b → ExpectsNoMore r.due b c → ExpectsNone (rs ++ r ∷ []) a c
expects_none-next rs r a b c h k = record {
  names = λ n.
      k.names n
      ∙ twice (times_named b.kept.names n) (times_named a.kept.names n) (count_by (makes_named n) rs) (one_if (is_one_of (names_of r.due) n)) (count_by (makes_named n) (rs ++ r ∷ [])) (h.names n)
      (count-push (makes_named n) rs r ∙ ap (λ b. count_by (makes_named n) rs + one_if b) (sym (one-of-turned (names_of r.due) n)));
  offered = λ router id.
      k.offered router id
      ∙ twice (counts.times_in b.kept.producer_ids router id) (counts.times_in a.kept.producer_ids router id) (count_by (makes_producer router id) rs) (one_if (offers_due router id r.due)) (count_by (makes_producer router id) (rs ++ r ∷ [])) (h.offered router id)
      (count-push (makes_producer router id) rs r);
  waiting =
      k.touches.waiting ∙ ap (map (touched_by (is_one_of (names_of r.due)))) h.waiting
      ∙ touched-both (is_made_by rs) (is_one_of (names_of r.due)) (is_made_by (rs ++ r ∷ [])) (λ n. any-append (λ (q : Request Due). is_one_of (names_of q.due) n) rs (r ∷ []) ∙ ap (λ b. is_made_by rs n || b) (or-false (is_one_of (names_of r.due) n))) a.awaits.waiting;
  times = λ n e. k.touches.times n e ∙ h.times n e;
  others =
      k.touches.others ∙ ap (λ (t : Tables). let x : Tables = record t { kept = record t.kept { names = c.kept.names; producer_ids = c.kept.producer_ids }; awaits = c.awaits } in x) h.others;
}
  where
    twice : (now before less one all : ℕ) → now ≡ before - less → all ≡ less + one → now - one ≡ before - all
    twice now before less one all e f = omega arith

module _ (s : State) (t : Tables) (k : HasLookUps s t) (test : Request Due → Bool) where
  count-left : (q : Request Due → Bool) → count_by q (filter test t.requests.waiting) + count_by q (waiting (settled_where test s.requests)) ≡ count_by q (waiting s.requests)
  count-left q =
      (λ i. count_by q (filter test (k i).waits) + count_by q (waiting-settled test s.requests i)) ∙ count-parted q test (waiting s.requests)

  left : (q : Request Due → Bool) (n : ℕ) → n ≡ count_by q (waiting s.requests) → n - count_by q (filter test t.requests.waiting) ≡ count_by q (waiting (settled_where test s.requests))
  left q n e = omega (arith, e, count-left q)

  not-made : (n : List ℕ) → is_made_by (filter test t.requests.waiting) n ≡ false → is_being_made (settled_where test s.requests) n ≡ is_being_made s.requests n
  not-made n f =
      let none : count_by (makes_named n) (filter test t.requests.waiting) ≡ 0 =
      zero-where (count_by (makes_named n) (filter test t.requests.waiting))
      (sym (any-counted (makes_named n) (filter test t.requests.waiting)) ∙ ap (λ (p : Request Due → Bool). list_any p (filter test t.requests.waiting)) (λ i (r : Request Due). sym (one-of-turned (names_of r.due) n) i) ∙ f) in
      let same : count_by (makes_named n) (waiting (settled_where test s.requests)) ≡ count_by (makes_named n) (waiting s.requests) = omega (arith, none, count-left (makes_named n)) in
      any-counted (makes_named n) (waiting (settled_where test s.requests)) ∙ ap (nat_lt 0) same ∙ sym (any-counted (makes_named n) (waiting s.requests))
    where
      zero-where : (m : ℕ) → nat_lt 0 m ≡ false → m ≡ 0
      zero-where m h = grind (arith, nat_tests)

pub all_taken-kept : (s : State) (t now : Tables) (test : Request Due → Bool) (rs : RequestsView Due) → rs ≡ record t.requests { waiting = others test t.requests.waiting }
    → ExpectsNone (filter test t.requests.waiting) (record t { requests = rs }) now → IsKept s t → IsKept (record s { requests = settled_where test s.requests }) now
all_taken-kept s t now test rs e h k =
    let qs : List Issued = settled_where test s.requests in
    let of : AreOf qs now.kept.names now.kept.producer_ids rs = record {
      names_made = λ n. h.names n ∙ left s t k.look_ups test (makes_named n) (times_named t.kept.names n) (ap (λ (v : Seen). v.names n) k.look_ups);
      offered = λ router id.
          h.offered router id ∙ left s t k.look_ups test (makes_producer router id) (counts.times_in t.kept.producer_ids router id) (ap (λ (v : Seen). v.offered router id) k.look_ups);
      waits = ap (λ (v : RequestsView Due). v.waiting) e ∙ ap (λ (v : Seen). others test v.waits) k.look_ups ∙ sym (waiting-settled test s.requests);
      lasts = λ w. ap (λ (v : RequestsView Due). last_on v w) e ∙ ap (λ (v : Seen). v.lasts w) k.look_ups ∙ sym (issued-settled test w s.requests);
    } in
    subst (λ (x : Tables). IsKept (record s { requests = qs }) x) (sym h.others)
    (remade-kept s t now.kept.names now.kept.producer_ids now.awaits rs qs (is_made_by (filter test t.requests.waiting)) of h.waiting h.times (not-made s t k.look_ups test) k)

-- ---- their calls settle

pub all_closed-more : (rs : List (Request Due)) (r : Request Due) (s : State) → all_closed (rs ++ r ∷ []) s ≡ request_closed r (all_closed rs s)
all_closed-more [] r s = refl
all_closed-more (x ∷ xs) r s = all_closed-more xs r (request_closed x s)

pub closed-next : (rs : List (Request Due)) (r : Request Due) (a b c : Tables) → Moves (all_closed rs) a b → Moves (request_closed r) b c → Moves (all_closed (rs ++ r ∷ [])) a c
closed-next rs r a b c h k = λ s kept. subst (λ (x : State). IsKept x c) (sym (all_closed-more rs r s)) (k (all_closed rs s) (h s kept))

pub requests_closed-moves : (t mid now : Tables) (fallen : List Serial) (rs : RequestsView Due) (taken : List (Request Due)) → rs ≡ record t.requests { waiting = others (is_under fallen) t.requests.waiting }
    → taken ≡ filter (is_under fallen) t.requests.waiting → ExpectsNone taken (record t { requests = rs }) mid → Moves (all_closed taken) mid now → Moves (requests_closed fallen) t now
requests_closed-moves t mid now fallen rs taken e is_taken h moves = λ s k.
    let heard : ExpectsNone (filter (is_under fallen) t.requests.waiting) (record t { requests = rs }) mid = subst (λ (l : List (Request Due)). ExpectsNone l (record t { requests = rs }) mid) is_taken h in
    let kept : IsKept (record s { requests = settled_where (is_under fallen) s.requests }) mid = all_taken-kept s t mid (is_under fallen) rs e heard k in
    subst (λ (l : List (Request Due)). IsKept (all_closed l (record s { requests = settled_where (is_under fallen) s.requests })) now) (is_taken ∙ ap (λ (v : Seen). filter (is_under fallen) v.waits) k.look_ups)
    (moves (record s { requests = settled_where (is_under fallen) s.requests }) kept)

-- ---- they are under objects that are there

pub there-at : (objects : List Object) (rs : List (Request Due)) (i : ℕ) (r : Request Due) → i < length rs → r ≡ get_or rs i r → AreUnderThere objects rs → IsTrue (is_some (numbered objects r.under))
there-at objects [] i r h e all = absurd (omega arith)
there-at objects (x ∷ xs) zero r h e all = subst (λ (y : Request Due). IsTrue (is_some (numbered objects y.under))) (sym e) all.0
there-at objects (x ∷ xs) (suc i) r h e all = there-at objects xs i r (omega arith) e all.1

there-among : (objects : List Object) (fallen : List Serial) (serial : Serial) → AreThere objects fallen → list_any (λ (o : Serial). same_serial serial o) fallen ≡ true → IsTrue (is_some (numbered objects serial))
there-among objects [] serial all h = absurd (true≢false (sym h))
there-among objects (x ∷ xs) serial all h = at (same_serial serial x) refl h (there-among objects xs serial all.1)
  where
    at : (b : Bool) → same_serial serial x ≡ b → (b || list_any (λ (o : Serial). same_serial serial o) xs) ≡ true
        → (list_any (λ (o : Serial). same_serial serial o) xs ≡ true → IsTrue (is_some (numbered objects serial))) → IsTrue (is_some (numbered objects serial))
    at true t e later =
        let same : x ≡ serial = (let number = eqb-true serial.0 x.0 t in λ i. record { 0 = sym number i }) in
        subst (λ (y : Serial). IsTrue (is_some (numbered objects y))) same all.0
    at false t e later = later e

pub there-under : (objects : List Object) (fallen : List Serial) → AreThere objects fallen → (rs : List (Request Due)) → AreUnderThere objects (filter (is_under fallen) rs)
there-under objects fallen all [] = tt
there-under objects fallen all (r ∷ rs) = at (is_under fallen r) refl (there-under objects fallen all rs)
  where
    at : (b : Bool) → is_under fallen r ≡ b → AreUnderThere objects (filter (is_under fallen) rs) → AreUnderThere objects (cond b (r ∷ filter (is_under fallen) rs) (filter (is_under fallen) rs))
    at true t later = (there-among objects fallen r.under all t, later)
    at false t later = later
