-- No SSRC is held twice, and those that requests ask for stand in a row: through each small change.
use Rattle.std.proofs.Common.{◌≡◌, ◌≤◌, ℕ, zero, suc, ◌+◌, List, [], ◌∷◌, ◌++◌, length, map, Bool, true, false, not, ◌==◌, cond, Option, Some, None, Less, Equal, Greater, Ordering, Ok, refl, sym, ap, ◌∙◌, arith, count_by, flat_map}
use Rattle.std.specs.BTreeMap.{insert_entry, is_at}
use Rattle.std.specs.List.{filter, find, range_with_len}
use Rattle.std.specs.Map.{remove_entry}
use Rattle.std.specs.Ordering.{match_ordering, nat_cmp}
use Rattle.std.proofs.lemmas.Bool.Decides.{nat_tests}
use Rattle.std.proofs.lemmas.List.{append-nil, length-append}
use Rattle.std.proofs.lemmas.List.Concat.{flat_map-append, flat_map-cons}
use Rattle.ms_base.specs.declared.keys.CallKey.{CallKey}
use Rattle.ms_base.specs.declared.keys.Serial.{Serial}
use Rattle.ms_base.specs.declared.op.Op.{Op}
use Rattle.ms_base.specs.declared.outcome.Outcome.{Outcome}
use Rattle.object_tree.specs.declared.object.Object.{Object}
use Rattle.object_tree.specs.Falls.{falls}
use Rattle.pending_calls.specs.declared.waiting.Owner.{Owner}
use Rattle.pending_calls.specs.declared.waiting.Owner.TheVariants as owner
use Rattle.request_build.specs.declared.built.Draws.{Draws}
use Rattle.request_build.specs.declared.built.Keep.{Keep}
use Rattle.request_build.specs.declared.built.Keep.TheVariants as keep
use Rattle.request_build.specs.declared.built.Offer.{Offer}
use Rattle.request_build.specs.Asks as asks
use Rattle.request_build.specs.Asks.{Ask}
use Rattle.request_build.specs.Built.{built}
use Rattle.request_build.specs.Keeps.{KeepsFor, KeepsWhatItDraws, ssrcs_kept}
use Rattle.request_build.specs.Known.{Known}
use Rattle.rtp_params.specs.declared.params.Params.{Params}
use Rattle.host_requests.specs.declared.request.Request.{Request}
use Rattle.host_requests.specs.Requests.{is_under}
use Rattle.host_model.specs.declared.due.Due.{Due}
use Rattle.host_model.specs.declared.due.Due.TheVariants as due
use Rattle.host_model.specs.State.{State, Issued, Tables, as_serial, first_ssrc, issued, settled_if, settled_where, start, waiting, waiting_for, with_request}
use Rattle.host_model.specs.Answer.{known}
use Rattle.host_model.specs.Changes.{new_request, owner_settled, with_kept, without}
use Rattle.host_model.specs.Drawn.{is_between}
use Rattle.host_model.specs.Falls.{all_without}
use Rattle.host_model.specs.Fit.{one_if}
use Rattle.host_model.specs.Held.{AreAskedInARow, EachHeldOnce, ssrcs_asked, ssrcs_due, ssrcs_in}
use Rattle.host_model.specs.Run.{Journal, state_of}
use Rattle.host_model.specs.Step.{Micro, due_by, due_of, start_request, step, turn_of}
use Rattle.host_model.proofs.Along.{along}
use Rattle.host_model.proofs.Changes.{Change, Going, at_rest, done, going, has_key, once-entered, step-is, still, both, notes, slots, streams, settles_call, awaits, asks_by, wants, asks_to_close, takes, takes_none, opens, settles_taken, marks, falls_with, settles_awaits}
use Rattle.host_model.proofs.Counts.{count-append, count-cons}
use Rattle.host_model.proofs.FitLemmas.{open-more, open_of}
use Rattle.host_model.proofs.RiseLemmas.{between-then}
use Rattle.host_model.proofs.Waiting.{waiting-settled}

-- what is built keeps what it draws, and by its kind
pub record BuildsKept : Type 0 where
  pub ssrcs : (k : Known) (op : Op) (r : asks.Request) → built k op ≡ Ok (Ask r) → KeepsWhatItDraws k.next r.next r.keeps
  pub kinds : (k : Known) (op : Op) (r : asks.Request) → built k op ≡ Ok (Ask r) → KeepsFor r.makes r.keeps

-- ---- sums over lists

abbrev weigh : {X : Type 0} → (X → ℕ) → List X → ℕ
weigh w [] = 0
weigh w (x ∷ xs) = w x + weigh w xs

module _ {X : Type 0} (w : X → ℕ) where
  weigh-append : (xs ys : List X) → weigh w (xs ++ ys) ≡ weigh w xs + weigh w ys
  weigh-append [] ys = omega arith
  weigh-append (x ∷ xs) ys = omega (arith, weigh-append xs ys)

  weigh-others : (p : X → Bool) (xs : List X) → weigh w (filter (λ x. not (p x)) xs) ≤ weigh w xs
  weigh-others p [] = omega arith
  weigh-others p (x ∷ xs) = at (p x) (weigh-others p xs)
    where
      at : (b : Bool) → weigh w (filter (λ y. not (p y)) xs) ≤ weigh w xs
          → weigh w (cond (not b) (x ∷ filter (λ y. not (p y)) xs) (filter (λ y. not (p y)) xs)) ≤ w x + weigh w xs
      at true h = omega (arith, h)
      at false h = omega (arith, h)

  weigh-found : (p : X → Bool) (xs : List X) (r : X) → find p xs ≡ Some r → w r + weigh w (filter (λ x. not (p x)) xs) ≤ weigh w xs
  weigh-found p [] r e = absurd cc
  weigh-found p (x ∷ xs) r e = at (p x) e (weigh-found p xs r)
    where
      at : (b : Bool) → cond b (Some x) (find p xs) ≡ Some r → (find p xs ≡ Some r → w r + weigh w (filter (λ y. not (p y)) xs) ≤ weigh w xs)
          → w r + weigh w (cond (not b) (x ∷ filter (λ y. not (p y)) xs) (filter (λ y. not (p y)) xs)) ≤ w x + weigh w xs
      at true here later =
          let same : x ≡ r = cc in
          let own : w x ≡ w r = ap w same in
          omega (arith, own, weigh-others p xs)
      at false there later = omega (arith, later there)

  weigh-flat : {Y : Type 0} (q : Y → Bool) (f : X → List Y) → ((x : X) → count_by q (f x) ≡ w x) → (xs : List X) → count_by q (flat_map f xs) ≡ weigh w xs
  weigh-flat q f same [] = refl
  weigh-flat q f same (x ∷ xs) =
      ap (count_by q) (flat_map-cons f x xs) ∙ count-append q (f x) (flat_map f xs) ∙ ap (λ k. k + count_by q (flat_map f xs)) (same x)
      ∙ ap (λ k. w x + k) (weigh-flat q f same xs)

-- what is kept, at its serials
module _ {A : Type 0} (w : A → ℕ) where
  abbrev of_entry : ℕ × A → ℕ
  of_entry e = w e.1

  weigh-inserted : (table : List (ℕ × A)) (n : ℕ) (v : A) → weigh of_entry (insert_entry nat_cmp table n v) ≤ weigh of_entry table + w v
  weigh-inserted [] n v = omega arith
  weigh-inserted (e ∷ es) n v = at (nat_cmp n e.0) (weigh-inserted es n v)
    where
      at : (o : Ordering) → weigh of_entry (insert_entry nat_cmp es n v) ≤ weigh of_entry es + w v
          → weigh of_entry (match_ordering o ((n, v) ∷ e ∷ es) ((e.0, v) ∷ es) (e ∷ insert_entry nat_cmp es n v)) ≤ weigh of_entry (e ∷ es) + w v
      at Less h = omega arith
      at Equal h = omega arith
      at Greater h = omega (arith, h)

  weigh-removed : (table : List (ℕ × A)) (test : ℕ → Bool) → weigh of_entry (remove_entry test table) ≤ weigh of_entry table
  weigh-removed [] test = omega arith
  weigh-removed (e ∷ es) test = at (test e.0) (weigh-removed es test)
    where
      at : (b : Bool) → weigh of_entry (remove_entry test es) ≤ weigh of_entry es → weigh of_entry (cond b es (e ∷ remove_entry test es)) ≤ weigh of_entry (e ∷ es)
      at true h = omega arith
      at false h = omega (arith, h)

-- ---- how often an SSRC is held

module _ (n : ℕ) where
  abbrev times : List ℕ → ℕ
  times ns = count_by (λ m. m == n) ns

  abbrev times_due : Request Due → ℕ
  times_due r = times (ssrcs_due r.due)

  abbrev times_kept : Tables → ℕ
  times_kept t =
      weigh (of_entry (λ (o : Offer). times (ssrcs_kept (keep.Producer o)))) t.producers + weigh (of_entry (λ (p : Params). times (ssrcs_kept (keep.Consumer p)))) t.consumers

  kept-opened : (t : Tables) (serial : Serial) (keeps : Keep) → times_kept (with_kept serial keeps t) ≤ times_kept t + times (ssrcs_kept keeps)
  kept-opened t serial (keep.Router caps) = omega arith
  kept-opened t serial (keep.Producer offer) = omega (arith, weigh-inserted (λ (o : Offer). times (ssrcs_kept (keep.Producer o))) t.producers serial.0 offer)
  kept-opened t serial (keep.Consumer params) = omega (arith, weigh-inserted (λ (p : Params). times (ssrcs_kept (keep.Consumer p))) t.consumers serial.0 params)
  kept-opened t serial (keep.Pipe enable_rtx) = omega arith
  kept-opened t serial keep.Nothing = omega arith

  kept-without : (t : Tables) (serial : Serial) → times_kept (without serial t) ≤ times_kept t
  kept-without t serial =
      omega (
        arith,
        weigh-removed (λ (o : Offer). times (ssrcs_kept (keep.Producer o))) t.producers (is_at (nat_cmp serial.0)),
        weigh-removed (λ (p : Params). times (ssrcs_kept (keep.Consumer p))) t.consumers (is_at (nat_cmp serial.0)),
      )

  kept-fallen : (serials : List Serial) (t : Tables) → times_kept (all_without serials t) ≤ times_kept t
  kept-fallen [] t = omega arith
  kept-fallen (serial ∷ serials) t = omega (arith, kept-fallen serials (without serial t), kept-without t serial)

  none-done : (rs : List (Request Due)) → weigh times_due (map done rs) ≡ 0
  none-done [] = refl
  none-done (r ∷ rs) = omega (arith, none-done rs)

  -- some are settled
  due-settled : (test : Request Due → Bool) (rs : List Issued) → weigh times_due (waiting (settled_where test rs)) ≤ weigh times_due (waiting rs)
  due-settled test rs = omega (arith, ap (weigh times_due) (waiting-settled test rs), weigh-others times_due test (waiting rs))

  due-taken : (test : Request Due → Bool) (rs : List Issued) (r : Request Due) → waiting_for test rs ≡ Some r
      → times_due r + weigh times_due (waiting (settled_where test rs)) ≤ weigh times_due (waiting rs)
  due-taken test rs r e = omega (arith, ap (weigh times_due) (waiting-settled test rs), weigh-found times_due test (waiting rs) r e)

  times-range : (first many : ℕ) → times (range_with_len first many) ≡ one_if (is_between first (first + many) n)
  times-range first zero = grind (arith, nat_tests)
  times-range first (suc many) =
      count-cons (λ m. m == n) first (range_with_len (first + 1) many) ∙ ap (λ c. one_if (first == n) + c) (times-range (first + 1) many) ∙ here
    where
      here : one_if (first == n) + one_if (is_between (first + 1) (first + 1 + many) n) ≡ one_if (is_between first (first + suc many) n)
      here = grind (arith, nat_tests)

-- ---- no SSRC is held twice

record HeldIn (t : Tables) (ws : List (Request Due)) (next : Draws) : Type 0 where
  first : first_ssrc ≤ next.ssrc
  once : (n : ℕ) → times_kept n t + weigh (times_due n) ws ≤ one_if (is_between first_ssrc next.ssrc n)

abbrev HeldOn : Going → Type 0
HeldOn g = HeldIn g.state.tables (open_of g.taken g.state.requests) g.state.next

-- no more is held
held-less : {t : Tables} {ws : List (Request Due)} {next : Draws} → HeldIn t ws next → (u : Tables) (vs : List (Request Due))
    → ((n : ℕ) → times_kept n u + weigh (times_due n) vs ≤ times_kept n t + weigh (times_due n) ws) → HeldIn u vs next
held-less h u vs less = record { first = h.first; once = λ n. omega (arith, less n, h.once n) }

-- a request more, of what was drawn for it
held-more : {t : Tables} {next : Draws} (taken : List (Request Due)) (rs : List Issued) → HeldIn t (open_of taken rs) next → (r : Request Due) (after : Draws) (many : ℕ)
    → after.ssrc ≡ next.ssrc + many → ((n : ℕ) → times_due n r ≤ one_if (is_between next.ssrc after.ssrc n)) → HeldIn t (open_of taken (with_request r rs)) after
held-more {t} {next} taken rs h r after many drawn own =
    record {
      first = omega (arith, h.first, drawn);
      once = λ n.
          omega (
            arith,
            h.once n,
            own n,
            between-then first_ssrc next.ssrc after.ssrc n h.first (omega (arith, drawn)),
            ap (weigh (times_due n)) (open-more taken rs r),
            weigh-append (times_due n) (open_of taken rs) (r ∷ []),
          );
    }

none-between : (c : ℕ) (b : Bool) → c ≡ 0 → c ≤ one_if b
none-between c true e = omega (arith, e)
none-between c false e = omega (arith, e)

-- what is due of a request has what was drawn for it
due-drawn : (next after : Draws) (turn : Option Bool) (makes : Option Object) (keeps : Keep) → KeepsWhatItDraws next after keeps
    → (n : ℕ) → times n (ssrcs_due (due_of turn makes keeps)) ≤ one_if (is_between next.ssrc after.ssrc n)
due-drawn next after turn (Some o) keeps own n =
    let row : times n (ssrcs_kept keeps) ≡ one_if (is_between next.ssrc (next.ssrc + length (ssrcs_kept keeps)) n) =
    ap (times n) own.row ∙ times-range n next.ssrc (length (ssrcs_kept keeps)) in
    let far : one_if (is_between next.ssrc (next.ssrc + length (ssrcs_kept keeps)) n) ≡ one_if (is_between next.ssrc after.ssrc n) =
    ap (λ k. one_if (is_between next.ssrc k n)) (sym own.next) in
    omega (arith, row, far)
due-drawn next after (Some paused) None keeps own n = none-between 0 (is_between next.ssrc after.ssrc n) refl
due-drawn next after None None keeps own n = none-between 0 (is_between next.ssrc after.ssrc n) refl

held-owner : (calls : List CallKey) (taken : List (Request Due)) (s : State) (o : Owner) (outcome : Outcome) (names : List (List ℕ)) → HeldOn (going calls taken s)
    → HeldOn (going calls taken (owner_settled o outcome names s))
held-owner calls taken s (owner.Call call) outcome names h = h
held-owner calls taken s (owner.Job call part) outcome names h = h
held-owner calls taken s owner.Close outcome names h = h
held-owner calls taken s owner.Follow outcome names h = h

held-change : BuildsKept → {g h : Going} → Change g h → HeldOn g → HeldOn h
held-change b still w = w
held-change b (both x y) w = held-change b y (held-change b x w)
held-change b (notes ns plain) w = w
held-change b (slots worker) w = w
held-change b (streams xs) w = w
held-change b (settles_call call outcome names) w = w
held-change b (awaits a) w = w
held-change b (asks_by {calls} {taken} {s} call op r channel payload is) w =
    let own = b.ssrcs (known s) op r is.built_is in
    held-more taken s.requests w (new_request channel (issued s.requests channel + 1) (owner.Call call) r.under (due_by op r)) r.next (length (ssrcs_kept r.keeps)) own.next
    (due-drawn s.next r.next (turn_of op) r.makes r.keeps own)
held-change b (wants {calls} {taken} {s} call name budget) w =
    let h = held-more taken s.requests w (start_request call (as_serial s.next.serial)) s.next 0 (omega arith)
    (λ n. none-between 0 (is_between s.next.ssrc s.next.ssrc n) refl) in
    record { first = h.first; once = h.once }
held-change b (asks_to_close {calls} {taken} {s} channel parent asked left) w =
    held-more taken s.requests w (new_request channel (issued s.requests channel + 1) owner.Close parent due.Nothing) s.next 0 (omega arith)
    (λ n. none-between 0 (is_between s.next.ssrc s.next.ssrc n) refl)
held-change b (takes {calls} {taken} {s} key r e) w =
    held-less w s.tables (r ∷ open_of taken (settled_where (has_key key) s.requests))
    (λ n.
    omega (
      arith,
      weigh-append (times_due n) taken (waiting s.requests),
      weigh-append (times_due n) taken (waiting (settled_where (has_key key) s.requests)),
      due-taken n (has_key key) s.requests r e,
    ))
held-change b (takes_none {calls} {taken} {s} key e) w =
    held-less w s.tables (open_of taken (settled_where (has_key key) s.requests))
    (λ n.
    omega (
      arith,
      weigh-append (times_due n) taken (waiting s.requests),
      weigh-append (times_due n) taken (waiting (settled_where (has_key key) s.requests)),
      due-settled n (has_key key) s.requests,
    ))
held-change b (opens {calls} {taken} {s} r object keeps o is same closed) w =
    held-less w (with_kept o.serial keeps s.tables) (done r ∷ open_of taken s.requests)
    (λ n.
    let own : times_due n r ≡ times n (ssrcs_kept keeps) = ap (λ d. times n (ssrcs_due d)) is in
    omega (arith, own, kept-opened n s.tables o.serial keeps))
held-change b (settles_taken {calls} {taken} {s} r outcome names) w =
    held-owner calls taken s r.owner outcome names (held-less w s.tables (open_of taken s.requests) (λ n. omega arith))
held-change b (marks serial m keeps) w = w
held-change b (falls_with {calls} {s} roots why) w =
    let down : List Serial = falls s.objects roots in
    let gone : List (Request Due) = map done (filter (is_under down) (waiting s.requests)) in
    held-less w (all_without down s.tables) (open_of gone (settled_where (is_under down) s.requests))
    (λ n.
    omega (
      arith,
      kept-fallen n down s.tables,
      weigh-append (times_due n) gone (waiting (settled_where (is_under down) s.requests)),
      none-done n (filter (is_under down) (waiting s.requests)),
      due-settled n (is_under down) s.requests,
    ))
held-change b settles_awaits w = w

held-step : BuildsKept → (s : State) (m : Micro) → HeldOn (at_rest s) → HeldOn (at_rest (step s m))
held-step b s m h = let st = step-is s m in held-change b st.change (once-entered HeldOn s (λ lane. h) (λ worker. h) h m st.start st.entered)

held : BuildsKept → (j : Journal) → HeldOn (at_rest (state_of j))
held b j =
    along (λ (s : State). HeldOn (at_rest s)) (held-step b) (start j.seed) j.entries
    (record { first = omega arith; once = λ n. none-between 0 (is_between first_ssrc first_ssrc n) refl })

pub held-once : BuildsKept → (j : Journal) → EachHeldOnce (state_of j)
held-once b j = λ n.
    let s = state_of j in
    omega (
      arith,
      (held b j).once n,
      count-append (λ m. m == n) (ssrcs_in s.tables) (flat_map (λ (r : Request Due). ssrcs_due r.due) (waiting s.requests)),
      count-append (λ m. m == n) (flat_map (λ (e : ℕ × Offer). ssrcs_kept (keep.Producer e.1)) s.tables.producers)
          (flat_map (λ (e : ℕ × Params). ssrcs_kept (keep.Consumer e.1)) s.tables.consumers),
      weigh-flat (of_entry (λ (o : Offer). times n (ssrcs_kept (keep.Producer o)))) (λ m. m == n) (λ (e : ℕ × Offer). ssrcs_kept (keep.Producer e.1)) (λ e. refl) s.tables.producers,
      weigh-flat (of_entry (λ (p : Params). times n (ssrcs_kept (keep.Consumer p)))) (λ m. m == n) (λ (e : ℕ × Params). ssrcs_kept (keep.Consumer e.1)) (λ e. refl) s.tables.consumers,
      weigh-flat (times_due n) (λ m. m == n) (λ (r : Request Due). ssrcs_due r.due) (λ r. refl) (waiting s.requests),
    )

-- ---- all that requests ask for, in a row

record RowIn (rs : List Issued) (next : Draws) : Type 0 where
  row : ssrcs_asked rs ≡ range_with_len first_ssrc (length (ssrcs_asked rs))
  far : next.ssrc ≡ first_ssrc + length (ssrcs_asked rs)

abbrev RowOn : Going → Type 0
RowOn g = RowIn g.state.requests g.state.next

abbrev due_in : Issued → List ℕ
due_in r = ssrcs_due r.request.due

asked-settled : (test : Request Due → Bool) (rs : List Issued) → ssrcs_asked (settled_where test rs) ≡ ssrcs_asked rs
asked-settled test [] = refl
asked-settled test (r ∷ rs) =
    flat_map-cons due_in (settled_if test r) (settled_where test rs) ∙ ap (λ (ns : List ℕ). due_in r ++ ns) (asked-settled test rs) ∙ sym (flat_map-cons due_in r rs)

asked-more : (rs : List Issued) (r : Request Due) → ssrcs_asked (with_request r rs) ≡ ssrcs_asked rs ++ ssrcs_due r.due
asked-more rs r =
    let one : Issued = record { request = r; settled = false } in
    flat_map-append due_in rs (one ∷ []) ∙ ap (λ (ns : List ℕ). ssrcs_asked rs ++ ns) (flat_map-cons due_in one [] ∙ append-nil (ssrcs_due r.due))

row-settled : {next : Draws} (test : Request Due → Bool) (rs : List Issued) → RowIn rs next → RowIn (settled_where test rs) next
row-settled test rs h =
    let same = asked-settled test rs in
    record {
      row = same ∙ h.row ∙ ap (λ (ns : List ℕ). range_with_len first_ssrc (length ns)) (sym same);
      far = h.far ∙ ap (λ (ns : List ℕ). first_ssrc + length ns) (sym same);
    }

range-append : (first n m : ℕ) → range_with_len first n ++ range_with_len (first + n) m ≡ range_with_len first (n + m)
range-append first zero m =
    let front : first + 0 ≡ first = omega arith in
    let sum : m ≡ 0 + m = omega arith in
    ap (λ a. range_with_len a m) front ∙ ap (range_with_len first) sum
range-append first (suc n) m =
    let behind : first + suc n ≡ first + 1 + n = omega arith in
    let sum : suc (n + m) ≡ suc n + m = omega arith in
    ap (λ (rest : List ℕ). first ∷ rest) (ap (λ a. range_with_len (first + 1) n ++ range_with_len a m) behind ∙ range-append (first + 1) n m) ∙ ap (range_with_len first) sum

row-more : {next : Draws} (rs : List Issued) → RowIn rs next → (r : Request Due) (after : Draws) → ssrcs_due r.due ≡ range_with_len next.ssrc (length (ssrcs_due r.due))
    → after.ssrc ≡ next.ssrc + length (ssrcs_due r.due) → RowIn (with_request r rs) after
row-more {next} rs h r after own drawn =
    let more = asked-more rs r in
    let n : ℕ = length (ssrcs_asked rs) in
    let m : ℕ = length (ssrcs_due r.due) in
    let long : length (ssrcs_asked (with_request r rs)) ≡ n + m = ap length more ∙ length-append (ssrcs_asked rs) (ssrcs_due r.due) in
    record {
      row = more
          ∙ ap (λ (ns : List ℕ). ns ++ ssrcs_due r.due) h.row
          ∙ ap (λ (ns : List ℕ). range_with_len first_ssrc n ++ ns) (own ∙ ap (λ a. range_with_len a m) h.far)
          ∙ range-append first_ssrc n m
          ∙ ap (range_with_len first_ssrc) (sym long);
      far = omega (arith, drawn, h.far, long);
    }

-- what a request that was built is to make
record IsDrawnFor (next after : Draws) (d : Due) : Type 0 where
  row : ssrcs_due d ≡ range_with_len next.ssrc (length (ssrcs_due d))
  far : after.ssrc ≡ next.ssrc + length (ssrcs_due d)

drawn-for : (next after : Draws) (turn : Option Bool) (makes : Option Object) (keeps : Keep) → KeepsWhatItDraws next after keeps → KeepsFor makes keeps
    → IsDrawnFor next after (due_of turn makes keeps)
drawn-for next after turn (Some o) keeps own kind = record { row = own.row; far = own.next }
drawn-for next after (Some paused) None keeps own none = record { row = refl; far = own.next ∙ ap (λ (k : Keep). next.ssrc + length (ssrcs_kept k)) none }
drawn-for next after None None keeps own none = record { row = refl; far = own.next ∙ ap (λ (k : Keep). next.ssrc + length (ssrcs_kept k)) none }

row-owner : (s : State) (o : Owner) (outcome : Outcome) (names : List (List ℕ)) → RowIn s.requests s.next
    → RowIn (owner_settled o outcome names s).requests (owner_settled o outcome names s).next
row-owner s (owner.Call call) outcome names h = h
row-owner s (owner.Job call part) outcome names h = h
row-owner s owner.Close outcome names h = h
row-owner s owner.Follow outcome names h = h

row-change : BuildsKept → {g h : Going} → Change g h → RowOn g → RowOn h
row-change b still w = w
row-change b (both x y) w = row-change b y (row-change b x w)
row-change b (notes ns plain) w = w
row-change b (slots worker) w = w
row-change b (streams xs) w = w
row-change b (settles_call call outcome names) w = w
row-change b (awaits a) w = w
row-change b (asks_by {calls} {taken} {s} call op r channel payload is) w =
    let own = drawn-for s.next r.next (turn_of op) r.makes r.keeps (b.ssrcs (known s) op r is.built_is) (b.kinds (known s) op r is.built_is) in
    row-more s.requests w (new_request channel (issued s.requests channel + 1) (owner.Call call) r.under (due_by op r)) r.next own.row own.far
row-change b (wants {calls} {taken} {s} call name budget) w =
    let h = row-more s.requests w (start_request call (as_serial s.next.serial)) s.next refl (omega arith) in
    record { row = h.row; far = h.far }
row-change b (asks_to_close {calls} {taken} {s} channel parent asked left) w =
    row-more s.requests w (new_request channel (issued s.requests channel + 1) owner.Close parent due.Nothing) s.next refl (omega arith)
row-change b (takes {calls} {taken} {s} key r e) w = row-settled (has_key key) s.requests w
row-change b (takes_none {calls} {taken} {s} key e) w = row-settled (has_key key) s.requests w
row-change b (opens r object keeps o is same closed) w = w
row-change b (settles_taken {calls} {taken} {s} r outcome names) w = row-owner s r.owner outcome names w
row-change b (marks serial m keeps) w = w
row-change b (falls_with {calls} {s} roots why) w = row-settled (is_under (falls s.objects roots)) s.requests w
row-change b settles_awaits w = w

row-step : BuildsKept → (s : State) (m : Micro) → RowOn (at_rest s) → RowOn (at_rest (step s m))
row-step b s m h = let st = step-is s m in row-change b st.change (once-entered RowOn s (λ lane. h) (λ worker. h) h m st.start st.entered)

pub asked-in_row : BuildsKept → (j : Journal) → AreAskedInARow (state_of j)
asked-in_row b j =
    let h = along (λ (s : State). RowOn (at_rest s)) (row-step b) (start j.seed) j.entries (record { row = refl; far = refl }) in
    record { row = h.row; next = h.far }
