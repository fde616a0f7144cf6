-- The requests that wait, once more is issued and once some have settled.
use Rattle.std.proofs.Common.{◌≡◌, ◌<◌, ◌≤◌, ℕ, ◌+◌, List, [], ◌∷◌, ◌++◌, append_assoc, Bool, true, false, not, ◌==◌, cond, Option, Some, None, length, refl, sym, ap, subst, ◌∙◌, inl, inr, arith, Result, Err, ◌↔◌}
use Rattle.std.proofs.lemmas.Bool.{cases_Bool, eqb-true, and_parts}
use Rattle.std.proofs.lemmas.List.{append-nil}
use Rattle.std.proofs.lemmas.Map.Keys.{sorted_head, sorted_tail}
use Rattle.std.specs.List.{AllByRecursion, filter, find}
use Rattle.std.specs.List.Sorted.{IsStrictlySortedBy}
use Rattle.std.specs.Map.{keys_of, values_of, lookup, remove_entry}
use Rattle.std.specs.Ordering.{nat_cmp}
use Rattle.std.specs.declared.cmp.Ordering.TheVariants.{Less}
use Rattle.ms_base.specs.declared.keys.Serial.{Serial}
use Rattle.ms_base.specs.declared.keys.WorkerKey.{WorkerKey}
use Rattle.host_notes.specs.Keys.{same_worker}
use Rattle.pending_calls.specs.Pending.{PendingView, max_id}
use Rattle.pending_calls.specs.declared.pending.IssueFault.{IssueFault}
use Rattle.pending_calls.specs.declared.pending.IssueFault.TheVariants.{IdsSpent, NoMemory}
use Rattle.pending_calls.specs.declared.waiting.Owner.{Owner}
use Rattle.host_requests.specs.declared.channels.Channels.{Channels}
use Rattle.host_requests.specs.declared.request.Request.{Request}
use Rattle.host_requests.specs.declared.request.Via.TheVariants.{Channel, Start}
use Rattle.host_requests.specs.Kept.{AreKept, AreTied, IsTaken, IsUsed, lasts_of, outlines, pending_on, with_issued}
use Rattle.host_requests.specs.Places.{IsNext, answers, first_of, numbers_of, optional}
use Rattle.host_requests.specs.Requests.{Lasts, RequestsView, is_answer_to, is_on, last_in, last_on, others}
use Rattle.host_requests.proofs.ChannelLemmas.{last-is, worker-same}
use Rattle.host_requests.proofs.FiledLemmas.{outline_of}
use Rattle.host_requests.proofs.NumberLemmas.{all-filtered, all-parts, all-pushed, all-removed, all-weaker, is-first, is-none, is_number, length-removed, none-first, numbers-parts, removed-last, some-first, sorted-cons, values-filtered, values-pushed}

-- ---- in order

all-keys-removed : {X : Type 0} (P : ℕ → Type 0) (t : ℕ → Bool) (es : List (ℕ × X)) → AllByRecursion P (keys_of es) → AllByRecursion P (keys_of (remove_entry t es))
all-keys-removed P t [] h = tt
all-keys-removed P t (e ∷ es) h = elim (cases_Bool (t e.0)) [
  | inl y ↦ rw y h.1
  | inr f ↦ rw f (h.0, all-keys-removed P t es h.1)
]

sorted-removed : {X : Type 0} (t : ℕ → Bool) (es : List (ℕ × X)) → IsStrictlySortedBy nat_cmp (keys_of es) → IsStrictlySortedBy nat_cmp (keys_of (remove_entry t es))
sorted-removed t [] s = s
sorted-removed t (e ∷ es) s = elim (cases_Bool (t e.0)) [
  | inl y ↦ rw y (sorted_tail nat_cmp e.0 (keys_of es) s)
  | inr f ↦ rw f (sorted-cons e.0 (keys_of (remove_entry t es)) (all-keys-removed (λ k. nat_cmp e.0 k ≡ Less) t es (sorted_head nat_cmp e.0 (keys_of es) s))
      (sorted-removed t es (sorted_tail nat_cmp e.0 (keys_of es) s)))
]

pub in-order-after : {X : Type 0} (n : ℕ) (es fs : List (ℕ × X)) → fs ≡ remove_entry (is_number n) es → IsStrictlySortedBy nat_cmp (keys_of es) → IsStrictlySortedBy nat_cmp (keys_of fs)
in-order-after n es fs is s = subst (λ gs. IsStrictlySortedBy nat_cmp (keys_of gs)) (sym is) (sorted-removed (is_number n) es s)

module _ {D : Type 0} where
  -- ---- what is seen

  abbrev pub viewed : List (ℕ × Request D) → Channels → RequestsView D
  viewed es channels = record { waiting = values_of es; lasts = lasts_of channels }

  view-both : (es : List (ℕ × Request D)) (ws : List (Request D)) (channels channels' : Channels) → values_of es ≡ ws → lasts_of channels' ≡ lasts_of channels
      → viewed es channels' ≡ record { waiting = ws; lasts = lasts_of channels }
  view-both es ws channels channels' e l = λ i. record { waiting = e i; lasts = l i }

  pub view-rest : (p : Request D → Bool) (es fs : List (ℕ × Request D)) (channels channels' : Channels) (seen : RequestsView D) → viewed es channels ≡ seen
      → values_of fs ≡ others p (values_of es) → lasts_of channels' ≡ lasts_of channels → viewed fs channels' ≡ record seen { waiting = others p seen.waiting }
  view-rest p es fs channels channels' seen is e l = view-both fs (others p (values_of es)) channels channels' e l ∙ ap (λ (v : RequestsView D). record v { waiting = others p v.waiting }) is

  pub view-same : (es fs : List (ℕ × Request D)) (channels channels' : Channels) (seen : RequestsView D) → viewed es channels ≡ seen
      → fs ≡ es → lasts_of channels' ≡ lasts_of channels → viewed fs channels' ≡ seen
  view-same es fs channels channels' seen is e l = view-both fs (values_of es) channels channels' (ap (λ gs. values_of gs) e) l ∙ is

  pub view-added : (n : ℕ) (r : Request D) (es fs : List (ℕ × Request D)) (channels : Channels) (seen : RequestsView D) → viewed es channels ≡ seen
      → fs ≡ es ++ (n, r) ∷ [] → viewed fs channels ≡ record seen { waiting = seen.waiting ++ r ∷ [] }
  view-added n r es fs channels seen is e =
      view-both fs (values_of es ++ r ∷ []) channels channels (ap (λ gs. values_of gs) e ∙ values-pushed (n, r) es) refl
      ∙ ap (λ (v : RequestsView D). record v { waiting = v.waiting ++ r ∷ [] }) is

  pub waiting-added : (n : ℕ) (r : Request D) (es fs : List (ℕ × Request D)) (channels : Channels) (seen : RequestsView D) → viewed es channels ≡ seen
      → fs ≡ es ++ (n, r) ∷ [] → values_of fs ≡ seen.waiting ++ r ∷ []
  waiting-added n r es fs channels seen is e = ap (λ gs. values_of gs) e ∙ values-pushed (n, r) es ∙ ap (λ (v : RequestsView D). v.waiting ++ r ∷ []) is

  -- ---- the only one that passes a test is taken out, or none does

  pub record IsSettled (p : Request D → Bool) (es fs : List (ℕ × Request D)) (settled : Option (Request D)) : Type 0 where
    pub found : settled ≡ find p (values_of es)
    pub rest : values_of fs ≡ others p (values_of es)

  pub settled-none : (p : Request D → Bool) (es : List (ℕ × Request D)) → numbers_of p es ≡ [] → IsSettled p es es None
  settled-none p es h =
      let none = is-none p es h in record {
        found = sym none.first;
        rest = ap (λ gs. values_of gs) (sym none.kept) ∙ values-filtered (λ r. not (p r)) es;
      }

  -- the first is taken out, and then all others that pass
  pub settled-first : (p : Request D → Bool) (n : ℕ) (ns : List ℕ) (es fs : List (ℕ × Request D)) (found : Option (Request D)) → numbers_of p es ≡ n ∷ ns
      → IsStrictlySortedBy nat_cmp (keys_of es) → found ≡ lookup (is_number n) es → fs ≡ filter (λ e. not (p e.1)) (remove_entry (is_number n) es) → IsSettled p es fs found
  settled-first p n ns es fs found h s is rest =
      let (x, t) = is-first p n ns es h s in record {
        found = is ∙ (t.found ∙ sym t.first);
        rest = ap (λ gs. values_of gs) (rest ∙ t.kept) ∙ values-filtered (λ r. not (p r)) es;
      }

  pub settled-only : (p : Request D → Bool) (n : ℕ) (es fs : List (ℕ × Request D)) (found : Option (Request D)) → numbers_of p es ≡ n ∷ []
      → IsStrictlySortedBy nat_cmp (keys_of es) → found ≡ lookup (is_number n) es → fs ≡ remove_entry (is_number n) es → IsSettled p es fs found
  settled-only p n es fs found h s is rest =
      let (x, t) = is-first p n [] es h s in
      let none = is-none p (remove_entry (is_number n) es) t.left in
      settled-first p n [] es fs found h s is (rest ∙ sym none.kept)

  pub settled-start : (p : Request D → Bool) (n : ℕ) (es gs fs : List (ℕ × Request D)) (found : Option (Request D)) → Some n ≡ first_of (numbers_of p es)
      → IsStrictlySortedBy nat_cmp (keys_of es) → found ≡ lookup (is_number n) es → gs ≡ remove_entry (is_number n) es → fs ≡ filter (λ e. not (p e.1)) gs → IsSettled p es fs found
  settled-start p n es gs fs found h s is removed rest =
      let (ns, all) = some-first n (numbers_of p es) h in
      settled-first p n ns es fs found all s is (rest ∙ ap (λ hs. filter (λ e. not (p e.1)) hs) removed)

  -- ---- the first is taken out again and again

  pub rest-dropped : (p : Request D → Bool) (n : ℕ) (es fs : List (ℕ × Request D)) → Some n ≡ first_of (numbers_of p es) → IsStrictlySortedBy nat_cmp (keys_of es) → fs ≡ remove_entry (is_number n) es
      → filter (λ e. not (p e.1)) fs ≡ filter (λ e. not (p e.1)) es
  rest-dropped p n es fs h s is =
      let (ns, all) = some-first n (numbers_of p es) h in
      let (x, t) = is-first p n ns es all s in
      ap (λ gs. filter (λ e. not (p e.1)) gs) is ∙ t.kept

  pub one-less : (p : Request D → Bool) (n : ℕ) (es fs : List (ℕ × Request D)) → Some n ≡ first_of (numbers_of p es) → IsStrictlySortedBy nat_cmp (keys_of es) → fs ≡ remove_entry (is_number n) es
      → length fs < length es
  one-less p n es fs h s is =
      let (ns, all) = some-first n (numbers_of p es) h in
      let (x, t) = is-first p n ns es all s in
      let less = length-removed n x es t.found in
      let same = ap (λ gs. length gs) is in
      omega arith

  pub rest-kept : (p : Request D → Bool) (es : List (ℕ × Request D)) → None ≡ first_of (numbers_of p es) → es ≡ filter (λ e. not (p e.1)) es
  rest-kept p es h = sym (is-none p es (none-first (numbers_of p es) h)).kept

  -- ---- all of some numbers are taken out, one after another

  pub record IsTaking (p : Request D → Bool) (before now : List (ℕ × Request D)) (front sofar : List (Request D)) (numbers : List ℕ) : Type 0 where
    pub left : numbers ≡ numbers_of p now
    pub made : front ++ values_of (filter (λ e. p e.1) before) ≡ sofar ++ values_of (filter (λ e. p e.1) now)
    pub rest : filter (λ e. not (p e.1)) now ≡ filter (λ e. not (p e.1)) before

  pub taking-more : (p : Request D → Bool) (before now now' : List (ℕ × Request D)) (front made made' : List (Request D)) (left left' : List ℕ) (n : ℕ) → left ≡ n ∷ left'
      → IsStrictlySortedBy nat_cmp (keys_of now) → now' ≡ remove_entry (is_number n) now → made' ≡ made ++ optional (lookup (is_number n) now)
      → IsTaking p before now front made left → IsTaking p before now' front made' left'
  taking-more p before now now' front made made' left left' n split s is more h =
      let (x, t) = is-first p n left' now (sym h.left ∙ split) s in record {
        left = sym (ap (λ gs. numbers_of p gs) is ∙ t.left);
        made =
            h.made ∙ ap (λ xs. made ++ xs) t.taken ∙ sym (append_assoc made (x ∷ []) (values_of (filter (λ e. p e.1) (remove_entry (is_number n) now))))
            ∙ sym (ap (λ xs. xs ++ values_of (filter (λ e. p e.1) now')) (more ∙ ap (λ o. made ++ optional o) t.found)
            ∙ ap (λ gs. (made ++ x ∷ []) ++ values_of (filter (λ e. p e.1) gs)) is);
        rest = ap (λ gs. filter (λ e. not (p e.1)) gs) is ∙ (t.kept ∙ h.rest);
      }

  pub taking-done : (p : Request D → Bool) (before now : List (ℕ × Request D)) (front made : List (Request D)) (left : List ℕ) → left ≡ [] → IsTaking p before now front made left
      → IsTaken p before now front made
  taking-done p before now front made left empty h =
      let none = is-none p now (sym h.left ∙ empty) in record {
        taken = sym (h.made ∙ (ap (λ gs. made ++ values_of gs) none.taken ∙ append-nil made));
        rest = sym none.kept ∙ h.rest;
      }

  pub taken-all : (p : Request D → Bool) (es fs : List (ℕ × Request D)) (made : List (Request D)) → IsTaken p es fs [] made → made ≡ filter p (values_of es)
  taken-all p es fs made h = h.taken ∙ values-filtered p es

  pub taken-rest : (p : Request D → Bool) (es fs : List (ℕ × Request D)) (made : List (Request D)) → IsTaken p es fs [] made → values_of fs ≡ others p (values_of es)
  taken-rest p es fs made h = ap (λ gs. values_of gs) h.rest ∙ values-filtered (λ r. not (p r)) es

  -- ---- what is kept of them

  kept-by : (es fs : List (ℕ × Request D)) (channels channels' : Channels) (next : ℕ) → lasts_of channels' ≡ lasts_of channels → AllByRecursion (λ e. e.0 < next) fs
      → AllByRecursion (λ e. IsUsed (lasts_of channels) e.1) fs → AreTied fs channels' → AreKept fs channels' next
  kept-by es fs channels channels' next l below used tied = record { tied = tied; below = below; used = subst (λ ls. AllByRecursion (λ e. IsUsed ls e.1) fs) (sym l) used }

  pub kept-removed : (n : ℕ) (es fs : List (ℕ × Request D)) (channels channels' : Channels) (next : ℕ) → fs ≡ remove_entry (is_number n) es → lasts_of channels' ≡ lasts_of channels
      → (AreTied es channels → AreTied fs channels') → AreKept es channels next → AreKept fs channels' next
  kept-removed n es fs channels channels' next is l tied h =
      kept-by es fs channels channels' next l (subst (AllByRecursion (λ e. e.0 < next)) (sym is) (all-removed (λ e. e.0 < next) (is_number n) es h.below))
      (subst (AllByRecursion (λ e. IsUsed (lasts_of channels) e.1)) (sym is) (all-removed (λ e. IsUsed (lasts_of channels) e.1) (is_number n) es h.used)) (tied h.tied)

  pub kept-filtered : (p : Request D → Bool) (es fs : List (ℕ × Request D)) (channels channels' : Channels) (next : ℕ) → fs ≡ filter (λ e. p e.1) es → lasts_of channels' ≡ lasts_of channels
      → (AreTied es channels → AreTied fs channels') → AreKept es channels next → AreKept fs channels' next
  kept-filtered p es fs channels channels' next is l tied h =
      kept-by es fs channels channels' next l (subst (AllByRecursion (λ e. e.0 < next)) (sym is) (all-filtered (λ e. e.0 < next) (λ e. p e.1) es h.below))
      (subst (AllByRecursion (λ e. IsUsed (lasts_of channels) e.1)) (sym is) (all-filtered (λ e. IsUsed (lasts_of channels) e.1) (λ e. p e.1) es h.used)) (tied h.tied)

  pub kept-same : (es fs : List (ℕ × Request D)) (channels channels' : Channels) (next : ℕ) → fs ≡ es → lasts_of channels' ≡ lasts_of channels → (AreTied es channels → AreTied fs channels') → AreKept es channels next → AreKept fs channels' next
  kept-same es fs channels channels' next is l tied h =
      kept-by es fs channels channels' next l (subst (AllByRecursion (λ e. e.0 < next)) (sym is) h.below)
      (subst (AllByRecursion (λ e. IsUsed (lasts_of channels) e.1)) (sym is) h.used) (tied h.tied)

  -- what was added last is taken out again
  pub restored : (n : ℕ) (r : Request D) (es gs fs : List (ℕ × Request D)) → AllByRecursion (λ e. e.0 < n) es → gs ≡ es ++ (n, r) ∷ [] → fs ≡ remove_entry (is_number n) gs → fs ≡ es
  restored n r es gs fs below added removed = removed ∙ (ap (λ hs. remove_entry (is_number n) hs) added ∙ removed-last n r es below)

  -- ---- one more

  none-used : (w : WorkerKey) (i : ℕ) (es : List (ℕ × Request D)) (lasts : Lasts) → AllByRecursion (λ e. IsUsed lasts e.1) es → last_in lasts w < i → numbers_of (is_on w i) es ≡ []
  none-used w i [] lasts h up = refl
  none-used w i (e ∷ es) lasts h up = elim (cases_Bool (is_on w i e.1)) [
    | inl t ↦ absurd (let used = h.0 w i t in omega arith)
    | inr f ↦ rw f (none-used w i es lasts h.1 up)
  ]

  pub next-start : (n : ℕ) (es : List (ℕ × Request D)) (channels : Channels) → AreKept es channels n → IsNext n Start (outlines es)
  next-start n es channels h = record {
    above = all-parts outline_of (λ k. k < n) es h.below;
    fresh = λ w i t. absurd (let clash : false ≡ true = t in cc);
  }

  used-start : (lasts : Lasts) (r : Request D) → r.via ≡ Start → IsUsed lasts r
  used-start lasts r is w i t = absurd (let clash : false ≡ true = sym (ap (is_answer_to w i) is) ∙ t in cc)

  pub kept-started : (n next : ℕ) (r : Request D) (es fs : List (ℕ × Request D)) (channels : Channels) → next ≡ n + 1 → fs ≡ es ++ (n, r) ∷ [] → r.via ≡ Start → AreTied fs channels → AreKept es channels n
      → AreKept fs channels next
  kept-started n next r es fs channels up is via tied h = record {
    tied = tied;
    below = subst (AllByRecursion (λ e. e.0 < next)) (sym is)
        (all-pushed (λ e. e.0 < next) (n, r) es (all-weaker (λ e. e.0 < n) (λ e. e.0 < next) (λ e l. omega arith) es h.below) (omega arith));
    used = subst (AllByRecursion (λ e. IsUsed (lasts_of channels) e.1)) (sym is)
        (all-pushed (λ e. IsUsed (lasts_of channels) e.1) (n, r) es h.used (used-start (lasts_of channels) r via));
  }

-- ---- the channel of a new request

module _ (worker : WorkerKey) (id : ℕ) (channels : Channels) (new : id ≡ (pending_on channels worker).last + 1) where
  asked-same : (w : WorkerKey) (i : ℕ) → is_answer_to w i (Channel worker id) ≡ true → (worker ≡ w) × (id ≡ i)
  asked-same w i t = (let parts = and_parts (same_worker worker w) (id == i) t in (worker-same worker w parts.0, eqb-true id i parts.1))

  last-below : (w : WorkerKey) (i : ℕ) → worker ≡ w → id ≡ i → i ≡ last_in (lasts_of channels) w + 1
  last-below w i e f = sym f ∙ (new ∙ ap (λ k. k + 1) (sym (last-is channels worker) ∙ ap (last_in (lasts_of channels)) e))

  pub next-answer : {D : Type 0} (n : ℕ) (es : List (ℕ × Request D)) → AreKept es channels n → IsNext n (Channel worker id) (outlines es)
  next-answer n es h = record {
    above = all-parts outline_of (λ k. k < n) es h.below;
    fresh = λ w i t.
        let same = asked-same w i t in
        numbers-parts outline_of (answers w i) es ∙ none-used w i es (lasts_of channels) h.used (let is = last-below w i same.0 same.1 in omega arith);
  }

  module _ (channels' : Channels) (owner : Owner) (under : Serial)
      (put : (w : WorkerKey) → pending_on channels' w ≡ cond (same_worker worker w) (with_issued owner under (pending_on channels w)) (pending_on channels w)) where
    last-put : (b : Bool) (p : PendingView) → (cond b (with_issued owner under p) p).last ≡ cond b (p.last + 1) p.last
    last-put true p = refl
    last-put false p = refl

    -- the id that was used last rises on this channel alone
    pub last-after : (w : WorkerKey) → last_in (lasts_of channels') w ≡ cond (same_worker worker w) (last_in (lasts_of channels) w + 1) (last_in (lasts_of channels) w)
    last-after w =
        last-is channels' w ∙ (ap (λ (p : PendingView). p.last) (put w) ∙ (last-put (same_worker worker w) (pending_on channels w)
        ∙ ap (λ k. cond (same_worker worker w) (k + 1) k) (sym (last-is channels w))))

    rises-by : (b : Bool) (k m : ℕ) → m ≡ cond b (k + 1) k → k ≤ m
    rises-by true k m e = omega arith
    rises-by false k m e = omega arith

    rises-here : (b : Bool) (k m : ℕ) → b ≡ true → m ≡ cond b (k + 1) k → m ≡ k + 1
    rises-here true k m t e = e
    rises-here false k m t e = absurd cc

    used-still : {D : Type 0} (r : Request D) → IsUsed (lasts_of channels) r → IsUsed (lasts_of channels') r
    used-still r h w i t =
        let old = h w i t in
        let rise = rises-by (same_worker worker w) (last_in (lasts_of channels) w) (last_in (lasts_of channels') w) (last-after w) in
        omega arith

    used-new : {D : Type 0} (r : Request D) → r.via ≡ Channel worker id → IsUsed (lasts_of channels') r
    used-new r is w i t =
        let at-new : is_answer_to w i (Channel worker id) ≡ true = sym (ap (is_answer_to w i) is) ∙ t in
        let parts = and_parts (same_worker worker w) (id == i) at-new in
        let same = asked-same w i at-new in
        let here = rises-here (same_worker worker w) (last_in (lasts_of channels) w) (last_in (lasts_of channels') w) parts.0 (last-after w) in
        let below = last-below w i same.0 same.1 in
        omega arith

    pub kept-issued : {D : Type 0} (n next : ℕ) (r : Request D) (es fs : List (ℕ × Request D)) → next ≡ n + 1 → fs ≡ es ++ (n, r) ∷ [] → r.via ≡ Channel worker id → AreTied fs channels' → AreKept es channels n → AreKept fs channels' next
    kept-issued n next r es fs up is via tied h = record {
      tied = tied;
      below = subst (AllByRecursion (λ e. e.0 < next)) (sym is)
          (all-pushed (λ e. e.0 < next) (n, r) es (all-weaker (λ e. e.0 < n) (λ e. e.0 < next) (λ e l. omega arith) es h.below) (omega arith));
      used = subst (AllByRecursion (λ e. IsUsed (lasts_of channels') e.1)) (sym is)
          (all-pushed (λ e. IsUsed (lasts_of channels') e.1) (n, r) es
          (all-weaker (λ e. IsUsed (lasts_of channels) e.1) (λ e. IsUsed (lasts_of channels') e.1) (λ e u. used-still e.1 u) es h.used) (used-new r via));
    }

-- ---- what is seen of an id

pub last-seen : {D : Type 0} (es : List (ℕ × Request D)) (channels : Channels) (seen : RequestsView D) (worker : WorkerKey) → viewed es channels ≡ seen
    → (pending_on channels worker).last ≡ last_on seen worker
last-seen {D} es channels seen worker is = sym (last-is channels worker) ∙ ap (λ (v : RequestsView D). last_on v worker) is

abbrev Fault : Type 0
Fault = Result ℕ IssueFault

abbrev IsFault : IssueFault → IssueFault → Type 0
IsFault a b = ◌≡◌ {A = Fault} (Err a) (Err b)

pub is-spent : (last seen : ℕ) → last ≡ seen → last ≡ 4294967295 → IsFault IdsSpent IdsSpent ↔ (seen ≡ max_id)
is-spent last seen e full = (λ s. sym e ∙ full, λ s. refl)

pub not-spent : (last seen : ℕ) → last ≡ seen → last < 4294967295 → IsFault NoMemory IdsSpent ↔ (seen ≡ max_id)
not-spent last seen e less = (λ s. absurd cc, λ s. absurd (omega arith))

pub spent-seen : {P : Type 0} (last seen : ℕ) → last ≡ seen → (P ↔ (last ≡ max_id)) → P ↔ (seen ≡ max_id)
spent-seen {P} last seen e h = subst (λ n. P ↔ (n ≡ max_id)) e h

pub emptied : (ks : List ℕ) → (0 < length ks → false ≡ true) → ks ≡ []
emptied [] h = refl
emptied (k ∷ ks) h = absurd (let clash : false ≡ true = h (omega arith) in cc)
