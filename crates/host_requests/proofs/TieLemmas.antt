-- The requests on each channel, once more is issued and once one is taken out.
use Rattle.std.proofs.Common.{◌≡◌, ℕ, ◌+◌, List, [], ◌∷◌, ◌++◌, Bool, true, false, not, ◌&&◌, ◌==◌, cond, Some, refl, sym, ap, subst, ◌∙◌, inl, inr, arith}
use Rattle.std.proofs.lemmas.Bool.{cases_Bool}
use Rattle.std.proofs.lemmas.Bool.Decides.{nat_tests}
use Rattle.std.proofs.lemmas.List.{append-nil}
use Rattle.std.proofs.lemmas.List.Elements.{filter-append}
use Rattle.std.proofs.lemmas.List.Concat.{flat_map-append}
use Rattle.std.proofs.lemmas.Map.Keys.{sorted_tail}
use Rattle.std.specs.List.Sorted.{IsStrictlySortedBy}
use Rattle.std.specs.Option.{unwrap_or}
use Rattle.std.specs.Map.{keys_of, values_of, lookup, remove_entry}
use Rattle.std.specs.Ordering.{nat_cmp}
use Rattle.ms_base.specs.declared.keys.Serial.{Serial}
use Rattle.ms_base.specs.declared.keys.WorkerKey.{WorkerKey}
use Rattle.host_notes.specs.Keys.{same_worker}
use Rattle.pending_calls.specs.Pending.{PendingView, has_id, without}
use Rattle.pending_calls.specs.declared.waiting.Owner.{Owner}
use Rattle.pending_calls.specs.declared.waiting.Waiting.{Waiting}
use Rattle.host_requests.specs.declared.channels.Channels.{Channels}
use Rattle.host_requests.specs.declared.request.Request.{Request}
use Rattle.host_requests.specs.declared.request.Via.{Via}
use Rattle.host_requests.specs.declared.request.Via.TheVariants.{Channel, Start}
use Rattle.host_requests.specs.Kept.{AreTied, asked, asked_on, no_requests, pending_on, same_slot, settled_on, with_issued}
use Rattle.host_requests.specs.Places.{numbers_of}
use Rattle.host_requests.specs.Requests.{is_answer_to, is_on}
use Rattle.host_requests.proofs.ChannelLemmas.{worker-same}
use Rattle.host_requests.proofs.NumberLemmas.{apart-first, heads, is_number, number-same, tails, values-pushed}

pub pending-same : (channels channels' : Channels) → channels'.pending.entries ≡ channels.pending.entries → (w : WorkerKey) → pending_on channels' w ≡ pending_on channels w
pending-same channels channels' e w = ap (λ es. unwrap_or (lookup (same_slot (w.slot, w.generation)) es) no_requests) e

-- ---- one request on one channel

eq-self : (n : ℕ) → (n == n) ≡ true
eq-self n = grind (arith, nat_tests)

taken-by : (worker : WorkerKey) (id n : ℕ) (owner : Owner) (under : Serial) (b : Bool) → (b && (n == id)) ≡ true → without id (cond b (record { id = n; owner = owner; under = under } ∷ []) []) ≡ []
taken-by worker id n owner under true t = rw t refl
taken-by worker id n owner under false t = refl

left-by : (worker : WorkerKey) (id n : ℕ) (owner : Owner) (under : Serial) (b : Bool) → (b && (n == id)) ≡ false
    → without id (cond b (record { id = n; owner = owner; under = under } ∷ []) []) ≡ cond b (record { id = n; owner = owner; under = under } ∷ []) []
left-by worker id n owner under true f = rw f refl
left-by worker id n owner under false f = refl

asked-taken : (worker : WorkerKey) (id : ℕ) (via : Via) (owner : Owner) (under : Serial) → is_answer_to worker id via ≡ true → without id (asked worker via owner under) ≡ []
asked-taken worker id (Channel to n) owner under t = taken-by worker id n owner under (same_worker to worker) t
asked-taken worker id Start owner under t = refl

asked-left : (worker : WorkerKey) (id : ℕ) (via : Via) (owner : Owner) (under : Serial) → is_answer_to worker id via ≡ false → without id (asked worker via owner under) ≡ asked worker via owner under
asked-left worker id (Channel to n) owner under f = left-by worker id n owner under (same_worker to worker) f
asked-left worker id Start owner under f = refl

self-answer : (to : WorkerKey) (id : ℕ) → is_answer_to to id (Channel to id) ≡ true
self-answer to id = ap (λ b. b && (to.generation == to.generation) && (id == id)) (eq-self to.slot) ∙ ap (λ b. b && (id == id)) (eq-self to.generation) ∙ eq-self id

module _ {D : Type 0} where
  abbrev asks : WorkerKey → Request D → List Waiting
  asks worker r = asked worker r.via r.owner r.under

  -- ---- one is taken out

  -- that isn't on this channel
  stays-off : (worker : WorkerKey) (n : ℕ) (r : Request D) (es : List (ℕ × Request D)) → lookup (is_number n) es ≡ Some r → asks worker r ≡ []
      → asked_on worker (values_of (remove_entry (is_number n) es)) ≡ asked_on worker (values_of es)
  stays-off worker n r [] h off = refl
  stays-off worker n r (e ∷ es) h off = elim (cases_Bool (is_number n e.0)) [
    | inl here ↦
        let same : e.1 ≡ r = (let found : Some e.1 ≡ Some r = rw here at h in cc) in
        rw here (sym (ap (λ ws. ws ++ asked_on worker (values_of es)) (ap (asks worker) same ∙ off)))
    | inr apart ↦ rw apart (ap (λ ws. asks worker e.1 ++ ws) (stays-off worker n r es (rw apart at h) off))
  ]

  none-left : (worker : WorkerKey) (id : ℕ) (es : List (ℕ × Request D)) → numbers_of (is_on worker id) es ≡ [] → without id (asked_on worker (values_of es)) ≡ asked_on worker (values_of es)
  none-left worker id [] h = refl
  none-left worker id (e ∷ es) h = elim (cases_Bool (is_on worker id e.1)) [
    | inl y ↦ absurd (let more : e.0 ∷ numbers_of (is_on worker id) es ≡ [] = rw y at h in cc)
    | inr f ↦
        filter-append (λ w. not (has_id id w)) (asks worker e.1) (asked_on worker (values_of es))
        ∙ ap (λ ws. ws ++ without id (asked_on worker (values_of es))) (asked-left worker id e.1.via e.1.owner e.1.under f)
        ∙ ap (λ ws. asks worker e.1 ++ ws) (none-left worker id es (rw f at h))
  ]

  -- the only one of its id on this channel
  one-taken : (worker : WorkerKey) (id n : ℕ) (es : List (ℕ × Request D)) → numbers_of (is_on worker id) es ≡ n ∷ [] → IsStrictlySortedBy nat_cmp (keys_of es)
      → asked_on worker (values_of (remove_entry (is_number n) es)) ≡ without id (asked_on worker (values_of es))
  one-taken worker id n [] h s = absurd cc
  one-taken worker id n (e ∷ es) h s = elim (cases_Bool (is_on worker id e.1)) [
    | inl y ↦
        let both = rw y at h in
        let here : is_number n e.0 ≡ true = number-same n e.0 (heads e.0 n (numbers_of (is_on worker id) es) [] both) in
        rw here
        (sym
        (filter-append (λ w. not (has_id id w)) (asks worker e.1) (asked_on worker (values_of es))
        ∙ ap (λ ws. ws ++ without id (asked_on worker (values_of es))) (asked-taken worker id e.1.via e.1.owner e.1.under y)
        ∙ none-left worker id es (tails e.0 n (numbers_of (is_on worker id) es) [] both)))
    | inr f ↦
        let later = rw f at h in
        let apart : is_number n e.0 ≡ false = apart-first (is_on worker id) n [] e es later s in
        rw apart
        (ap (λ ws. asks worker e.1 ++ ws) (one-taken worker id n es later (sorted_tail nat_cmp e.0 (keys_of es) s))
        ∙ sym
        (filter-append (λ w. not (has_id id w)) (asks worker e.1) (asked_on worker (values_of es))
        ∙ ap (λ ws. ws ++ without id (asked_on worker (values_of es))) (asked-left worker id e.1.via e.1.owner e.1.under f)))
  ]

  module _ (n : ℕ) (r : Request D) (es fs : List (ℕ × Request D)) (channels channels' : Channels) (found : lookup (is_number n) es ≡ Some r) (is : fs ≡ remove_entry (is_number n) es) where
    module _ (to : WorkerKey) (id : ℕ) (via : r.via ≡ Channel to id) (alone : numbers_of (is_on to id) es ≡ n ∷ []) (s : IsStrictlySortedBy nat_cmp (keys_of es))
        (put : (w : WorkerKey) → pending_on channels' w ≡ cond (same_worker to w) (record (pending_on channels w) { waiting = without id (pending_on channels w).waiting }) (pending_on channels w)) where
      asks-of : (w : WorkerKey) → asks w r ≡ cond (same_worker to w) (record { id = id; owner = r.owner; under = r.under } ∷ []) []
      asks-of w = ap (λ v. asked w v r.owner r.under) via

      left-on : (w : WorkerKey) (b : Bool) → same_worker to w ≡ b → asked_on w (values_of (remove_entry (is_number n) es)) ≡ cond b (without id (asked_on w (values_of es))) (asked_on w (values_of es))
      left-on w true t = subst (λ q. asked_on q (values_of (remove_entry (is_number n) es)) ≡ without id (asked_on q (values_of es))) (worker-same to w t) (one-taken to id n es alone s)
      left-on w false f = stays-off w n r es found (asks-of w ∙ ap (λ b. cond b (record { id = id; owner = r.owner; under = r.under } ∷ []) []) f)

      waiting-put : (b : Bool) (p : PendingView) → (cond b (record p { waiting = without id p.waiting }) p).waiting ≡ cond b (without id p.waiting) p.waiting
      waiting-put true p = refl
      waiting-put false p = refl

      tied-answered : AreTied es channels → AreTied fs channels'
      tied-answered h = record {
        each = λ w.
            ap (λ (p : PendingView). p.waiting) (put w) ∙ waiting-put (same_worker to w) (pending_on channels w)
            ∙ ap (λ ws. cond (same_worker to w) (without id ws) ws) (h.each w)
            ∙ sym (ap (λ gs. asked_on w (values_of gs)) is ∙ left-on w (same_worker to w) refl);
      }

    tied-started : r.via ≡ Start → ((w : WorkerKey) → pending_on channels' w ≡ pending_on channels w) → AreTied es channels → AreTied fs channels'
    tied-started via same h = record {
      each = λ w.
          ap (λ (p : PendingView). p.waiting) (same w) ∙ h.each w
          ∙ sym (ap (λ gs. asked_on w (values_of gs)) is ∙ stays-off w n r es found (ap (λ v. asked w v r.owner r.under) via));
    }

    tied-by : (via : Via) → r.via ≡ via → ((worker : WorkerKey) (id : ℕ) → is_answer_to worker id via ≡ true → numbers_of (is_on worker id) es ≡ n ∷ []) → IsStrictlySortedBy nat_cmp (keys_of es)
        → ((w : WorkerKey) → pending_on channels' w ≡ settled_on w via (pending_on channels w)) → AreTied es channels → AreTied fs channels'
    tied-by (Channel to id) e alone s put h = tied-answered to id e (alone to id (self-answer to id)) s put h
    tied-by Start e alone s put h = tied-started e put h

    -- it is taken out of its channel
    pub tied-taken : ((worker : WorkerKey) (id : ℕ) → is_on worker id r ≡ true → numbers_of (is_on worker id) es ≡ n ∷ []) → IsStrictlySortedBy nat_cmp (keys_of es)
        → ((w : WorkerKey) → pending_on channels' w ≡ settled_on w r.via (pending_on channels w)) → AreTied es channels → AreTied fs channels'
    tied-taken = tied-by r.via refl

  pub tied-same : (es fs : List (ℕ × Request D)) (channels channels' : Channels) → fs ≡ es → ((w : WorkerKey) → pending_on channels' w ≡ pending_on channels w) → AreTied es channels → AreTied fs channels'
  tied-same es fs channels channels' is put h =
      record { each = λ w. ap (λ (p : PendingView). p.waiting) (put w) ∙ (h.each w ∙ sym (ap (λ gs. asked_on w (values_of gs)) is)) }

  -- ---- one more

  asked-pushed : (w : WorkerKey) (n : ℕ) (r : Request D) (es : List (ℕ × Request D)) → asked_on w (values_of (es ++ (n, r) ∷ [])) ≡ asked_on w (values_of es) ++ asks w r
  asked-pushed w n r es =
      ap (asked_on w) (values-pushed (n, r) es) ∙ flat_map-append (asks w) (values_of es) (r ∷ []) ∙ ap (λ ws. asked_on w (values_of es) ++ ws) (append-nil (asks w r))

  pub tied-start : (n : ℕ) (r : Request D) (es fs : List (ℕ × Request D)) (channels : Channels) → fs ≡ es ++ (n, r) ∷ [] → r.via ≡ Start → AreTied es channels → AreTied fs channels
  tied-start n r es fs channels is via h = record {
    each = λ w.
        h.each w
        ∙ sym
        (ap (λ gs. asked_on w (values_of gs)) is ∙ asked-pushed w n r es ∙ ap (λ ws. asked_on w (values_of es) ++ ws) (ap (λ v. asked w v r.owner r.under) via)
        ∙ append-nil (asked_on w (values_of es)));
  }

module _ (worker : WorkerKey) (id : ℕ) (channels channels' : Channels) (new : id ≡ (pending_on channels worker).last + 1) (owner : Owner) (under : Serial)
    (put : (w : WorkerKey) → pending_on channels' w ≡ cond (same_worker worker w) (with_issued owner under (pending_on channels w)) (pending_on channels w)) where
  issued-at : (w : WorkerKey) (b : Bool) → same_worker worker w ≡ b → (cond b (with_issued owner under (pending_on channels w)) (pending_on channels w)).waiting
      ≡ (pending_on channels w).waiting ++ cond b (record { id = id; owner = owner; under = under } ∷ []) []
  issued-at w true t =
      let next : (pending_on channels w).last + 1 ≡ id = ap (λ (q : WorkerKey). (pending_on channels q).last + 1) (sym (worker-same worker w t)) ∙ sym new in
      ap (λ (m : ℕ). (pending_on channels w).waiting ++ record { id = m; owner = owner; under = under } ∷ []) next
  issued-at w false f = sym (append-nil (pending_on channels w).waiting)

  pub tied-issued : {D : Type 0} (n : ℕ) (due : D) (es fs : List (ℕ × Request D)) → fs ≡ es ++ (n, record { via = Channel worker id; owner = owner; under = under; due = due }) ∷ [] → AreTied es channels
      → AreTied fs channels'
  tied-issued n due es fs is h = record {
    each = λ w.
        ap (λ (p : PendingView). p.waiting) (put w) ∙ issued-at w (same_worker worker w) refl
        ∙ ap (λ ws. ws ++ cond (same_worker worker w) (record { id = id; owner = owner; under = under } ∷ []) []) (h.each w)
        ∙ sym (ap (λ gs. asked_on w (values_of gs)) is ∙ asked-pushed w n (record { via = Channel worker id; owner = owner; under = under; due = due }) es);
  }
