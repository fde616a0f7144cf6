-- What the table of channels tells of each after a change at one of them.
use Rattle.std.proofs.Common.{◌≡◌, ℕ, List, [], ◌∷◌, Bool, true, false, ◌==◌, cond, Option, Some, refl, ap, ◌∙◌, inl, inr, map}
use Rattle.std.proofs.lemmas.Bool.{cases_Bool, eqb-true, and_parts}
use Rattle.std.specs.Map.{lookup, set_value}
use Rattle.std.specs.Option.{unwrap_or}
use Rattle.ms_base.specs.declared.keys.WorkerKey.{WorkerKey}
use Rattle.host_notes.specs.Keys.{same_worker}
use Rattle.pending_calls.specs.Pending.{PendingView}
use Rattle.host_requests.specs.declared.channels.Channels.{Channels}
use Rattle.host_requests.specs.Kept.{last_entry, lasts_of, no_requests, pending_on, same_slot, worker_at}
use Rattle.host_requests.specs.Requests.{Lasts, last_in}

abbrev Entries : Type 0
Entries = List ((ℕ × ℕ) × PendingView)

abbrev pub read : Option PendingView → PendingView
read o = unwrap_or o no_requests

pub worker-same : (a b : WorkerKey) → same_worker a b ≡ true → a ≡ b
worker-same a b h =
    let parts = and_parts (a.slot == b.slot) (a.generation == b.generation) h in
    let slot = eqb-true a.slot b.slot parts.0 in
    let generation = eqb-true a.generation b.generation parts.1 in
    λ i. record { slot = slot i; generation = generation i }

module _ (f g : WorkerKey → Option PendingView) (k : WorkerKey) (v : PendingView) (after : (w : WorkerKey) → g w ≡ cond (same_worker k w) (Some v) (f w)) where
  changed-at : (h : PendingView → PendingView) → v ≡ h (read (f k)) → (w : WorkerKey) (b : Bool) → same_worker k w ≡ b → g w ≡ cond b (Some v) (f w)
      → read (g w) ≡ cond b (h (read (f w))) (read (f w))
  changed-at h is w true t e = ap read e ∙ (is ∙ ap (λ (q : WorkerKey). h (read (f q))) (worker-same k w t))
  changed-at h is w false t e = ap read e

  -- the channel is a function of what it was
  pub channel-changed : (h : PendingView → PendingView) → v ≡ h (read (f k)) → (w : WorkerKey) → read (g w) ≡ cond (same_worker k w) (h (read (f w))) (read (f w))
  channel-changed h is w = changed-at h is w (same_worker k w) refl (after w)

-- ---- the ids that were used last

last-at : (es : Entries) (w : WorkerKey) → unwrap_or (lookup (same_worker w) (map last_entry es)) 0 ≡ (read (lookup (same_slot (w.slot, w.generation)) es)).last
last-at [] w = refl
last-at (e ∷ es) w = elim (cases_Bool (same_slot (w.slot, w.generation) e.0)) [
  | inl t ↦ rw t refl
  | inr f ↦ rw f (last-at es w)
]

pub last-is : (channels : Channels) (w : WorkerKey) → last_in (lasts_of channels) w ≡ (pending_on channels w).last
last-is channels w = last-at channels.pending.entries w

abbrev with-last : ℕ × ℕ → Entries → ℕ → Lasts
with-last key es n = (worker_at key, n) ∷ map last_entry es

-- a channel whose last id stays is put in its place
pub lasts-stay : (t : ℕ × ℕ → Bool) (p v : PendingView) (es : Entries) → Some p ≡ lookup t es → v.last ≡ p.last
    → map last_entry (set_value t es v) ≡ map last_entry es
lasts-stay t p v [] h e = refl
lasts-stay t p v (d ∷ es) h e = elim (cases_Bool (t d.0)) [
  | inl y ↦
      let here : p ≡ d.1 = (let found : Some p ≡ Some d.1 = rw y at h in cc) in
      rw y (ap (with-last d.0 es) (e ∙ ap (λ (q : PendingView). q.last) here))
  | inr f ↦ rw f (ap (λ ls. last_entry d ∷ ls) (lasts-stay t p v es (rw f at h) e))
]

-- a channel is put in its own place
pub entries-stay : (t : ℕ × ℕ → Bool) (p v : PendingView) (es : Entries) → Some p ≡ lookup t es → v ≡ p → set_value t es v ≡ es
entries-stay t p v [] h e = refl
entries-stay t p v (d ∷ es) h e = elim (cases_Bool (t d.0)) [
  | inl y ↦
      let here : p ≡ d.1 = (let found : Some p ≡ Some d.1 = rw y at h in cc) in
      rw y (ap (λ q. (d.0, q) ∷ es) (e ∙ here))
  | inr f ↦ rw f (ap (λ ls. d ∷ ls) (entries-stay t p v es (rw f at h) e))
]
