-- What a table tells of each worker after a change at one of them.
use Rattle.std.proofs.Common.{◌≡◌, ℕ, List, [], Bool, true, false, ◌==◌, cond, Option, Some, refl, ap, ◌∙◌}
use Rattle.std.specs.Option.{unwrap_or}
use Rattle.std.proofs.lemmas.Bool.{eqb-true, and_parts}
use Rattle.ms_base.specs.declared.keys.WorkerKey.{WorkerKey}
use Rattle.host_notes.specs.Keys.{same_worker}

worker-same : (a b : WorkerKey) → same_worker a b ≡ true → a ≡ b
worker-same a b h =
    let parts = and_parts (a.slot == b.slot) (a.generation == b.generation) h in
    let slot = eqb-true a.slot b.slot parts.0 in
    let generation = eqb-true a.generation b.generation parts.1 in
    λ i. record { slot = slot i; generation = generation i }

abbrev pub read : Option (List ℕ) → List ℕ
read o = unwrap_or o []

same-both : {A : Type 0} (b : Bool) (x : A) → cond b x x ≡ x
same-both true x = refl
same-both false x = refl

module _ (f g : WorkerKey → Option (List ℕ)) (k : WorkerKey) (v : List ℕ) (after : (w : WorkerKey) → g w ≡ cond (same_worker k w) (Some v) (f w)) where
  changed-at : (h : List ℕ → List ℕ) → v ≡ h (read (f k)) → (w : WorkerKey) (b : Bool) → same_worker k w ≡ b → g w ≡ cond b (Some v) (f w)
      → read (g w) ≡ cond b (h (read (f w))) (read (f w))
  changed-at h is w true t e = ap read e ∙ (is ∙ ap (λ (q : WorkerKey). h (read (f q))) (worker-same k w t))
  changed-at h is w false t e = ap read e

  -- the bytes of the worker are a function of what they were
  pub changed : (h : List ℕ → List ℕ) → v ≡ h (read (f k)) → (w : WorkerKey) → read (g w) ≡ cond (same_worker k w) (h (read (f w))) (read (f w))
  changed h is w = changed-at h is w (same_worker k w) refl (after w)

  -- they were put back as they were
  pub unchanged : v ≡ read (f k) → (w : WorkerKey) → read (g w) ≡ read (f w)
  unchanged is w = changed (λ b. b) is w ∙ same-both (same_worker k w) (read (f w))
