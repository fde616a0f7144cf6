-- What an index tells after a change at one key.
use Rattle.std.proofs.Common.{◌≡◌, ℕ, Bool, true, false, cond, Option, Some, refl, ap, ◌∙◌}
use Rattle.std.specs.HashMap as hash
use Rattle.std.specs.HashMap.{HashMap}
use Rattle.ms_base.specs.declared.keys.WorkerKey.{WorkerKey}
use Rattle.host_notes.specs.Keys.{same_worker}
use Rattle.host_core.specs.LookUps.{same_channel}
use Rattle.host_core.proofs.Keys.{worker-same, worker-itself}

-- ---- a change at one key

cond-map : {A B : Type 0} (f : A → B) (b : Bool) (x y : A) → f (cond b x y) ≡ cond b (f x) (f y)
cond-map f true x y = refl
cond-map f false x y = refl

module _ {Q Y : Type 0} (same : Q → Q → Bool) (tied : (a b : Q) → same a b ≡ true → a ≡ b) (f g : Q → Y) (k : Q) (y : Y)
    (after : (q : Q) → g q ≡ cond (same k q) y (f q)) where
  changed-at : (h : Y → Y) → y ≡ h (f k) → (q : Q) (b : Bool) → same k q ≡ b → g q ≡ cond b y (f q) → g q ≡ cond b (h (f q)) (f q)
  changed-at h is q true t e = e ∙ (is ∙ ap (λ p. h (f p)) (tied k q t))
  changed-at h is q false t e = e

  -- the value at the key is a function of what it was
  pub changed : (h : Y → Y) → y ≡ h (f k) → (q : Q) → g q ≡ cond (same k q) (h (f q)) (f q)
  changed h is q = changed-at h is q (same k q) refl (after q)

-- ---- a table whose keys are channels

either : {A : Type 0} (b : Bool) (x : A) → cond b x x ≡ x
either true x = refl
either false x = refl

abbrev pub of_channel : {P S : Type 0} → HashMap (ℕ × ℕ) P S → WorkerKey → Option P
of_channel table w = hash.get same_channel table (w.slot, w.generation)

-- the table has this at a channel now, and at each other what it had
abbrev pub Puts : {P S : Type 0} → HashMap (ℕ × ℕ) P S → HashMap (ℕ × ℕ) P S → WorkerKey → P → Type 0
Puts old new k v = (w : WorkerKey) → of_channel new w ≡ cond (same_worker k w) (Some v) (of_channel old w)

-- it was written where another stood
pub written : {P S : Type 0} (old new : HashMap (ℕ × ℕ) P S) (k : WorkerKey) (v : P)
    → hash.UpdatesBy same_channel (same_channel (k.slot, k.generation)) old new (Some v) → Puts old new k v
written old new k v updates = λ w. updates.0 (w.slot, w.generation)

-- it was inserted
pub inserted : {P S : Type 0} (old here new : HashMap (ℕ × ℕ) P S) (k : WorkerKey) (v : P) → here ≡ old
    → hash.UpdatesBy same_channel (same_channel (k.slot, k.generation)) here new (Some v) → Puts old new k v
inserted old here new k v same updates = λ w.
    updates.0 (w.slot, w.generation) ∙ ap (λ table. cond (same_worker k w) (Some v) (of_channel table w)) same

module _ {P S : Type 0} (old new : HashMap (ℕ × ℕ) P S) (k : WorkerKey) (v : P) (puts : Puts old new k v) where
  -- what is told of the channel is a function of what was told
  pub told : {X : Type 0} (read : Option P → X) (h : X → X) → read (Some v) ≡ h (read (of_channel old k))
      → (w : WorkerKey) → read (of_channel new w) ≡ cond (same_worker k w) (h (read (of_channel old w))) (read (of_channel old w))
  told read h is =
      changed same_worker worker-same (λ w. read (of_channel old w)) (λ w. read (of_channel new w)) k (read (Some v))
      (λ w. ap read (puts w) ∙ cond-map read (same_worker k w) (Some v) (of_channel old w)) h is

  -- the same is told as before
  pub told-same : {X : Type 0} (read : Option P → X) → read (Some v) ≡ read (of_channel old k)
      → (w : WorkerKey) → read (of_channel new w) ≡ read (of_channel old w)
  told-same read is w = told read (λ x. x) is w ∙ either (same_worker k w) (read (of_channel old w))

  pub told-here : of_channel new k ≡ Some v
  told-here = puts k ∙ ap (λ b. cond b (Some v) (of_channel old k)) (worker-itself k)

  pub told-there : (w : WorkerKey) → same_worker k w ≡ false → of_channel new w ≡ of_channel old w
  told-there w other = puts w ∙ ap (λ b. cond b (Some v) (of_channel old w)) other
