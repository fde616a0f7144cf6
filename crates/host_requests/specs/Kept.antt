-- How the requests that wait are kept: under numbers that rise in order of issue, found by tables, and on their channels.
-- This project's own.
use Rattle.std.specs.Prelude.{ℕ, ◌+◌, ◌≡◌, ◌≤◌, ◌<◌, ◌==◌, ◌&&◌, List, [], ◌∷◌, ◌++◌, Bool, true, not, map, filter, if◌then◌else◌}
use Rattle.std.specs.HashMap as hash
use Rattle.std.specs.List.{AllByRecursion, flat_map}
use Rattle.std.specs.List.Sorted.{IsStrictlySortedBy}
use Rattle.std.specs.Map.{keys_of, values_of}
use Rattle.std.specs.Option.{unwrap_or}
use Rattle.std.specs.Ordering.{nat_cmp}
use Rattle.ms_base.specs.declared.keys.Serial.{Serial}
use Rattle.ms_base.specs.declared.keys.WorkerKey.{WorkerKey}
use Rattle.host_notes.specs.Keys.{same_worker}
use Rattle.pending_calls.specs.Pending.{PendingView, without}
use Rattle.pending_calls.specs.declared.waiting.Owner.{Owner}
use Rattle.pending_calls.specs.declared.waiting.Waiting.{Waiting}
use Rattle.host_requests.specs.declared.channels.Channels.{Channels}
use Rattle.host_requests.specs.declared.places.Places.{Places}
use Rattle.host_requests.specs.declared.request.Request.{Request}
use Rattle.host_requests.specs.declared.request.Via.{Via}
use Rattle.host_requests.specs.declared.request.Via.TheVariants.{Channel, Start}
use Rattle.host_requests.specs.Places.{ArePlaced, Outlines}
use Rattle.host_requests.specs.Requests.{Lasts, is_on, last_in}

-- ---- channels

abbrev pub same_slot : ℕ × ℕ → ℕ × ℕ → Bool
same_slot a b = (a.0 == b.0) && (a.1 == b.1)

abbrev pub worker_at : ℕ × ℕ → WorkerKey
worker_at key = record { slot = key.0; generation = key.1 }

abbrev pub last_entry : (ℕ × ℕ) × PendingView → WorkerKey × ℕ
last_entry e = (worker_at e.0, e.1.last)

-- the ids that were used last
abbrev pub lasts_of : Channels → Lasts
lasts_of channels = map last_entry channels.pending.entries

abbrev pub no_requests : PendingView
no_requests = record { waiting = []; last = 0 }

-- the requests on the channel of a worker
abbrev pub pending_on : Channels → WorkerKey → PendingView
pending_on channels worker = unwrap_or (hash.get same_slot channels.pending (worker.slot, worker.generation)) no_requests

-- a channel after one more request
abbrev pub with_issued : Owner → Serial → PendingView → PendingView
with_issued owner under p = record { waiting = p.waiting ++ record { id = p.last + 1; owner = owner; under = under } ∷ []; last = p.last + 1 }

-- a channel after a request that came to its settlement so
abbrev pub settled_on : WorkerKey → Via → PendingView → PendingView
settled_on worker (Channel to id) p = if same_worker to worker then record p { waiting = without id p.waiting } else p
settled_on worker Start p = p

-- what is asked of a worker by a request that comes to its settlement so
abbrev pub asked : WorkerKey → Via → Owner → Serial → List Waiting
asked worker (Channel to id) owner under = if same_worker to worker then record { id = id; owner = owner; under = under } ∷ [] else []
asked worker Start owner under = []

-- ---- requests under their numbers

module _ {D : Type 0} where
  abbrev pub outlines : List (ℕ × Request D) → Outlines
  outlines es = map (λ e. (e.0, (e.1.via, e.1.under))) es

  pub record AreFiled (es : List (ℕ × Request D)) (places : Places) : Type 0 where
    pub rising : IsStrictlySortedBy nat_cmp (keys_of es)
    pub placed : ArePlaced places (outlines es)

  -- the id of a request was used on its channel
  abbrev pub IsUsed : Lasts → Request D → Type 0
  IsUsed lasts r = (worker : WorkerKey) (id : ℕ) → is_on worker id r ≡ true → id ≤ last_in lasts worker

  -- what a request is on the channel of a worker
  abbrev pub asked_on : WorkerKey → List (Request D) → List Waiting
  asked_on worker waiting = flat_map (λ r. asked worker r.via r.owner r.under) waiting

  -- each channel has the requests that wait for its responses, in order of issue
  pub record AreTied (es : List (ℕ × Request D)) (channels : Channels) : Type 0 where
    pub each : (worker : WorkerKey) → (pending_on channels worker).waiting ≡ asked_on worker (values_of es)

  pub record AreKept (es : List (ℕ × Request D)) (channels : Channels) (next : ℕ) : Type 0 where
    pub below : AllByRecursion (λ e. e.0 < next) es
    pub used : AllByRecursion (λ e. IsUsed (lasts_of channels) e.1) es
    pub tied : AreTied es channels

  -- what passes a test was taken out, and put in order behind what was taken before
  pub record IsTaken (p : Request D → Bool) (before after : List (ℕ × Request D)) (front whole : List (Request D)) : Type 0 where
    pub taken : whole ≡ front ++ values_of (filter (λ e. p e.1) before)
    pub rest : after ≡ filter (λ e. not (p e.1)) before
