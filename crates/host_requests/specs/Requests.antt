-- The requests to all workers that have no settlement yet. This project's own.
use Rattle.std.specs.Prelude.{ℕ, ◌==◌, ◌&&◌, List, Bool, false, true, not, filter}
use Rattle.std.specs.List.{list_any}
use Rattle.std.specs.Map.{lookup}
use Rattle.std.specs.Option.{unwrap_or}
use Rattle.ms_base.specs.declared.keys.Serial.{Serial}
use Rattle.ms_base.specs.declared.keys.WorkerKey.{WorkerKey}
use Rattle.host_notes.specs.Keys.{same_worker}
use Rattle.pending_calls.specs.Pending.{same_serial}
use Rattle.host_requests.specs.declared.request.Request.{Request}
use Rattle.host_requests.specs.declared.request.Via.{Via}
use Rattle.host_requests.specs.declared.request.Via.TheVariants.{Channel, Start}

-- the id that was used last on each channel that had one
abbrev pub Lasts : Type 0
Lasts = List (WorkerKey × ℕ)

-- the id that was used last on the channel of a worker, 0 before the first
abbrev pub last_in : Lasts → WorkerKey → ℕ
last_in lasts worker = unwrap_or (lookup (same_worker worker) lasts) 0

-- it is settled by the response to this id of this worker
abbrev pub is_answer_to : WorkerKey → ℕ → Via → Bool
is_answer_to worker id (Channel at n) = same_worker at worker && (n == id)
is_answer_to worker id Start = false

abbrev pub is_by_start : Via → Bool
is_by_start (Channel at n) = false
is_by_start Start = true

module _ {D : Type 0} where
  -- it has this id on the channel of this worker
  abbrev pub is_on : WorkerKey → ℕ → Request D → Bool
  is_on worker id r = is_answer_to worker id r.via

  -- it waits for the start of this Worker
  abbrev pub is_start_of : Serial → Request D → Bool
  is_start_of worker r = is_by_start r.via && same_serial r.under worker

  -- it was issued under one of these objects
  abbrev pub is_under : List Serial → Request D → Bool
  is_under objects r = list_any (λ o. same_serial r.under o) objects

-- What is seen of the requests of all channels.
pub record RequestsView (D : Type 0) : Type 0 where
  -- those without a settlement, in order of issue over all channels
  pub waiting : List (Request D)
  -- the ids that were used last
  pub lasts : Lasts

module _ {D : Type 0} where
  -- the id that was used last on the channel of a worker, 0 before the first
  abbrev pub last_on : RequestsView D → WorkerKey → ℕ
  last_on view worker = last_in view.lasts worker

  -- the others than those that pass a test
  abbrev pub others : (Request D → Bool) → List (Request D) → List (Request D)
  others p waiting = filter (λ r. not (p r)) waiting
