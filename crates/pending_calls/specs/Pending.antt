-- The requests of one channel that have no settlement yet. This project's own.
use Rattle.std.specs.Prelude.{ℕ, ◌≤◌, ◌==◌, List, map, filter, find, Bool, not, Option, All}
use Rattle.std.specs.List.{list_any}
use Rattle.std.specs.List.Sorted.{IsStrictlyIncreasing}
use Rattle.ms_base.specs.declared.keys.Serial.{Serial}
use Rattle.pending_calls.specs.declared.waiting.Waiting.{Waiting}

-- What is seen of the requests of a channel.
pub record PendingView : Type 0 where
  -- those that were issued and have no settlement, in order of issue
  pub waiting : List Waiting
  -- the id that was used last, 0 before the first
  pub last : ℕ

-- the last id of a channel: ids don't wrap
abbrev pub max_id : ℕ
max_id = 4294967295

abbrev pub has_id : ℕ → Waiting → Bool
has_id id w = w.id == id

-- the request of an id, where it waits
abbrev pub waiting_as : List Waiting → ℕ → Option Waiting
waiting_as waiting id = find (has_id id) waiting

-- all but the request of an id
abbrev pub without : ℕ → List Waiting → List Waiting
without id waiting = filter (λ w. not (has_id id w)) waiting

abbrev pub same_serial : Serial → Serial → Bool
same_serial a b = a.0 == b.0

-- it was issued under one of these objects
abbrev pub is_under : List Serial → Waiting → Bool
is_under objects w = list_any (λ o. same_serial o w.under) objects

-- those that were issued under one of these objects, in order of issue
abbrev pub all_under : List Serial → List Waiting → List Waiting
all_under objects waiting = filter (is_under objects) waiting

-- the others
abbrev pub none_under : List Serial → List Waiting → List Waiting
none_under objects waiting = filter (λ w. not (is_under objects w)) waiting

-- Ids are used in order of issue, from 1.
pub record AreNumbered (p : PendingView) : Type 0 where
  pub rising : IsStrictlyIncreasing (map (λ w. w.id) p.waiting)
  pub used : All (λ w. (1 ≤ w.id) × (w.id ≤ p.last)) p.waiting
