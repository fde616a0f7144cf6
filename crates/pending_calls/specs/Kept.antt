-- How the code keeps the requests of a channel: by their ids, and their ids by the objects. This project's own.
use Rattle.std.specs.Prelude.{ℕ, ◌≡◌, ◌≤◌, List, Bool, true, not, filter, Option, Some, None, IfSome, if◌then◌else◌}
use Rattle.std.specs.BTreeMap.{BTreeMap, get}
use Rattle.std.specs.BTreeSet.{BTreeSet, contains}
use Rattle.std.specs.List.{AllByRecursion, list_any}
use Rattle.std.specs.List.Sorted.{IsStrictlySortedBy}
use Rattle.std.specs.Map.{keys_of}
use Rattle.std.specs.Ordering.{nat_cmp, ordering_then}
use Rattle.pending_calls.specs.declared.waiting.Waiting.{Waiting}
use Rattle.pending_calls.specs.Pending.{has_id}

-- a request stands at its id, which was used
abbrev pub IsKeptAt : ℕ → ℕ × Waiting → Type 0
IsKeptAt last e = (e.0 ≡ e.1.id) × (1 ≤ e.0) × (e.0 ≤ last)

-- the requests stand at their ids, which rise and were used
pub record AreKept (entries : List (ℕ × Waiting)) (last : ℕ) : Type 0 where
  pub each : AllByRecursion (IsKeptAt last) entries
  pub rising : IsStrictlySortedBy nat_cmp (keys_of entries)

-- ---- ids by the objects

-- whether an id is listed under the object of a serial
abbrev pub is_listed : BTreeSet (ℕ × ℕ) → ℕ → ℕ → Bool
is_listed listed serial id = contains (λ a b. ordering_then (nat_cmp a.0 b.0) (nat_cmp a.1 b.1)) listed (serial, id)

-- each request is listed under its object. More may be listed than there is
abbrev pub AreListed : BTreeMap ℕ Waiting → BTreeSet (ℕ × ℕ) → Type 0
AreListed waiting listed = (id : ℕ) → IfSome (get nat_cmp waiting id) (λ w. is_listed listed w.under.0 id ≡ true)

pub record AreFound (waiting : BTreeMap ℕ Waiting) (listed : BTreeSet (ℕ × ℕ)) (last : ℕ) : Type 0 where
  pub by_id : AreKept waiting.entries last
  pub by_object : AreListed waiting listed

-- ---- requests that are taken out

-- what one look-up gives, where it passes a test, and else what another one does
abbrev pub passing_or : (Waiting → Bool) → Option Waiting → Option Waiting → Option Waiting
passing_or test None other = other
passing_or test (Some w) other = if test w then Some w else other

-- all but the requests of some requests' ids
abbrev pub without_each : List Waiting → List Waiting → List Waiting
without_each settled waiting = filter (λ w. not (list_any (λ s. has_id s.id w) settled)) waiting
