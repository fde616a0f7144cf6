-- What is kept of the awaits that wait. This project's own.
use Rattle.std.specs.Prelude.{◌≡◌, ℕ, List, map, Bool, true, false, ◌||◌, Option, Some, None}
use Rattle.std.specs.Map.{lookup}
use Rattle.std.specs.Str.{bytes_eq}
use Rattle.ms_base.specs.declared.keys.Event.{Event}
use Rattle.host_awaits.specs.Awaits.{outcome_of}
use Rattle.host_awaits.specs.Times.{time_of}
use Rattle.host_awaits.specs.declared.entered.Await.{Await}
use Rattle.host_awaits.specs.declared.times.Times.{Times}

-- an await that waits, and whether something of its name has changed since it was last looked at
pub record Watched : Type 0 where
  pub awaited : Await
  pub touched : Bool

-- the awaits that wait, in order of their entry, and how often each event was noted, by names
pub record Watching : Type 0 where
  pub waiting : List Watched
  pub times : List (List ℕ × Times)

abbrev pub times_within : Option Times → Event → ℕ
times_within None wanted = 0
times_within (Some t) wanted = time_of t wanted

-- how often this event was noted for objects of this name
abbrev pub times_in : Watching → List ℕ → Event → ℕ
times_in w name wanted = times_within (lookup (bytes_eq name) w.times) wanted

-- the awaits that wait, alone
abbrev pub awaits_in : Watching → List Await
awaits_in w = map (λ x. x.awaited) w.waiting

-- the same await, where something of the names that a test passes has changed
abbrev pub touched_by : (List ℕ → Bool) → Watched → Watched
touched_by is_of x = record { awaited = x.awaited; touched = x.touched || is_of x.awaited.name }

abbrev pub just_entered : Await → Watched
just_entered a = record { awaited = a; touched = true }

abbrev pub looked_at : Await → Watched
looked_at a = record { awaited = a; touched = false }

-- an await has no outcome, unless something of its name has changed
abbrev pub HasNoneYet : (List ℕ → Event → ℕ) → (List ℕ → Bool) → Watched → Type 0
HasNoneYet times hopeless x = x.touched ≡ false → outcome_of times hopeless x.awaited ≡ None
