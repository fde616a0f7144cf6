-- New ids of elements, and which are kept. This project's own.
use Rattle.std.specs.Prelude.{◌≡◌, ℕ, ◌≤◌, Bool, false, if◌then◌else◌, List, length, get_or, Option, Some, None, option_and_then}
use Rattle.std.specs.Option.{ForSome}

-- the new id that stands in a table at an id's place, if one was set there
abbrev pub new_id : List (Option ℕ) → ℕ → Option ℕ
new_id table id = get_or table id None

-- a table: for each of 256 ids a new one, which isn't that of padding and which a byte can hold, or none
pub record IsTable (table : List (Option ℕ)) : Type 0 where
  pub places : length table ≡ 256
  pub ids : (id : ℕ) → ForSome (new_id table id) (λ new. (1 ≤ new) × (new ≤ 255))

-- whether an id is one of a set, which is a table for 256 ids
abbrev pub has_id : List Bool → ℕ → Bool
has_id set id = get_or set id false

abbrev pub if_had : List Bool → ℕ → Option ℕ
if_had set id = if has_id set id then Some id else None

-- the new id of one, where the set has that
abbrev pub kept_id : List (Option ℕ) → List Bool → ℕ → Option ℕ
kept_id table set id = option_and_then (if_had set) (new_id table id)
