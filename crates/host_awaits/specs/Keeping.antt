-- How the tables of the awaits stand to what is seen of them. This project's own.
use Rattle.std.specs.Prelude.{◌≡◌, ◌<◌, ℕ, List, [], ◌∷◌, ⊤, map, Bool, true, false, not}
use Rattle.std.specs.List.{AllByRecursion}
use Rattle.std.specs.String.{string_bytes}
use Rattle.host_awaits.specs.Names.{has_number, resting}
use Rattle.host_awaits.specs.Watching.{Watched}
use Rattle.host_awaits.specs.declared.entered.Await.{Await}
use Rattle.host_awaits.specs.declared.names.Names.{Names}
use Rattle.host_awaits.specs.declared.times.Times.{Times}

-- the awaits that wait, under their numbers
abbrev pub Entries : Type 0
Entries = List (ℕ × Await)

-- an await is at rest
abbrev pub rests : Names → ℕ × Await → Bool
rests names e = has_number (resting names e.1.name) e.0

abbrev pub watched : Names → ℕ × Await → Watched
watched names e = record { awaited = e.1; touched = not (rests names e) }

-- how often each event was noted, by names
abbrev pub times_seen : Names → List (List ℕ × Times)
times_seen names = map (λ e. (string_bytes e.0, e.1)) names.times.entries

-- numbers rise in the order of entry
abbrev pub AreRising : Entries → Type 0
AreRising [] = ⊤
AreRising (e ∷ es) = AllByRecursion (λ (f : ℕ × Await). e.0 < f.0) es × AreRising es

-- the numbers are below one
pub record AreBelow (next : ℕ) (entries : Entries) (names : Names) : Type 0 where
  pub entered : AllByRecursion (λ (e : ℕ × Await). e.0 < next) entries
  pub at_rest : (name : List ℕ) → AllByRecursion (λ (n : ℕ). n < next) (resting names name)

-- an await that isn't at rest is to be looked at
abbrev pub IsKnown : Names → List ℕ → ℕ × Await → Type 0
IsKnown names touched e = rests names e ≡ false → has_number touched e.0 ≡ true

pub record AreKept (next : ℕ) (entries : Entries) (names : Names) (touched : List ℕ) : Type 0 where
  pub rising : AreRising entries
  pub below : AreBelow next entries names
  pub known : AllByRecursion (IsKnown names touched) entries
