-- Looking at the awaits that are to be looked at, one after another. This project's own.
use Rattle.std.specs.Prelude.{◌≡◌, ℕ, List, [], ◌∷◌, ◌++◌, map, Bool, true, false, Option, Some, None, if◌then◌else◌}
use Rattle.std.specs.BTreeMap.{is_at}
use Rattle.std.specs.List.{AllByRecursion}
use Rattle.std.specs.List.Sorted.{IsNonDecreasing}
use Rattle.std.specs.Map.{lookup, remove_entry}
use Rattle.std.specs.Ordering.{nat_cmp}
use Rattle.std.specs.Str.{bytes_eq}
use Rattle.ms_base.specs.declared.keys.CallKey.{CallKey}
use Rattle.ms_base.specs.declared.keys.Event.{Event}
use Rattle.ms_base.specs.declared.outcome.Outcome.{Outcome}
use Rattle.host_awaits.specs.Awaits.{outcome_of}
use Rattle.host_awaits.specs.Keeping.{AreRising, Entries, IsKnown, rests}
use Rattle.host_awaits.specs.Names.{has_number, noted, resting}
use Rattle.host_awaits.specs.declared.entered.Await.{Await}
use Rattle.host_awaits.specs.declared.names.Names.{Names}

abbrev pub Settled : Type 0
Settled = List (CallKey × Outcome)

-- the await of a number
abbrev pub numbered : ℕ → Entries → Option Await
numbered number entries = lookup (is_at (nat_cmp number)) entries

-- what became of the await of a number, of the awaits, of the numbers at rest and of what has settled
pub data Looked (hopeless : List ℕ → Bool) (number : ℕ) (names : Names) (old : Entries) (before : Settled) (after : Names) (new : Entries) (settled : Settled) : Type 0 where
  -- none has this number
  missing : numbered number old ≡ None → ((of : List ℕ) → resting after of ≡ resting names of) → new ≡ old → settled ≡ before → Looked hopeless number names old before after new settled
  -- it goes on waiting, and is at rest
  waits : (a : Await) → numbered number old ≡ Some a → outcome_of (noted names) hopeless a ≡ None
      → ((of : List ℕ) → resting after of ≡ (if bytes_eq a.name of then resting names of ++ number ∷ [] else resting names of)) → new ≡ old → settled ≡ before
      → Looked hopeless number names old before after new settled
  -- it has settled
  settles : (a : Await) (o : Outcome) → numbered number old ≡ Some a → outcome_of (noted names) hopeless a ≡ Some o → ((of : List ℕ) → resting after of ≡ resting names of)
      → new ≡ remove_entry (is_at (nat_cmp number)) old → settled ≡ before ++ (a.key, o) ∷ [] → Looked hopeless number names old before after new settled

-- an await is at rest, or has no outcome
abbrev pub IsAtRest : Names → ℕ × Await → Type 0
IsAtRest names e = rests names e ≡ true

abbrev pub HasNone : (List ℕ → Event → ℕ) → (List ℕ → Bool) → ℕ × Await → Type 0
HasNone times hopeless e = outcome_of times hopeless e.1 ≡ None

-- awaits at rest have no outcome
abbrev pub HaveNoneAtRest : (List ℕ → Event → ℕ) → (List ℕ → Bool) → Names → Entries → Type 0
HaveNoneAtRest times hopeless names entries = AllByRecursion (λ e. IsAtRest names e → HasNone times hopeless e) entries

-- it holds of an await that isn't to be looked at any more
abbrev pub OnceDone : (ℕ × Await → Type 0) → List ℕ → ℕ × Await → Type 0
OnceDone holds left e = has_number left e.0 ≡ false → holds e

-- the awaits without their numbers
abbrev pub awaits_of : Entries → List Await
awaits_of entries = map (λ e. e.1) entries

-- all that aren't at rest are to be looked at, in order
pub record AreReady (names : Names) (entries : Entries) (touched : List ℕ) : Type 0 where
  pub rising : AreRising entries
  pub in_order : IsNonDecreasing touched
  pub known : AllByRecursion (IsKnown names touched) entries
