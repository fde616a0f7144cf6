-- What each step on the words of a turn lock tells the pass that takes it.
use Rattle.std.specs.Prelude.{◌≡◌, ◌≢◌, ℕ, ◌+◌, ◌-◌, ◌%◌, ◌^◌, List, [], ◌∷◌, ◌++◌, length, Some, Option as Maybe}
use Rattle.atomic_table.specs.Table.{Me, Step}
use Rattle.turn_lock.specs.declared.rule.Stage.{Stage}
use Rattle.turn_lock.specs.declared.rule.Stage.TheVariants.{Idle, Waits, Serves}
use Rattle.turn_lock.specs.declared.rule.View.{View}
use Rattle.turn_lock.specs.Lists.{StartsWith, Stand, AllBelow, longer, shorter, added}

module _ {E : Type 0} where
  abbrev pub at_stage : Stage → View E → View E
  at_stage stage v = record { start = v.start; parts = v.parts; seen = v.seen; told = v.told; own = v.own; stage = stage }

  abbrev pub in_turn : List E → ℕ → View E → View E
  in_turn journal t v = record { start = v.start; parts = v.parts; seen = journal; told = v.told; own = v.own; stage = Serves t }

  abbrev pub with_journal : List E → View E → View E
  with_journal journal v = record { start = v.start; parts = v.parts; seen = journal; told = v.told; own = v.own ++ added v.seen journal; stage = v.stage }

  abbrev pub without_part : View E → View E
  without_part v = record { start = v.start; parts = v.parts - 1; seen = v.seen; told = v.told; own = v.own; stage = v.stage }

  abbrev pub one_part : View E → View E
  one_part v = record { start = v.start; parts = 1; seen = v.seen; told = []; own = []; stage = Idle }

  abbrev pub joined : View E → View E → View E
  joined v w = record { start = v.start; parts = v.parts + w.parts; seen = longer v.seen w.seen; told = shorter v.seen w.seen; own = v.own ++ w.own; stage = v.stage }

  abbrev pub spent : View E
  spent = record { start = 0; parts = 0; seen = []; told = []; own = []; stage = Idle }

abbrev pub Mine : Type 0 → Type 0 → Type 0
Mine V E = Me (Maybe V) (View E)

module _ {V E : Type 0} where
  -- it has a ticket, whose low 64 bits are the number found
  abbrev pub drew : Step (Maybe V) → Mine V E → ℕ → Mine V E → Type 0
  drew st m found m' = (m'.1 ≡ m.1) × ((t : ℕ) × (t % 2 ^ 64 ≡ found) × (m'.0 ≡ at_stage (Waits t) m.0))

  -- it has its turn with this ticket, and the value in hand, whose journal it has seen
  abbrev pub Taken : (V → List E) → (V → ℕ) → ℕ → Mine V E → Mine V E → Type 0
  Taken journal start_of t m m' =
      (value : V) × (m'.1 ≡ (0, Some value) ∷ m.1) × (m'.0 ≡ in_turn (journal value) t m.0)
      × StartsWith (journal value) m.0.seen × (start_of value ≡ m.0.start) × Stand m.0.seen m.0.own × Stand (journal value) m.0.own

  -- Where its ticket is the number found, it has its turn, and else nothing changed. Without a ticket it recalls what it was told.
  abbrev pub looked : (V → List E) → (V → ℕ) → Step (Maybe V) → Mine V E → ℕ → Mine V E → Type 0
  looked journal start_of st m found m' =
      ((t : ℕ) → m.0.stage ≡ Waits t → (t % 2 ^ 64 ≡ found → Taken journal start_of t m m') × (t % 2 ^ 64 ≢ found → m' ≡ m))
      × (m.0.stage ≡ Idle → (m' ≡ m) × StartsWith m.0.seen m.0.told × Stand m.0.seen m.0.own)

  -- it has seen the journal of the value in hand, and the entry behind what it had seen is its own
  abbrev pub counted : (V → List E) → Step (Maybe V) → Mine V E → ℕ → Mine V E → Type 0
  counted journal st m found m' = (value : V) → m.1 ≡ (0, Some value) ∷ []
      → (m'.1 ≡ m.1) × (m'.0 ≡ with_journal (journal value) m.0) × Stand m'.0.seen m'.0.own × AllBelow (length m.0.seen) m.0.own

  -- it has no ticket, and the slot is home again
  abbrev pub served : Step (Maybe V) → Mine V E → ℕ → Mine V E → Type 0
  served st m found m' = (m'.1 ≡ []) × (m'.0 ≡ at_stage Idle m.0)
