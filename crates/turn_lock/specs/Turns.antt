-- The rule of a turn lock, which every step keeps. This project's own.
-- The words are the next ticket, the ticket that is served, and the number of entries; the first two are kept modulo 2^64.
-- The one slot holds the value while nobody has its turn.
use Rattle.std.specs.Prelude.{◌≡◌, ℕ, ◌+◌, ◌%◌, ◌^◌, ◌<◌, ◌⊎◌, List, [], ◌∷◌, length, Some, Option as Maybe}
use mathlib.Core.Option.{none, some}
use lib.ListN.{get_elem?}
use Rattle.atomic_table.specs.Table.{State}
use Rattle.turn_lock.specs.declared.rule.Stage.{Stage}
use Rattle.turn_lock.specs.declared.rule.Stage.TheVariants.{Idle, Waits, Serves}
use Rattle.turn_lock.specs.declared.rule.View.{View}
use Rattle.turn_lock.specs.Lists.{same, below, StartsWith, numbered, times, Stand}

-- 1 where the pass has a ticket
abbrev pub queued : Stage → ℕ
queued Idle = 0
queued (Waits t) = 1
queued (Serves t) = 1

-- 1 where the pass has this ticket
abbrev pub holds_ticket : ℕ → Stage → ℕ
holds_ticket t Idle = 0
holds_ticket t (Waits u) = same t u
holds_ticket t (Serves u) = same t u

-- 1 where the pass has its turn
abbrev pub serves : Stage → ℕ
serves Idle = 0
serves (Waits t) = 0
serves (Serves t) = 1

module _ {E : Type 0} where
  -- f of each view, added up
  abbrev pub total : (View E → ℕ) → List (View E) → ℕ
  total f [] = 0
  total f (v ∷ vs) = f v + total f vs

  -- the first pass has all parts, has seen all entries, and all are its own
  abbrev pub opened : List E → ℕ → View E
  opened log first = record { start = first; parts = 1000000; seen = log; told = []; own = numbered 0 log; stage = Idle }

  -- What holds of each view. One with no part is spent: it has no ticket, and has seen and owns nothing.
  pub record Fits (log : List E) (first served : ℕ) (v : View E) : Type 0 where
    pub seen : StartsWith log v.seen
    pub told : StartsWith v.seen v.told
    pub start : 0 < v.parts → v.start ≡ first
    pub own : Stand v.seen v.own
    pub spent : v.parts ≡ 0 → (v.stage ≡ Idle) × (v.own ≡ []) × (v.seen ≡ [])
    pub turn : (t : ℕ) → v.stage ≡ Serves t → (t ≡ served) × (v.seen ≡ log)

  -- some pass has seen all of the journal
  abbrev pub SeenBySome : List E → List (View E) → Type 0
  SeenBySome log views = (id : ℕ) × (v : View E) × (get_elem? views id ≡ some v) × (v.seen ≡ log)

-- nobody has its turn, and the slot holds the value
pub record AtHome {V E : Type 0} (journal_of : V → List E) (start_of : V → ℕ) (first : ℕ) (log : List E) (s : State (Maybe V) (View E)) : Type 0 where
  pub value : V
  pub home : s.homes ≡ some (Some value) ∷ []
  pub journal : journal_of value ≡ log
  pub start : start_of value ≡ first
  pub turns : total (λ v. serves v.stage) s.views ≡ 0

-- one has its turn, and the slot with it
pub record TakenOut {V E : Type 0} (s : State (Maybe V) (View E)) : Type 0 where
  pub home : s.homes ≡ none ∷ []
  pub turns : total (λ v. serves v.stage) s.views ≡ 1

pub record Kept {V E : Type 0} (journal_of : V → List E) (start_of : V → ℕ) (first : ℕ) (s : State (Maybe V) (View E)) : Type 0 where
  -- the one journal, and how many tickets were ever drawn and served
  pub log : List E
  pub drawn : ℕ
  pub served : ℕ
  pub words : s.words ≡ drawn % 2 ^ 64 ∷ served % 2 ^ 64 ∷ length log ∷ []
  -- the tickets out are the numbers from the one that is served on, each held by one pass
  pub line : drawn ≡ served + total (λ v. queued v.stage) s.views
  pub tickets : (t : ℕ) → total (λ v. holds_ticket t v.stage) s.views + below t served ≡ below t drawn
  pub parts : total (λ v. v.parts) s.views ≡ 1000000
  -- each place of the journal is one pass's own
  pub places : (p : ℕ) → total (λ v. times p v.own) s.views ≡ below p (length log)
  pub each : (id : ℕ) (v : View E) → get_elem? s.views id ≡ some v → Fits log first served v
  pub top : SeenBySome log s.views
  pub slot : AtHome journal_of start_of first log s ⊎ TakenOut s
