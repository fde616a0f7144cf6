-- What contracts see of a pass. This project's own.
use Rattle.std.specs.Prelude.{◌≡◌, ℕ, List, [], ◌∷◌, None}
use Rattle.atomic_table.specs.Seated.{TableId}
use Rattle.turn_lock.specs.declared.rule.Stage.TheVariants.{Idle, Serves}
use Rattle.turn_lock.specs.declared.book.Book.{Ghosts}
use Rattle.turn_lock.specs.declared.pass.Pass.{Pass}
use Rattle.turn_lock.specs.declared.lock.TurnLock.{TurnLock}
use Rattle.turn_lock.specs.declared.lock.CloseFault.{CloseFault}
use Rattle.turn_lock.specs.declared.lock.CloseFault.TheVariants.{NoMemory}

-- which lock it is
abbrev pub name_of : {V E : Type 0} → TurnLock V E → TableId
name_of l = l.table.shared.table_id

module _ {V E : Type 0} {g : Ghosts V E} where
  -- its parts of the 1,000,000
  abbrev pub parts : Pass V E g → ℕ
  parts p = p.seat.me.0.parts

  -- the start of the lock's value
  abbrev pub start : Pass V E g → ℕ
  start p = p.seat.me.0.start

  -- the entries that it has seen, which begin the one journal
  abbrev pub seen : Pass V E g → List E
  seen p = p.seat.me.0.seen

  -- the entries that it made or took in, each with its place in the journal
  abbrev pub own : Pass V E g → List (ℕ × E)
  own p = p.seat.me.0.own

  -- which lock it belongs to
  abbrev pub lock_of : Pass V E g → TableId
  lock_of p = p.seat.table_id

  -- the pass belongs to the lock
  abbrev pub IsOf : TurnLock V E → Pass V E g → Type 0
  IsOf l p = lock_of p ≡ name_of l

  -- it isn't between an `enter` and its `leave`
  abbrev pub IsIdle : Pass V E g → Type 0
  IsIdle p = (p.seat.me.0.stage ≡ Idle) × (p.seat.me.1 ≡ [])

  -- it is between an `enter` and its `leave`
  abbrev pub HasTurn : Pass V E g → Type 0
  HasTurn p = ((t : ℕ) × (p.seat.me.0.stage ≡ Serves t)) × (p.seat.me.1 ≡ (0, None) ∷ [])

  -- the lock and the pass came back
  abbrev pub GivesBack : TurnLock V E → Pass V E g → CloseFault V E g → Type 0
  GivesBack l p (NoMemory l' p') = (l' ≡ l) × (p' ≡ p)
