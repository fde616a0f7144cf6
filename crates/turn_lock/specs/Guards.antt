-- What contracts see of a guard.
use Rattle.turn_lock.specs.declared.guard.Guard.{Guard}

-- the value that is out
abbrev pub value_in : {V : Type 0} → Guard V → V
value_in g = g.value

-- the guard of this value
abbrev pub guarding : {V : Type 0} → V → Guard V
guarding v = record { value = v }
