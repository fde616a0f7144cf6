-- Why a journal was not applied whole (this project's own).
use Rattle.std.specs.Prelude.{◌≡◌, ℕ, Option, Some, ⊤}
use Rattle.run_top.specs.declared.apply.StopFault.{StopFault}
use Rattle.run_top.specs.declared.apply.StopFault.TheVariants as stop
use Rattle.journal_text.specs.Gives.{told_line}

-- the first entry that is not built is told by its line; memory may run out anywhere
abbrev pub IsStopped : Option ℕ → StopFault → Type 0
IsStopped first (stop.Unbuilt line) = (n : ℕ) × (first ≡ Some n) × (line ≡ told_line n)
IsStopped first stop.NoMemory = ⊤
