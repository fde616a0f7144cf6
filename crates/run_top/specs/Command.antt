-- The commands of the program, and the words that name them (this project's own).
use Rattle.std.specs.Prelude.{ℕ, List, [], ◌∷◌, codes, if◌then◌else◌, Option, Some, None, bytes_eq}
use Rattle.run_top.specs.declared.command.Command.{Command}
use Rattle.run_top.specs.declared.command.Command.TheVariants.{Replay, Worker}

-- the command that the words behind the program's own name are, if they are one
abbrev pub command_of : List (List ℕ) → Option Command
command_of [] = None
command_of (word ∷ []) = if bytes_eq word (codes "replay") then Some Replay else if bytes_eq word (codes "worker") then Some Worker else None
command_of (word ∷ other ∷ more) = None
