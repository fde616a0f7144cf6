-- Kinds of objects, told apart by a number of each (this project's own).
use Rattle.std.specs.Prelude.{ℕ, ◌==◌, Bool}
use Rattle.ms_base.specs.declared.keys.Kind.{Kind}
use Rattle.ms_base.specs.declared.keys.Kind.TheVariants as kind

abbrev pub kind_number : Kind → ℕ
kind_number kind.Worker = 0
kind_number kind.Router = 1
kind_number kind.Plain = 2
kind_number kind.Pipe = 3
kind_number kind.Direct = 4
kind_number kind.Producer = 5
kind_number kind.Consumer = 6

abbrev pub same_kind : Kind → Kind → Bool
same_kind a b = kind_number a == kind_number b
