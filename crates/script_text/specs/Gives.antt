-- How what a reader returned stands to what its words are read as (this project's own). Memory may run out at any.
use Rattle.std.specs.Prelude.{◌≡◌, ℕ, ◌==◌, ◌&&◌, ◌||◌, not, nat_le, Bool, List, length, slice_index, Result, Ok, Err, ⊤}
use Rattle.ms_base.specs.declared.code.Code.{Code}
use Rattle.ms_base.specs.declared.code.Code.TheVariants as code
use Rattle.script_text.specs.declared.fault.WordFault.{WordFault}
use Rattle.script_text.specs.declared.fault.WordFault.TheVariants as word
use Rattle.script_text.specs.declared.fault.ScriptFault.{ScriptFault}
use Rattle.script_text.specs.declared.fault.ScriptFault.TheVariants as script
use Rattle.script_text.specs.Words.{BadLine}

-- what was returned for a line or a word
abbrev pub Gives : {A : Type 0} → Result A WordFault → Result A Code → Type 0
Gives (Ok x) reading = reading ≡ Ok x
Gives (Err (word.Bad c)) reading = reading ≡ Err c
Gives (Err word.NoMemory) reading = ⊤

-- the fault that was returned where there are fewer or more words than were wanted
abbrev pub IsCutFault : WordFault → Result (List (List ℕ)) Code → Type 0
IsCutFault wrong found = (wrong ≡ word.Bad code.Words) × (found ≡ Err code.Words)

-- a fault that was returned for a script: it is the first one
abbrev pub Tells : {A : Type 0} → ScriptFault → Result A BadLine → Type 0
Tells (script.BadScript line code) reading = reading ≡ Err (record { line = line; code = code })
Tells script.NoMemory reading = ⊤

-- neither a sign nor a leading zero, other than `0` itself, which `parse` would take
abbrev pub is_plain : List ℕ → Bool
is_plain word = not (slice_index word 0 == 43) && (nat_le (length word) 1 || not (slice_index word 0 == 48))
