-- How the fault that was returned stands to what a text is read as (this project's own). Memory may run out at any text.
use Rattle.std.specs.Prelude.{◌≡◌, ℕ, ◌-◌, ◌^◌, min, Result, Err, ⊤}
use Rattle.journal_text.specs.declared.fault.JournalFault.{JournalFault}
use Rattle.journal_text.specs.declared.fault.JournalFault.TheVariants as journal
use Rattle.journal_text.specs.Reading.{BadLine}

-- the number of a line as it is told: at most 2^32 - 1
abbrev pub told_line : ℕ → ℕ
told_line n = min n (2 ^ 32 - 1)

-- a fault that was returned for a text: it is the text's first one
abbrev pub Tells : {A : Type 0} → JournalFault → Result A BadLine → Type 0
Tells (journal.BadJournal line code) reading =
    (bad : BadLine) × (reading ≡ Err bad) × (line ≡ told_line bad.line) × (code ≡ bad.code)
Tells journal.NoMemory reading = ⊤
