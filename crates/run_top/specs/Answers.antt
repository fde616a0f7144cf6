-- What a refused text is told as (this project's own).
use Rattle.std.specs.Prelude.{◌≡◌, Option, Some, ⊤}
use Rattle.journal_text.specs.Gives.{told_line}
use Rattle.journal_text.specs.Reading.{BadLine}
use Rattle.run_top.specs.declared.replay.TextFault.{TextFault}
use Rattle.run_top.specs.declared.replay.TextFault.TheVariants as text_fault

-- the text is bad there; memory may run out at any text
abbrev pub IsRefusedAs : Option BadLine → TextFault → Type 0
IsRefusedAs first (text_fault.Bad line code) = (bad : BadLine) × (first ≡ Some bad) × (line ≡ told_line bad.line) × (code ≡ bad.code)
IsRefusedAs first text_fault.NoMemory = ⊤
