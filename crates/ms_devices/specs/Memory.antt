-- The objects in memory, as contracts see them (this project's own).
use Rattle.std.specs.Prelude.{ℕ, zero, suc, ◌+◌, ◌-◌, ◌^◌, ◌==◌, min, Bool, if◌then◌else◌, List, Option}
use Rattle.std.specs.List.{list_any}

-- the calls of an object: how many it has had, and the numbers of those that are to fail, from 1
pub record Calls : Type 0 where
  pub fails : List ℕ
  pub made : ℕ

-- whether the call of this number is to fail
abbrev pub is_to_fail : List ℕ → ℕ → Bool
is_to_fail fails number = list_any (λ f. f == number) fails

-- whether the next call is to fail
abbrev pub next_fails : Calls → Bool
next_fails calls = is_to_fail calls.fails (calls.made + 1)

-- one call later; the number of calls stands still at the end of a 64-bit type
abbrev pub after_call : Calls → Calls
after_call calls = record { fails = calls.fails; made = min (calls.made + 1) (2 ^ 64 - 1) }

-- how many of the first n calls were to fail
unfoldable pub failed_calls : List ℕ → ℕ → ℕ
failed_calls fails zero = 0
failed_calls fails (suc n) = failed_calls fails n + (if is_to_fail fails (suc n) then 1 else 0)

-- an object's count of faults
abbrev pub fault_count : Calls → ℕ
fault_count calls = failed_calls calls.fails calls.made

-- a source: the bytes that it holds still
pub record SourceState : Type 0 where
  pub held : List ℕ
  pub calls : Calls

-- a sink: the bytes that it got, or `None` once it had no memory to keep them
pub record SinkState : Type 0 where
  pub got : Option (List ℕ)
  pub calls : Calls
