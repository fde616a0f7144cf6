-- What the parts of the code's tables tell. This project's own.
use Rattle.std.specs.Prelude.{◌≡◌, ◌≤◌, ℕ, List, length, map, Bool, true, Vec, vec_capacity, unwrap_or}
use Rattle.std.specs.Ordering.{nat_cmp}
use Rattle.std.specs.BTreeMap.{get}
use Rattle.ms_base.specs.declared.keys.WorkerKey.{WorkerKey}
use Rattle.host_model.specs.State.{Slot, Phase, Wanted, Up, Over}
use Rattle.host_tables.specs.declared.calls.Calls.{Calls}
use Rattle.host_tables.specs.declared.slots.Shown.{Shown}
use Rattle.host_tables.specs.declared.slots.Phase.{Phase as CodePhase}
use Rattle.host_tables.specs.declared.slots.Phase.TheVariants as code_phase

-- how many calls and awaits a lane has made
abbrev pub counted : Calls → ℕ → ℕ
counted c lane = unwrap_or (get nat_cmp c.counts lane) 0

-- ---- slots

abbrev pub phase_of : CodePhase → Phase
phase_of code_phase.Wanted = Wanted
phase_of code_phase.Up = Up
phase_of (code_phase.Over died) = Over died

abbrev pub shown_of : Slot → WorkerKey × Phase
shown_of x = (x.key, x.phase)

abbrev pub shown_view : Shown → WorkerKey × Phase
shown_view x = (x.key, phase_of x.phase)

pub record SlotsView : Type 0 where
  pub slots : List Slot
  pub shown : List (WorkerKey × Phase)

-- no more are shown than there are, and there is room to show them all
pub record MayShow {Y : Type 0} (slots : List Slot) (shown : Vec Shown Y) (fresh : Bool) : Type 0 where
  pub fewer : length shown.items ≤ length slots
  pub room : length slots ≤ vec_capacity shown
  pub same : fresh ≡ true → map shown_view shown.items ≡ map shown_of slots
