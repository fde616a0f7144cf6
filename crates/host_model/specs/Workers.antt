-- What holds of the Workers of a host before and after each micro step: each slot has one in the tree, and no link leads to it.
-- This project's own.
use Rattle.std.specs.Prelude.{◌≡◌, ⊤, List, Bool, true, not, ◌&&◌, is_some, None}
use Rattle.std.specs.List.{AllByRecursion, list_any}
use Rattle.ms_base.specs.Kinds.{same_kind}
use Rattle.ms_base.specs.declared.keys.Kind.TheVariants as kind
use Rattle.ms_base.specs.declared.keys.Serial.{Serial}
use Rattle.object_tree.specs.declared.object.Object.{Object}
use Rattle.object_tree.specs.Objects.{has_serial}
use Rattle.host_model.specs.declared.due.Due.{Due}
use Rattle.host_model.specs.declared.due.Due.TheVariants as due
use Rattle.host_model.specs.Fit.{Fits}
use Rattle.host_model.specs.State.{State, Slot, waiting}

-- it is the Worker of this serial, which stands on nothing
abbrev pub is_worker_at : Serial → Object → Bool
is_worker_at serial o = has_serial serial o && same_kind o.kind kind.Worker && not (is_some o.parent)

-- the latest Worker of a slot is in the tree
abbrev pub HasItsWorker : List Object → Slot → Type 0
HasItsWorker objects x = list_any (is_worker_at x.worker) objects ≡ true

abbrev pub IsAlone : Object → Type 0
IsAlone o = o.far ≡ None

-- what a request is to make has no far end
abbrev pub IsAloneDue : Due → Type 0
IsAloneDue (due.Opens object keeps) = IsAlone object
IsAloneDue (due.Turns paused) = ⊤
IsAloneDue due.Nothing = ⊤

pub record HaveWorkers (s : State) : Type 0 where
  pub whole : Fits s.objects (waiting s.requests) s.tables s.next
  pub workers : AllByRecursion (HasItsWorker s.objects) s.slots
  -- a call that links two ends of a pipe is not built yet
  pub alone : AllByRecursion IsAlone s.objects
  pub due : AllByRecursion (λ r. IsAloneDue r.due) (waiting s.requests)
