-- What is kept of each name. This project's own.
use Rattle.std.specs.Prelude.{ℕ, List, [], Bool, nat_eq, Option, Some, None, Vec}
use Rattle.std.specs.BTreeMap.{get_by_text}
use Rattle.std.specs.List.{list_any}
use Rattle.ms_base.specs.declared.keys.Event.{Event}
use Rattle.host_awaits.specs.Times.{time_of}
use Rattle.host_awaits.specs.declared.names.Names.{Names}
use Rattle.host_awaits.specs.declared.times.Times.{Times}

abbrev pub times_of : Option Times → Event → ℕ
times_of None wanted = 0
times_of (Some times) wanted = time_of times wanted

abbrev pub numbers_of : {Y : Type 0} → Option (Vec ℕ Y) → List ℕ
numbers_of None = []
numbers_of (Some numbers) = numbers.items

-- how often this event was noted for objects of this name
abbrev pub noted : Names → List ℕ → Event → ℕ
noted names name wanted = times_of (get_by_text names.times name) wanted

-- the numbers of the awaits at rest under this name
abbrev pub resting : Names → List ℕ → List ℕ
resting names name = numbers_of (get_by_text names.resting name)

abbrev pub has_number : List ℕ → ℕ → Bool
has_number numbers number = list_any (nat_eq number) numbers
