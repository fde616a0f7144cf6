use Rattle.std.proofs.Common.{◌≡◌, map, take, length, vec_capacity}
use Rattle.host_tables.specs.LookUps.{shown_of, shown_view}
use Rattle.host_tables.proofs.slots.show_all.Given as goal

-- those so far are shown
abbrev pub invariant-loop-slot : goal.invariant-loop-slot
invariant-loop-slot l = (map shown_view l.shown.items ≡ map shown_of (take l.slot-index l.slots)) × (length l.shown.items ≡ l.slot-index) × (vec_capacity l.shown ≡ vec_capacity l.fn.shown)
