use Rattle.std.proofs.Common.{◌≡◌, ℕ, ◌<◌, ◌≤◌, None}
use Rattle.rtp_extension.specs.Ids.{new_id}
use Rattle.producer.specs.Ids.{element_id}
use Rattle.producer.proofs.ids.ids_of.Given as goal

-- those so far have their new ids, and the others none
abbrev pub invariant-loop-id : goal.invariant-loop-id
invariant-loop-id l =
    ((t : ℕ) → t < l.id → new_id l.ids t ≡ element_id l.params l.table t) × ((t : ℕ) → l.id ≤ t → new_id l.ids t ≡ None)
