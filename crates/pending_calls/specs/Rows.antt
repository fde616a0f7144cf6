-- Worked rows of the definitions, which compute.
use Rattle.std.specs.Prelude.{ℕ, ◌≡◌, List, [], ◌∷◌, Some, None, refl}
use Rattle.ms_base.specs.declared.keys.Serial.{Serial}
use Rattle.pending_calls.specs.declared.waiting.Owner.TheVariants as owner
use Rattle.pending_calls.specs.declared.waiting.Waiting.{Waiting}
use Rattle.pending_calls.specs.Pending.{waiting_as, without, all_under, none_under}

abbrev object : ℕ → Serial
object n = record { 0 = n }

abbrev request : ℕ → ℕ → Waiting
request id under = record { id = id; owner = owner.Close; under = object under }

abbrev three : List Waiting
three = request 3 5 ∷ request 4 7 ∷ request 6 5 ∷ []

-- the one of that id, not the oldest
pub found-row : waiting_as three 4 ≡ Some (request 4 7)
found-row = refl

-- 5 has settled before
pub settled-row : waiting_as three 5 ≡ None
settled-row = refl

pub left-row : without 4 three ≡ request 3 5 ∷ request 6 5 ∷ []
left-row = refl

-- an object falls with its own requests
pub fallen-row : all_under (object 5 ∷ object 9 ∷ []) three ≡ request 3 5 ∷ request 6 5 ∷ []
fallen-row = refl

pub stays-row : none_under (object 5 ∷ object 9 ∷ []) three ≡ request 4 7 ∷ []
stays-row = refl
