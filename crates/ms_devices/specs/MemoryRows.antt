-- Worked rows for the calls that are to fail.
use Rattle.std.specs.Prelude.{◌≡◌, [], ◌∷◌, refl, true, false}
use Rattle.ms_devices.specs.Memory.{next_fails, after_call, failed_calls}

pub the_second_fails : next_fails (after_call (record { fails = 2 ∷ []; made = 0 })) ≡ true
the_second_fails = refl

pub the_first_does_not : next_fails (record { fails = 2 ∷ []; made = 0 }) ≡ false
the_first_does_not = refl

-- a number that stands twice is one fault, and 0 is no call
pub counted_once : failed_calls (3 ∷ 1 ∷ 3 ∷ 0 ∷ 9 ∷ []) 5 ≡ 2
unfolding failed_calls
counted_once = refl
