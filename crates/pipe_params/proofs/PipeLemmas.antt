-- One more encoding, as a loop makes it.
use Rattle.std.proofs.Common.{◌≡◌, ℕ, ◌+◌, [], ◌∷◌, ◌++◌, map, refl}
use Rattle.std.specs.List.{range_with_len}
use Rattle.std.proofs.lemmas.List.FromFn.{map-range_with_len_more}

pub one_more : {X : Type 0} (f : ℕ → X) (first place : ℕ) → map f (range_with_len first (place + 1)) ≡ map f (range_with_len first place) ++ f (first + place) ∷ []
one_more f first place = map-range_with_len_more f first place (first + place) refl
