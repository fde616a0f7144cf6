-- How numbers of any length are compared by their digits: what stands behind the leading zeros decides.
use Rattle.std.specs.Prelude.{ℕ, ◌==◌, List, [], ◌∷◌, if◌then◌else◌}

abbrev pub without_zeros : List ℕ → List ℕ
without_zeros [] = []
without_zeros (c ∷ cs) = if c == 48 then without_zeros cs else c ∷ cs
