-- Worked rows.
use Rattle.std.specs.Prelude.{◌≡◌, ℕ, List, [], ◌∷◌, ◌++◌, codes, refl}
use Rattle.worker_play.specs.Reading.{lines}

abbrev pub lf : List ℕ
lf = 10 ∷ []

-- the last line with its line feed, and without
pub two_lines : lines (codes "ports" ++ lf ++ codes "x" ++ lf) ≡ codes "ports" ∷ codes "x" ∷ []
two_lines = refl

pub two_lines_cut : lines (codes "ports" ++ lf ++ codes "x") ≡ codes "ports" ∷ codes "x" ∷ []
two_lines_cut = refl

pub no_line : lines [] ≡ []
no_line = refl
