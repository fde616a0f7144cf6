-- What stands behind a place in a list of bytes. This project's own.
use Rattle.std.specs.Prelude.{ℕ, zero, suc, Option, Some, None, List, [], ◌∷◌, ◌≡◌, refl}

-- what is behind so many bytes; None where there are fewer
abbrev pub behind : ℕ → List ℕ → Option (List ℕ)
behind zero bytes = Some bytes
behind (suc count) [] = None
behind (suc count) (_ ∷ rest) = behind count rest

-- ---- worked rows

behind_two : behind 2 (7 ∷ 8 ∷ 9 ∷ []) ≡ Some (9 ∷ [])
behind_two = refl

behind_all : behind 2 (7 ∷ 8 ∷ []) ≡ Some []
behind_all = refl

behind_more : behind 3 (7 ∷ 8 ∷ []) ≡ None
behind_more = refl
