-- How a text is read from a source (this project's own).
use Rattle.std.specs.Prelude.{◌≡◌, ℕ, List, ◌++◌}

-- what the source no longer holds was added to the text
abbrev pub Moves : List ℕ → List ℕ → List ℕ → List ℕ → Type 0
Moves text grown before now = (piece : List ℕ) × (grown ≡ text ++ piece) × (before ≡ piece ++ now)
