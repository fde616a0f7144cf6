-- What an outside object tells of what passed through it (this project's own): `Some` value, or
-- `None` where it doesn't tell. A real adapter tells nothing; an object in memory tells all, until it
-- finds no memory to keep it.
use Rattle.std.specs.Prelude.{◌≡◌, ℕ, List, [], ◌∷◌, ◌++◌, take, Option, Some, None, ⊤, Vec}

-- The relation holds between what was told before and what is told now. An object may stop telling,
-- and then tells no more.
abbrev pub Tells : {A : Type 0} → (A → A → Type 0) → Option A → Option A → Type 0
Tells relation None None = ⊤
Tells relation None (Some now) = ⊥
Tells relation (Some before) None = ⊤
Tells relation (Some before) (Some now) = relation before now

-- a prefix of the piece is added at the end
abbrev pub AddsPrefix : List ℕ → List ℕ → List ℕ → Type 0
AddsPrefix piece before now = (k : ℕ) × (now ≡ before ++ take k piece)

-- one more stands at the end
abbrev pub AddsOne : {A : Type 0} → A → List A → List A → Type 0
AddsOne one before now = now ≡ before ++ one ∷ []

-- what is told where it is kept in a vector
abbrev pub list_told : {A Z : Type 0} → Option (Vec A Z) → Option (List A)
list_told None = None
list_told (Some calls) = Some calls.items
