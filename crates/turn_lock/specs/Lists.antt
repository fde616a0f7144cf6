-- Lists of entries, and of entries with their places. This project's own.
use Rattle.std.specs.Prelude.{◌≡◌, ℕ, ◌+◌, ◌<◌, ◌≤◌, ◌==◌, if◌then◌else◌, ltb, List, [], ◌∷◌, ◌++◌, length, drop, slice_get, Some, refl}

-- 1 where the numbers are equal, and else 0
abbrev pub same : ℕ → ℕ → ℕ
same p q = if p == q then 1 else 0

-- 1 where p is below n, and else 0
abbrev pub below : ℕ → ℕ → ℕ
below p n = if ltb p n then 1 else 0

module _ {E : Type 0} where
  -- the list begins with these entries
  abbrev pub StartsWith : List E → List E → Type 0
  StartsWith list front = (rest : List E) × (list ≡ front ++ rest)

  -- the entries with their places, from this place on
  abbrev pub numbered : ℕ → List E → List (ℕ × E)
  numbered place [] = []
  numbered place (e ∷ es) = (place, e) ∷ numbered (place + 1) es

  -- how often a place stands among them
  abbrev pub times : ℕ → List (ℕ × E) → ℕ
  times place [] = 0
  times place (o ∷ own) = same place o.0 + times place own

  -- each stands at its place in the list
  abbrev pub Stand : List E → List (ℕ × E) → Type 0
  Stand list [] = Unit {0}
  Stand list (o ∷ own) = (slice_get list o.0 ≡ Some o.1) × Stand list own

  -- the places of all of them are below n
  abbrev pub AllBelow : ℕ → List (ℕ × E) → Type 0
  AllBelow n [] = Unit {0}
  AllBelow n (o ∷ own) = (o.0 < n) × AllBelow n own

  -- the longer of two lists, and the first where they are as long
  abbrev pub longer : List E → List E → List E
  longer xs ys = if ltb (length xs) (length ys) then ys else xs

  -- the other one
  abbrev pub shorter : List E → List E → List E
  shorter xs ys = if ltb (length xs) (length ys) then xs else ys

  -- the list goes on with at most one entry
  abbrev pub MayAddOne : List E → List E → Type 0
  MayAddOne list after = (more : List E) × (after ≡ list ++ more) × (length more ≤ 1)

  -- the entries that stand behind the list, with their places
  abbrev pub added : List E → List E → List (ℕ × E)
  added list after = numbered (length list) (drop (length list) after)

  -- each place of the list is among them once, with its entry, and no other place is
  abbrev pub EachOnce : List E → List (ℕ × E) → Type 0
  EachOnce list own = Stand list own × ((place : ℕ) → times place own ≡ below place (length list))

-- Worked rows: the entries 7 and 8 behind three others, and two lists that begin one another.
first_place : slice_get (numbered {E = ℕ} 3 (7 ∷ 8 ∷ [])) 0 ≡ Some (3, 7)
first_place = refl

added_place : slice_get (added {E = ℕ} (5 ∷ 6 ∷ []) (5 ∷ 6 ∷ 9 ∷ [])) 0 ≡ Some (2, 9)
added_place = refl

times_there : times {E = ℕ} 4 (numbered {E = ℕ} 3 (7 ∷ 8 ∷ [])) ≡ 1
times_there = refl

times_past : times {E = ℕ} 5 (numbered {E = ℕ} 3 (7 ∷ 8 ∷ [])) ≡ 0
times_past = refl

longer_one : longer {E = ℕ} (7 ∷ []) (7 ∷ 8 ∷ []) ≡ 7 ∷ 8 ∷ []
longer_one = refl

none_below : below 3 3 ≡ 0
none_below = refl
