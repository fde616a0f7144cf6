-- What a reader has left and a writer holds, over several calls.
use Rattle.std.proofs.Common.{◌≡◌, ℕ, ◌+◌, ◌-◌, ◌≤◌, List, ◌++◌, length, take, drop, Option, Some, None, refl, sym, ◌∙◌, ap}
use Rattle.std.proofs.lemmas.List.{append-nil, append_assoc, take_all, take_rest}
use Rattle.std.proofs.Math.Seq.{take-add}
use Rattle.std.specs.Io.KnownBytes.{Keeps, Appends, Consumes}

-- no call
pub keeps_same : (known : Option (List ℕ)) → Keeps known known
keeps_same None = tt
keeps_same (Some xs) = refl

-- a call that kept, before another
pub keeps_then : (first middle last : Option (List ℕ)) → Keeps first middle → Keeps middle last → Keeps first last
keeps_then None middle last p q = tt
keeps_then (Some xs) None last p q = absurd p
keeps_then (Some xs) (Some ys) None p q = absurd q
keeps_then (Some xs) (Some ys) (Some zs) p q = q ∙ p

pub keeps_consumes : (first middle last : Option (List ℕ)) (bytes : List ℕ) → Keeps first middle → Consumes middle last bytes → Consumes first last bytes
keeps_consumes None middle last bytes p q = tt
keeps_consumes (Some xs) None last bytes p q = absurd p
keeps_consumes (Some xs) (Some ys) None bytes p q = absurd q
keeps_consumes (Some xs) (Some ys) (Some zs) bytes p q = sym p ∙ q

pub keeps_appends : (first middle last : Option (List ℕ)) (bytes : List ℕ) → Keeps first middle → Appends middle last bytes → Appends first last bytes
keeps_appends None middle last bytes p q = tt
keeps_appends (Some xs) None last bytes p q = absurd p
keeps_appends (Some xs) (Some ys) None bytes p q = absurd q
keeps_appends (Some xs) (Some ys) (Some zs) bytes p q = q ∙ ap (λ b. b ++ bytes) p

pub appends_keeps : (first middle last : Option (List ℕ)) (bytes : List ℕ) → Appends first middle bytes → Keeps middle last → Appends first last bytes
appends_keeps None middle last bytes p q = tt
appends_keeps (Some xs) None last bytes p q = absurd p
appends_keeps (Some xs) (Some ys) None bytes p q = absurd q
appends_keeps (Some xs) (Some ys) (Some zs) bytes p q = q ∙ p

-- nothing of a piece is written yet
pub appends_none : (known : Option (List ℕ)) (piece : List ℕ) → Appends known known (take 0 piece)
appends_none None piece = tt
appends_none (Some xs) piece = sym (append-nil xs)

appends_join : (first middle last : Option (List ℕ)) (front back : List ℕ) → Appends first middle front → Appends middle last back → Appends first last (front ++ back)
appends_join None middle last front back p q = tt
appends_join (Some xs) None last front back p q = absurd p
appends_join (Some xs) (Some ys) None front back p q = absurd q
appends_join (Some xs) (Some ys) (Some zs) front back p q = q ∙ ap (λ b. b ++ back) p ∙ append_assoc xs front back

-- more of it was written
pub appends_then : (first middle last : Option (List ℕ)) (piece : List ℕ) (written count : ℕ) → Appends first middle (take written piece)
    → Appends middle last (take count (take (length piece - written) (drop written piece))) → Appends first last (take (written + count) piece)
appends_then first middle last piece written count p q =
    let same : take count (take (length piece - written) (drop written piece)) ≡ take count (drop written piece) = ap (take count) (take_rest piece written) in
    let both : take (written + count) piece ≡ take written piece ++ take count (drop written piece) = take-add written count piece in
    rw both (appends_join first middle last _ _ p (rw same at q))

-- all of it
pub appends_all : (first last : Option (List ℕ)) (piece : List ℕ) (written : ℕ) → length piece ≤ written → Appends first last (take written piece) → Appends first last piece
appends_all first last piece written whole p = rw (take_all written piece whole) at p
