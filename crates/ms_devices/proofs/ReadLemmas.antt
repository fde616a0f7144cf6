-- What a read of a source in memory gives.
use Rattle.std.proofs.Common.{◌≡◌, ℕ, ◌+◌, ◌-◌, ◌≤◌, List, ◌++◌, length, take, drop, arith, sym}
use Rattle.std.proofs.lemmas.List.{take_at, take_rest, take-append-drop, length-take-le, length-drop, drop-drop}

pub given_and_rest : (xs place copied held : List ℕ) (given n : ℕ) → held ≡ drop given xs → n ≤ length xs - given
    → copied ≡ take n (take (length xs - given) (drop given xs)) → held ≡ take n (copied ++ drop n place) ++ drop (given + n) xs
given_and_rest xs place copied held given n is fits same =
    let long = length-take-le n (drop given xs) (omega (arith, length-drop given xs)) in
    let front : take n (copied ++ drop n place) ≡ take n (drop given xs) =
    rw (same, take_rest xs given) (take_at (take n (drop given xs)) (drop n place) n long) in
    rw (is, front, ← drop-drop n given xs) (sym (take-append-drop n (drop given xs)))
