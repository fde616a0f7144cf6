-- Buffers that are handed on from the front.
use Rattle.std.proofs.Common.{◌≡◌, ℕ, ◌+◌, ◌-◌, ◌≤◌, List, ◌++◌, length, take, drop, min, sym, ◌∙◌, ap, arith}
use Rattle.std.proofs.lemmas.List.{take-append-drop, take_all, take-append-le, drop-drop, drop-take, length-take-le, length-drop, take_min}

-- so many bytes from the front of what lies between two places, and what is left of it
pub front_and_rest : (xs : List ℕ) (given filled len : ℕ) → given + len ≤ filled
    → take (filled - given) (drop given xs) ≡ take len (take (filled - given) (drop given xs)) ++ take (filled - (given + len)) (drop (given + len) xs)
front_and_rest xs given filled len fits =
    let held = take (filled - given) (drop given xs) in
    let size : filled - given ≡ len + (filled - (given + len)) = omega arith in
    let rest : drop len held ≡ take (filled - (given + len)) (drop (given + len) xs) =
    ap (λ n. drop len (take n (drop given xs))) size
    ∙ drop-take len (filled - (given + len)) (drop given xs)
    ∙ ap (take (filled - (given + len))) (drop-drop len given xs) in
    sym (take-append-drop len held) ∙ ap (λ b. take len held ++ b) rest

-- bytes put before others are the front
pub put_in_front : (front behind : List ℕ) (len : ℕ) → length front ≡ len → take len (front ++ behind) ≡ front
put_in_front front behind len size =
    take-append-le len front behind (omega (arith, size)) ∙ take_all len front (omega (arith, size))

-- both, where no more is put in front than there was between the places
pub front_taken : (xs front behind : List ℕ) (given filled most len : ℕ) → given ≤ filled → filled ≤ length xs
    → len ≡ min (length (take (filled - given) (drop given xs))) most → front ≡ take len (take (filled - given) (drop given xs))
    → take (filled - given) (drop given xs) ≡ take len (front ++ behind) ++ take (filled - (given + len)) (drop (given + len) xs)
front_taken xs front behind given filled most len order room least is =
    let held = take (filled - given) (drop given xs) in
    let size : length held ≡ filled - given = length-take-le (filled - given) (drop given xs) (omega (arith, room, length-drop given xs)) in
    let fits : len ≤ length held = omega (arith, least) in
    let whole : length front ≡ len = ap length is ∙ length-take-le len held fits in
    front_and_rest xs given filled len (omega (arith, order, size, fits))
    ∙ ap (λ b. b ++ take (filled - (given + len)) (drop (given + len) xs)) (sym is ∙ sym (put_in_front front behind len whole))

-- bytes put before others, at most so many of them
pub put_cut : (part front behind : List ℕ) (most len : ℕ) → len ≡ min (length part) most → front ≡ take len part → take len (front ++ behind) ≡ take most part
put_cut part front behind most len least is =
    let whole : length front ≡ len = ap length is ∙ length-take-le len part (omega (arith, least)) in
    let size : len ≡ min most (length part) = omega (arith, least) in
    put_in_front front behind len whole ∙ is ∙ ap (λ n. take n part) size ∙ take_min most part
