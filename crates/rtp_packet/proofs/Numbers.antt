-- Numbers of two and four bytes, written and read.
use Rattle.std.proofs.Common.{◌≡◌, ℕ, zero, suc, ◌+◌, ◌*◌, ◌^◌, ◌<◌, ◌≤◌, List, [], ◌∷◌, ◌++◌, length, take, drop, refl, sym, ap, ◌∙◌, arith}
use Rattle.std.specs.Int.{w16, from_be_bytes}
use Rattle.std.specs.List.{AllByRecursion}
use Rattle.std.proofs.lemmas.List.{length-take, length-drop, get_or-drop, append_assoc, drop-drop, take-append-drop}
use Rattle.std.proofs.lemmas.Nat.{be_bytes_2, be_bytes_4, from_be_bytes-to_be_bytes_2, from_be_bytes-to_be_bytes_4}
use Rattle.byteorder.specs.Endian.{big_bytes, big_number}
use Rattle.rtp_packet.specs.Packet.{AreBytes, csrc_list}
use Rattle.rtp_packet.specs.Reading.{words_of}

-- ---- what is written is read again, whatever follows

pub again_2 : (n : ℕ) (rest : List ℕ) → n < 2 ^ 16 → big_number 2 (big_bytes 2 n ++ rest) ≡ n
again_2 n rest lt = omega (arith, from_be_bytes-to_be_bytes_2 n lt)

pub again_4 : (n : ℕ) (rest : List ℕ) → n < 2 ^ 32 → big_number 4 (big_bytes 4 n ++ rest) ≡ n
again_4 n rest lt = omega (arith, from_be_bytes-to_be_bytes_4 n lt)

-- ---- what is read is what was written

pub AreBytes-take : (n : ℕ) (bytes : List ℕ) → AreBytes bytes → AreBytes (take n bytes)
AreBytes-take zero bytes h i = omega arith
AreBytes-take (suc n) [] h i = omega arith
AreBytes-take (suc n) (x ∷ xs) h zero = h 0
AreBytes-take (suc n) (x ∷ xs) h (suc i) = AreBytes-take n xs (λ j. h (suc j)) i

pub AreBytes-drop : (n : ℕ) (bytes : List ℕ) → AreBytes bytes → AreBytes (drop n bytes)
AreBytes-drop n bytes h i = rw get_or-drop (h (n + i))

pub back_2 : (bytes : List ℕ) → 2 ≤ length bytes → AreBytes bytes → big_bytes 2 (big_number 2 bytes) ≡ take 2 bytes
back_2 bytes long fits =
    be_bytes_2 (take 2 bytes) (big_number 2 bytes) (omega (arith, length-take 2 bytes)) (AreBytes-take 2 bytes fits) (number_2 bytes)
  where
    number_2 : (bytes : List ℕ) → big_number 2 bytes ≡ from_be_bytes w16 (take 2 bytes)
    number_2 [] = omega arith
    number_2 (x ∷ []) = omega arith
    number_2 (x ∷ y ∷ bytes) = omega arith

pub back_4 : (bytes : List ℕ) → 4 ≤ length bytes → AreBytes bytes → big_bytes 4 (big_number 4 bytes) ≡ take 4 bytes
back_4 [] long fits = absurd (omega arith)
back_4 (a ∷ []) long fits = absurd (omega arith)
back_4 (a ∷ b ∷ []) long fits = absurd (omega arith)
back_4 (a ∷ b ∷ c ∷ []) long fits = absurd (omega arith)
back_4 (a ∷ b ∷ c ∷ d ∷ bytes) long fits =
    be_bytes_4 (a ∷ b ∷ c ∷ d ∷ []) _ refl (AreBytes-take 4 (a ∷ b ∷ c ∷ d ∷ bytes) fits) (omega arith)

-- ---- the CSRCs

pub length-csrc_list : (csrcs : List ℕ) → length (csrc_list csrcs) ≡ 4 * length csrcs
length-csrc_list [] = refl
length-csrc_list (csrc ∷ csrcs) = omega (arith, length-csrc_list csrcs)

pub length-words_of : (count : ℕ) (bytes : List ℕ) → length (words_of count bytes) ≡ count
length-words_of zero bytes = refl
length-words_of (suc count) bytes = ap suc (length-words_of count (drop 4 bytes))

pub words_again : (csrcs rest : List ℕ) → AllByRecursion (λ csrc. csrc < 2 ^ 32) csrcs → words_of (length csrcs) (csrc_list csrcs ++ rest) ≡ csrcs
words_again [] rest fits = refl
words_again (csrc ∷ csrcs) rest fits =
    let head : big_number 4 (csrc_list (csrc ∷ csrcs) ++ rest) ≡ csrc = again_4 csrc (csrc_list csrcs ++ rest) fits.0 in
    let tail : words_of (length csrcs) (drop 4 (csrc_list (csrc ∷ csrcs) ++ rest)) ≡ csrcs = words_again csrcs rest fits.1 in
    cc

pub words_back : (count : ℕ) (bytes : List ℕ) → 4 * count ≤ length bytes → AreBytes bytes → csrc_list (words_of count bytes) ++ drop (4 * count) bytes ≡ bytes
words_back zero bytes long fits = refl
words_back (suc count) bytes long fits =
    let others = words_of count (drop 4 bytes) in
    let more : 4 * suc count ≡ 4 + 4 * count = omega arith in
    let left : drop (4 * suc count) bytes ≡ drop (4 * count) (drop 4 bytes) = rw more (sym (drop-drop (4 * count) 4 bytes)) in
    let later : 4 * count ≤ length (drop 4 bytes) = omega (arith, length-drop 4 bytes) in
    let rest : csrc_list others ++ drop (4 * suc count) bytes ≡ drop 4 bytes =
    ap (λ (t : List ℕ). csrc_list others ++ t) left ∙ words_back count (drop 4 bytes) later (AreBytes-drop 4 bytes fits) in
    ap (λ (front : List ℕ). (front ++ csrc_list others) ++ drop (4 * suc count) bytes) (back_4 bytes (omega arith) fits)
    ∙ append_assoc (take 4 bytes) (csrc_list others) (drop (4 * suc count) bytes)
    ∙ ap (λ (t : List ℕ). take 4 bytes ++ t) rest
    ∙ take-append-drop 4 bytes

pub words_fit : (count : ℕ) (bytes : List ℕ) → AreBytes bytes → AllByRecursion (λ csrc. csrc < 2 ^ 32) (words_of count bytes)
words_fit zero bytes fits = tt
words_fit (suc count) bytes fits =
    (omega (arith, fits 0, fits 1, fits 2, fits 3), words_fit count (drop 4 bytes) (AreBytes-drop 4 bytes fits))
