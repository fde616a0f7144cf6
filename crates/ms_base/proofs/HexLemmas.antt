-- Bytes in hexadecimal, one more at a time.
use Rattle.std.proofs.Common.{◌≡◌, ℕ, zero, suc, ◌+◌, ◌/◌, ◌%◌, ◌<◌, List, [], ◌∷◌, ◌++◌, length, get_or, take, slice_index, refl, sym, ap, add-one, arith, append_assoc}
use Rattle.std.proofs.lemmas.List.{append-nil}
use Rattle.hex.specs.Hex.{encode_with, encode_lower, lower_digits}

encode_suc : (t xs : List ℕ) (i : ℕ) → i < length xs
    → encode_with t (take (suc i) xs) ≡ encode_with t (take i xs) ++ slice_index t (get_or xs i 0 / 16) ∷ slice_index t (get_or xs i 0 % 16) ∷ []
unfolding encode_with
encode_suc t [] i h = absurd (omega arith)
encode_suc t (x ∷ xs) zero h = refl
encode_suc t (x ∷ xs) (suc i) h = ap (λ (ds : List ℕ). slice_index t (x / 16) ∷ slice_index t (x % 16) ∷ ds) (encode_suc t xs i (omega arith))

encode_more : (t xs : List ℕ) (i : ℕ) → i < length xs
    → encode_with t (take (i + 1) xs) ≡ encode_with t (take i xs) ++ slice_index t (get_or xs i 0 / 16) ∷ slice_index t (get_or xs i 0 % 16) ∷ []
encode_more t xs i h = rw add-one (encode_suc t xs i h)

pub hex_more : (bytes start old once twice : List ℕ) (i high low : ℕ) → i < length bytes → old ≡ start ++ encode_lower (take i bytes)
    → once ≡ old ++ high ∷ [] → twice ≡ once ++ low ∷ []
    → high ≡ slice_index lower_digits (get_or bytes i 0 / 16) → low ≡ slice_index lower_digits (get_or bytes i 0 % 16)
    → twice ≡ start ++ encode_lower (take (i + 1) bytes)
hex_more bytes start old once twice i high low h before first second is_high is_low =
    rw (second, first, before, is_high, is_low, encode_more lower_digits bytes i h) (simp append_assoc)

pub hex_of_none : (start : List ℕ) → start ≡ start ++ encode_lower []
unfolding encode_with
hex_of_none start = sym (append-nil start)
