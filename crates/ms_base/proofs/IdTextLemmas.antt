-- The text of an id is ASCII, and so UTF-8.
use Rattle.std.proofs.Common.{ℕ, ◌+◌, ◌-◌, ◌/◌, ◌%◌, ◌<◌, List, [], ◌∷◌, ◌++◌, take, drop, nat_lt, if◌then◌else◌, arith}
use Rattle.std.proofs.lemmas.Bool.Decides.{nat_tests}
use Rattle.std.proofs.lemmas.Str.{IsUtf8-from_ascii, IsAscii-append}
use Rattle.std.proofs.lemmas.Str.Ascii.{IsAscii-nil, IsAscii-cons}
use Rattle.std.specs.Str.{IsAscii, IsUtf8}
use Rattle.ms_base.specs.Id.{hyphen, id_text, lower_hex}

-- a hexadecimal digit in lower case
abbrev digit : ℕ → ℕ
digit d = if nat_lt d 10 then 48 + d else 97 + d - 10

digit_is_ascii : (d : ℕ) → d < 16 → digit d < 128
digit_is_ascii d h = grind (arith, nat_tests)

lower_hex_is_ascii : (bytes : List ℕ) → IsAscii (lower_hex bytes)
lower_hex_is_ascii [] = IsAscii-nil
lower_hex_is_ascii (b ∷ bytes) =
    IsAscii-cons (digit (b / 16 % 16)) (digit (b % 16) ∷ lower_hex bytes) (digit_is_ascii (b / 16 % 16) (omega arith))
    (IsAscii-cons (digit (b % 16)) (lower_hex bytes) (digit_is_ascii (b % 16) (omega arith)) (lower_hex_is_ascii bytes))

behind_hyphen : (text bytes : List ℕ) → IsAscii text → IsAscii (text ++ hyphen ∷ lower_hex bytes)
behind_hyphen text bytes h =
    IsAscii-append text (hyphen ∷ lower_hex bytes) h (IsAscii-cons hyphen (lower_hex bytes) (omega arith) (lower_hex_is_ascii bytes))

groups_are_ascii : (a b c d e : List ℕ)
    → IsAscii (lower_hex a ++ hyphen ∷ lower_hex b ++ hyphen ∷ lower_hex c ++ hyphen ∷ lower_hex d ++ hyphen ∷ lower_hex e)
groups_are_ascii a b c d e =
    behind_hyphen (lower_hex a ++ hyphen ∷ lower_hex b ++ hyphen ∷ lower_hex c ++ hyphen ∷ lower_hex d) e
    (behind_hyphen (lower_hex a ++ hyphen ∷ lower_hex b ++ hyphen ∷ lower_hex c) d
    (behind_hyphen (lower_hex a ++ hyphen ∷ lower_hex b) c (behind_hyphen (lower_hex a) b (lower_hex_is_ascii a))))

pub id_text_is_utf8 : (bytes : List ℕ) → IsUtf8 (id_text bytes)
unfolding id_text
id_text_is_utf8 bytes =
    IsUtf8-from_ascii (id_text bytes)
    (groups_are_ascii (take 4 bytes) (take 2 (drop 4 bytes)) (take 2 (drop 6 bytes)) (take 2 (drop 8 bytes)) (drop 10 bytes))
