-- How a text that is read as a journal differs from the written text of that journal: in nothing but the case of
-- the hexadecimal digits that spell the bytes of a chunk or of a packet (this project's own).
use Rattle.std.specs.Prelude.{List, ℕ, [], ◌∷◌, codes, map, if◌then◌else◌}
use Rattle.std.specs.Char.{to_ascii_lowercase}
use Rattle.std.specs.List.{join_with_byte}
use Rattle.ms_base.specs.Words.{line_feed}
use Rattle.script_text.specs.Words.{lines, words, rest_of_line, is_word}
use Rattle.script_text.specs.Calls.{lower_call}

-- the words behind `chunk`, the digits in lower case
abbrev pub lower_digits_of : List (List ℕ) → List (List ℕ)
lower_digits_of (slot ∷ generation ∷ digits ∷ []) = slot ∷ generation ∷ map to_ascii_lowercase digits ∷ []
lower_digits_of other = other

-- the words behind `call`, the digits of a packet in lower case
abbrev pub lower_call_of : List (List ℕ) → List (List ℕ)
lower_call_of [] = []
lower_call_of (lane ∷ rest) = lane ∷ lower_call rest

-- the words of a line, all digits of bytes in lower case
abbrev pub lower_words : List (List ℕ) → List (List ℕ)
lower_words [] = []
lower_words (first ∷ rest) =
    first ∷ (if is_word (codes "chunk") first then lower_digits_of rest else if is_word (codes "call") first then lower_call_of rest else rest)

abbrev pub lower_line : List ℕ → List ℕ
lower_line line = rest_of_line (lower_words (words line))

-- a text, the digits of bytes in lower case
abbrev pub in_lower_case : List ℕ → List ℕ
in_lower_case text = join_with_byte line_feed (map lower_line (lines text))
