-- Ids, which are UUIDs (RFC 9562): the sixteen bytes of one that is made from a seed and a number,
-- and the text form.
use Rattle.std.specs.Prelude.{ℕ, ◌+◌, ◌*◌, ◌/◌, ◌%◌, ◌^◌, ◌==◌, ◌<◌, ◌≤◌, List, [], ◌∷◌, ◌++◌, Bool, Option, Some, None, ◌&&◌, if◌then◌else◌, length, take, drop, slice_index}
use Rattle.std.specs.Int.{w64, to_be_bytes}
use Rattle.std.specs.List.{list_all}
use Rattle.uuid.specs.Text.{hex_digit, lower, is_hex_digit, value_of}

-- RFC 9562, section 5.4: 48 bits `random_a`, 4 bits of version, 12 bits `random_b`, then 2 bits of
-- variant and 62 bits `random_c`, the highest byte first. Here the seed fills `random_a` and
-- `random_b`, and the number fills `random_c`.
unfoldable pub id_bytes : ℕ → ℕ → List ℕ
id_bytes seed n =
    let random_a : ℕ = seed / 2 ^ 12 in
    let version : ℕ = 4 in
    let random_b : ℕ = seed % 2 ^ 12 in
    let variant : ℕ = 2 in
    let random_c : ℕ = n in
    to_be_bytes w64 (random_a * 2 ^ 16 + version * 2 ^ 12 + random_b) ++ to_be_bytes w64 (variant * 2 ^ 62 + random_c)

-- the code of `-`
abbrev pub hyphen : ℕ
hyphen = 45

-- the octets in hexadecimal, two lower-case digits for each
abbrev pub lower_hex : List ℕ → List ℕ
lower_hex [] = []
lower_hex (b ∷ bs) = hex_digit lower (b / 16 % 16) ∷ hex_digit lower (b % 16) ∷ lower_hex bs

-- RFC 9562, section 4: 4 octets, 2, 2, 2 and 6, joined by hyphens
unfoldable pub id_text : List ℕ → List ℕ
id_text bytes =
    lower_hex (take 4 bytes)
    ++ hyphen ∷ lower_hex (take 2 (drop 4 bytes))
    ++ hyphen ∷ lower_hex (take 2 (drop 6 bytes))
    ++ hyphen ∷ lower_hex (take 2 (drop 8 bytes))
    ++ hyphen ∷ lower_hex (drop 10 bytes)

-- what stands between the four hyphens of a text of that form
abbrev pub between_hyphens : List ℕ → List ℕ
between_hyphens text =
    take 8 text ++ take 4 (drop 9 text) ++ take 4 (drop 14 text) ++ take 4 (drop 19 text) ++ drop 24 text

-- 36 characters: hyphens at places 8, 13, 18 and 23, hexadecimal digits of either case elsewhere
unfoldable pub is_id_text : List ℕ → Bool
is_id_text text =
    (length text == 36)
    && (slice_index text 8 == hyphen)
    && (slice_index text 13 == hyphen)
    && (slice_index text 18 == hyphen)
    && (slice_index text 23 == hyphen)
    && list_all is_hex_digit (between_hyphens text)

-- the octets that pairs of hexadecimal digits stand for
abbrev pub octets : List ℕ → List ℕ
octets [] = []
octets (_ ∷ []) = []
octets (high ∷ low ∷ rest) = (value_of high * 16 + value_of low) ∷ octets rest

-- the bytes of the id that a text is the form of
unfoldable pub id_of_text : List ℕ → Option (List ℕ)
id_of_text text = if is_id_text text then Some (octets (between_hyphens text)) else None

-- a seed and a number that an id may be made of
pub record IsIdSource (seed n : ℕ) : Type 0 where
  pub seed_fits : seed < 2 ^ 60
  pub from_one : 1 ≤ n
  pub number_fits : n < 2 ^ 32
