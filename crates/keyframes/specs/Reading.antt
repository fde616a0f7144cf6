-- The same two questions as tests that compute: a payload is read part by part from its beginning. `Laws` says that they are those
-- of the grammars in `Vp8` and `Vp9`.
use Rattle.std.specs.Prelude.{ℕ, Bool, true, false, not, ◌&&◌, ◌||◌, ◌==◌, Option, Some, None, List, [], ◌∷◌, bit_and, ◌≡◌, refl}
use Rattle.std.specs.Option.{option_and_then}

-- one of a byte's bits in `flags` is 1
abbrev pub is_set : ℕ → ℕ → Bool
is_set byte flags = not (bit_and byte flags == 0)

-- what is behind a byte, if one is there to be skipped; None where it is missing
abbrev pub behind_byte : Bool → List ℕ → Option (List ℕ)
behind_byte false bytes = Some bytes
behind_byte true [] = None
behind_byte true (_ ∷ rest) = Some rest

-- what is behind a picture id of one byte, or of two where its first has 0x80
abbrev pub behind_picture_id : Bool → List ℕ → Option (List ℕ)
behind_picture_id false bytes = Some bytes
behind_picture_id true [] = None
behind_picture_id true (first ∷ rest) = behind_byte (is_set first 0x80) rest

-- what is behind the extension's other parts
abbrev pub behind_parts : ℕ → List ℕ → Option (List ℕ)
behind_parts flags bytes =
    option_and_then (λ rest. option_and_then (behind_byte (is_set flags 0x20 || is_set flags 0x10)) (behind_byte (is_set flags 0x40) rest))
    (behind_picture_id (is_set flags 0x80) bytes)

-- what is behind the extension of a VP8 descriptor
abbrev pub behind_extension : Bool → List ℕ → Option (List ℕ)
behind_extension false bytes = Some bytes
behind_extension true [] = None
behind_extension true (flags ∷ rest) = behind_parts flags rest

-- there is a byte, and none of its bits in `flags` is 1
abbrev pub begins_without : ℕ → Option (List ℕ) → Bool
begins_without flags None = false
begins_without flags (Some []) = false
begins_without flags (Some (byte ∷ _)) = not (is_set byte flags)

abbrev pub is_vp8_key_start : List ℕ → Bool
is_vp8_key_start [] = false
is_vp8_key_start (first ∷ rest) =
    is_set first 0x10 && not (is_set first 0x07) && begins_without 0x01 (behind_extension (is_set first 0x80) rest)

-- there are no layer indices behind the picture id, or they name the lowest spatial layer
abbrev pub is_lowest : ℕ → List ℕ → Bool
is_lowest first rest = not (is_set first 0x20) || begins_without 0x0e (behind_picture_id (is_set first 0x80) rest)

abbrev pub is_vp9_key_start : List ℕ → Bool
is_vp9_key_start [] = false
is_vp9_key_start (first ∷ rest) = not (is_set first 0x40) && is_set first 0x08 && is_lowest first rest

-- ---- worked rows

key_frame : is_vp8_key_start (0x10 ∷ 0x00 ∷ []) ≡ true
key_frame = refl

other_frame : is_vp8_key_start (0x10 ∷ 0x01 ∷ []) ≡ false
other_frame = refl

later_partition : is_vp8_key_start (0x11 ∷ 0x00 ∷ []) ≡ false
later_partition = refl

all_parts : is_vp8_key_start (0x90 ∷ 0xf0 ∷ 0x81 ∷ 0x02 ∷ 0x03 ∷ 0x41 ∷ 0x50 ∷ []) ≡ true
all_parts = refl

cut_short : is_vp8_key_start (0x90 ∷ 0xf0 ∷ 0x81 ∷ 0x02 ∷ 0x03 ∷ 0x41 ∷ []) ≡ false
cut_short = refl

first_byte_alone : is_vp9_key_start (0x88 ∷ []) ≡ true
first_byte_alone = refl

lowest_layer : is_vp9_key_start (0xa8 ∷ 0x81 ∷ 0x02 ∷ 0x31 ∷ []) ≡ true
lowest_layer = refl

higher_layer : is_vp9_key_start (0xa8 ∷ 0x81 ∷ 0x02 ∷ 0x32 ∷ []) ≡ false
higher_layer = refl
