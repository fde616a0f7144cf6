-- A place that runs over the bytes reads what the parts leave.
use Rattle.std.proofs.Common.{◌≡◌, ℕ, zero, suc, ◌+◌, Bool, true, false, not, ◌||◌, Option, Some, None, List, [], ◌∷◌, arith, refl, ap, ◌∙◌, zero-add}
use mir.Val.{bool_byte}
use Rattle.std.specs.Option.{option_and_then}
use Rattle.std.specs.List.{slice_get}
use Rattle.keyframes.specs.Fields.{bit}
use Rattle.keyframes.specs.Places.{behind}
use Rattle.keyframes.specs.Reading.{is_set, behind_byte, behind_picture_id, behind_parts, behind_extension, begins_without}

-- a number of a test
pub bool_is_bit : (b : Bool) → bool_byte b ≡ bit b
bool_is_bit false = refl
bool_is_bit true = refl

-- one place behind another
pub behind-add : (a b : ℕ) (bytes : List ℕ) → behind (a + b) bytes ≡ option_and_then (behind b) (behind a bytes)
behind-add zero b bytes = ap (λ n. behind n bytes) (zero-add b)
behind-add (suc a) b [] = let e : suc a + b ≡ suc (a + b) = omega arith in ap (λ n. behind n []) e
behind-add (suc a) b (x ∷ xs) = let e : suc a + b ≡ suc (a + b) = omega arith in ap (λ n. behind n (x ∷ xs)) e ∙ behind-add a b xs

-- a byte that may be there
pub behind-bit : (there : Bool) (bytes : List ℕ) → behind (bit there) bytes ≡ behind_byte there bytes
behind-bit false bytes = refl
behind-bit true [] = refl
behind-bit true (x ∷ xs) = refl

then-bit : (there : Bool) (o : Option (List ℕ)) → option_and_then (behind (bit there)) o ≡ option_and_then (behind_byte there) o
then-bit there None = refl
then-bit there (Some bytes) = behind-bit there bytes

pub behind_then : (there : Bool) (at : ℕ) (bytes : List ℕ) → behind (at + bit there) bytes ≡ option_and_then (behind_byte there) (behind at bytes)
behind_then there at bytes = behind-add at (bit there) bytes ∙ then-bit there (behind at bytes)

-- a picture id
pub behind_no_picture_id : (at : ℕ) (bytes : List ℕ) → slice_get bytes at ≡ None → behind (at + 1) bytes ≡ option_and_then (behind_picture_id true) (behind at bytes)
behind_no_picture_id zero [] e = refl
behind_no_picture_id zero (x ∷ xs) e = absurd (cc)
behind_no_picture_id (suc at) [] e = let more : suc at + 1 ≡ suc (at + 1) = omega arith in ap (λ n. behind n []) more
behind_no_picture_id (suc at) (x ∷ xs) e =
    let more : suc at + 1 ≡ suc (at + 1) = omega arith in
    ap (λ n. behind n (x ∷ xs)) more ∙ behind_no_picture_id at xs e

pub behind_a_picture_id : (at first : ℕ) (bytes : List ℕ) → slice_get bytes at ≡ Some first
    → behind (at + 1 + bit (is_set first 0x80)) bytes ≡ option_and_then (behind_picture_id true) (behind at bytes)
behind_a_picture_id zero first [] e = absurd (cc)
behind_a_picture_id zero first (x ∷ xs) e =
    let same : first ≡ x = cc in
    let more : 0 + 1 + bit (is_set first 0x80) ≡ suc (bit (is_set first 0x80)) = omega arith in
    ap (λ n. behind n (x ∷ xs)) more ∙ behind-bit (is_set first 0x80) xs ∙ ap (λ y. behind_byte (is_set y 0x80) xs) same
behind_a_picture_id (suc at) first [] e = absurd (cc)
behind_a_picture_id (suc at) first (x ∷ xs) e =
    let more : suc at + 1 + bit (is_set first 0x80) ≡ suc (at + 1 + bit (is_set first 0x80)) = omega arith in
    ap (λ n. behind n (x ∷ xs)) more ∙ behind_a_picture_id at first xs e

-- the byte at the place
abbrev pub clear_of : ℕ → Option ℕ → Bool
clear_of flags None = false
clear_of flags (Some byte) = not (is_set byte flags)

pub begins_without-behind : (flags at : ℕ) (bytes : List ℕ) → begins_without flags (behind at bytes) ≡ clear_of flags (slice_get bytes at)
begins_without-behind flags zero [] = refl
begins_without-behind flags zero (x ∷ xs) = refl
begins_without-behind flags (suc at) [] = refl
begins_without-behind flags (suc at) (x ∷ xs) = begins_without-behind flags at xs

-- the extension of a VP8 descriptor
pub behind_no_extension : (bytes : List ℕ) → slice_get bytes 1 ≡ None → behind 2 bytes ≡ option_and_then (behind_extension true) (behind 1 bytes)
behind_no_extension [] e = refl
behind_no_extension (x ∷ []) e = refl
behind_no_extension (x ∷ y ∷ rest) e = absurd (cc)

and_then-assoc : (f g : List ℕ → Option (List ℕ)) (o : Option (List ℕ))
    → option_and_then g (option_and_then f o) ≡ option_and_then (λ rest. option_and_then g (f rest)) o
and_then-assoc f g None = refl
and_then-assoc f g (Some bytes) = refl

pub behind_an_extension : (flags at : ℕ) (bytes : List ℕ) → slice_get bytes 1 ≡ Some flags
    → behind at bytes ≡ option_and_then (behind_picture_id (is_set flags 0x80)) (behind 2 bytes)
    → behind (at + bit (is_set flags 0x40) + bit (is_set flags 0x20 || is_set flags 0x10)) bytes ≡ option_and_then (behind_extension true) (behind 1 bytes)
behind_an_extension flags at [] there e = absurd (cc)
behind_an_extension flags at (x ∷ []) there e = absurd (cc)
behind_an_extension flags at (x ∷ y ∷ rest) there e =
    let same : flags ≡ y = cc in
    let index = is_set flags 0x40 in
    let layer = is_set flags 0x20 || is_set flags 0x10 in
    behind_then layer (at + bit index) (x ∷ y ∷ rest)
    ∙ ap (option_and_then (behind_byte layer)) (behind_then index at (x ∷ y ∷ rest) ∙ ap (option_and_then (behind_byte index)) e)
    ∙ and_then-assoc (behind_byte index) (behind_byte layer) (behind_picture_id (is_set flags 0x80) rest)
    ∙ ap (λ n. behind_parts n rest) same
