-- How the fields of both payload descriptors are spelled in bytes.
use Rattle.std.specs.Prelude.{ℕ, ◌+◌, ◌/◌, ◌%◌, ◌<◌, Bool, true, false, Option, Some, None, List, [], ◌∷◌}

-- a field of one bit, as a number
abbrev pub bit : Bool → ℕ
bit false = 0
bit true = 1

-- RFC 7741, section 4.2, and RFC 9628, section 4.2: a picture id has 7 bits where its bit M is 0, and 15 bits where it is 1
pub data PictureId : Type 0 where
  short : ℕ → PictureId
  long : ℕ → PictureId

abbrev pub IsPictureId : PictureId → Type 0
IsPictureId (short n) = n < 128
IsPictureId (long n) = n < 32768

-- M in the highest bit, and the id in the others, most significant byte first
abbrev pub picture_id_bytes : PictureId → List ℕ
picture_id_bytes (short n) = n ∷ []
picture_id_bytes (long n) = (128 + n / 256) ∷ n % 256 ∷ []

-- what is spelled of a part that may be absent
abbrev pub optional : {T : Type 0} → (T → List ℕ) → Option T → List ℕ
optional bytes None = []
optional bytes (Some part) = bytes part

-- what holds of a part that may be absent
abbrev pub IfThere : {T : Type 0} → (T → Type 0) → Option T → Type 0
IfThere P None = Unit {0}
IfThere P (Some part) = P part
