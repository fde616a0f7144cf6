-- Parts of a descriptor: what is spelled is skipped, and what is skipped was spelled.
use Rattle.std.proofs.Common.{◌≡◌, ℕ, suc, get_or, ◌+◌, ◌-◌, ◌*◌, ◌/◌, ◌%◌, ◌<◌, ◌≤◌, Bool, true, false, Option, Some, None, is_some, List, [], ◌∷◌, ◌++◌, arith, refl, ap, ◌∙◌}
use Rattle.std.specs.List.{All}
use Rattle.keyframes.specs.Fields.{bit, PictureId, short, long, IsPictureId, picture_id_bytes, optional, IfThere}
use Rattle.keyframes.specs.Reading.{is_set, behind_byte, behind_picture_id}
use Rattle.keyframes.proofs.Bits.{bit-is_set, bit_same}

-- each is a byte
abbrev pub AreBytes : List ℕ → Type 0
AreBytes [] = Unit {0}
AreBytes (byte ∷ rest) = (byte < 256) × AreBytes rest

abbrev pub one_byte : ℕ → List ℕ
one_byte byte = byte ∷ []

-- ---- one byte

pub byte-spelled : (o : Option ℕ) (rest : List ℕ) → behind_byte (is_some o) (optional one_byte o ++ rest) ≡ Some rest
byte-spelled None rest = refl
byte-spelled (Some b) rest = refl

pub record Byte (there : Bool) (bytes rest : List ℕ) : Type 0 where
  pub byte : Option ℕ
  pub fits : IfThere (λ b. b < 256) byte
  pub flag : is_some byte ≡ there
  pub spelled : bytes ≡ optional one_byte byte ++ rest
  pub left : AreBytes rest

pub some_is : {A : Type 0} (a b : A) → Some a ≡ Some b → a ≡ b
some_is a b e = cc

pub byte_of : (there : Bool) (bytes rest : List ℕ) → AreBytes bytes → behind_byte there bytes ≡ Some rest → Byte there bytes rest
byte_of false bytes rest are e =
    let same : bytes ≡ rest = some_is bytes rest e in
    record { byte = None; fits = tt; flag = refl; spelled = same; left = rw same at are }
byte_of true [] rest are e = absurd (cc)
byte_of true (b ∷ bs) rest are e =
    let same : bs ≡ rest = some_is bs rest e in
    record { byte = Some b; fits = are.0; flag = refl; spelled = ap (λ xs. b ∷ xs) same; left = rw same at are.1 }

-- ---- a picture id

is_set-short : (n : ℕ) → n < 128 → is_set n 0x80 ≡ false
is_set-short n below = let e = bit-is_set n 7 in bit_same (is_set n 0x80) false (omega arith)

is_set-long : (n : ℕ) → n < 32768 → is_set (128 + n / 256) 0x80 ≡ true
is_set-long n below = let e = bit-is_set (128 + n / 256) 7 in bit_same (is_set (128 + n / 256) 0x80) true (omega arith)

pub picture_id-spelled : (p : Option PictureId) (rest : List ℕ) → IfThere IsPictureId p →
    behind_picture_id (is_some p) (optional picture_id_bytes p ++ rest) ≡ Some rest
picture_id-spelled None rest ok = refl
picture_id-spelled (Some (short n)) rest ok = ap (λ m. behind_byte m rest) (is_set-short n ok)
picture_id-spelled (Some (long n)) rest ok = ap (λ m. behind_byte m (n % 256 ∷ rest)) (is_set-long n ok)

pub record Picture (there : Bool) (bytes rest : List ℕ) : Type 0 where
  pub picture_id : Option PictureId
  pub fits : IfThere IsPictureId picture_id
  pub flag : is_some picture_id ≡ there
  pub spelled : bytes ≡ optional picture_id_bytes picture_id ++ rest
  pub left : AreBytes rest

short_is : (b : ℕ) → b < 256 → is_set b 0x80 ≡ false → b < 128
short_is b below e = let f = bit-is_set b 7 in let g = ap bit e in omega arith

long_is : (b : ℕ) → b < 256 → is_set b 0x80 ≡ true → 128 ≤ b
long_is b below e = let f = bit-is_set b 7 in let g = ap bit e in omega arith

picture_of_first : (b : ℕ) (bytes rest : List ℕ) (m : Bool) → b < 256 → AreBytes bytes → is_set b 0x80 ≡ m →
    behind_byte m bytes ≡ Some rest → Picture true (b ∷ bytes) rest
picture_of_first b bytes rest false below are m e =
    let same : bytes ≡ rest = some_is bytes rest e in
    record {
      picture_id = Some (short b);
      fits = short_is b below m;
      flag = refl;
      spelled = ap (λ xs. b ∷ xs) same;
      left = rw same at are;
    }
picture_of_first b [] rest true below are m e = absurd (cc)
picture_of_first b (c ∷ cs) rest true below are m e =
    let same : cs ≡ rest = some_is cs rest e in
    let high : 128 ≤ b = long_is b below m in
    let low : c < 256 = are.0 in
    let first : b ≡ 128 + ((b - 128) * 256 + c) / 256 = omega arith in
    let second : c ≡ ((b - 128) * 256 + c) % 256 = omega arith in
    record {
      picture_id = Some (long ((b - 128) * 256 + c));
      fits = omega arith;
      flag = refl;
      spelled = ap (λ x. x ∷ c ∷ cs) first
          ∙ ap (λ y. (128 + ((b - 128) * 256 + c) / 256) ∷ y ∷ cs) second
          ∙ ap (λ xs. (128 + ((b - 128) * 256 + c) / 256) ∷ ((b - 128) * 256 + c) % 256 ∷ xs) same;
      left = rw same at are.1;
    }

pub picture_of : (there : Bool) (bytes rest : List ℕ) → AreBytes bytes → behind_picture_id there bytes ≡ Some rest → Picture there bytes rest
picture_of false bytes rest are e =
    let same : bytes ≡ rest = some_is bytes rest e in
    record { picture_id = None; fits = tt; flag = refl; spelled = same; left = rw same at are }
picture_of true [] rest are e = absurd (cc)
picture_of true (b ∷ bs) rest are e = picture_of_first b bs rest (is_set b 0x80) are.0 are.1 refl e

pub bytes_are : (bytes : List ℕ) → All (λ byte. byte < 256) bytes → AreBytes bytes
bytes_are [] all = tt
bytes_are (byte ∷ rest) all = (all 0 0 (omega arith), bytes_are rest (λ i d within. all (suc i) d (omega arith)))

-- what the type of a slice of bytes says
pub bytes_of_slice : (bytes : List ℕ) → ((i : ℕ) → get_or bytes i 0 < 256) → AreBytes bytes
bytes_of_slice [] fits = tt
bytes_of_slice (byte ∷ rest) fits = (fits 0, bytes_of_slice rest (λ i. fits (suc i)))
