-- The VP8 payload descriptor of RFC 7741, section 4.2, by its fields:
--
--       0 1 2 3 4 5 6 7
--      |X|R|N|S|R| PID |
--   X: |I|L|T|K|  RSV  |
--   I: |M|  PictureID  |, and with M one byte more
--   L: |   TL0PICIDX   |
-- T/K: |TID|Y| KEYIDX  |
--
-- and when a payload starts a key frame. I and L are 1 where the part is there, X where there is an extension.
use Rattle.std.specs.Prelude.{ℕ, ◌+◌, ◌*◌, ◌%◌, ◌<◌, Bool, true, ◌||◌, Option, is_some, List, [], ◌∷◌, ◌++◌, ◌≡◌, if◌then◌else◌}
use Rattle.keyframes.specs.Fields.{bit, PictureId, IsPictureId, picture_id_bytes, optional, IfThere}

-- the byte that T and K share
pub record Layer : Type 0 where
  pub tid : ℕ
  pub y : Bool
  pub keyidx : ℕ

abbrev pub layer_byte : Layer → ℕ
layer_byte l = 64 * l.tid + 32 * bit l.y + l.keyidx

pub record Extension : Type 0 where
  pub picture_id : Option PictureId
  pub tl0picidx : Option ℕ
  pub t : Bool
  pub k : Bool
  pub layer : Layer
  pub reserved : ℕ

pub record IsExtension (e : Extension) : Type 0 where
  pub picture_id : IfThere IsPictureId e.picture_id
  pub tl0picidx : IfThere (λ index. index < 256) e.tl0picidx
  pub tid : e.layer.tid < 4
  pub keyidx : e.layer.keyidx < 32
  pub reserved : e.reserved < 16

abbrev pub flags_byte : Extension → ℕ
flags_byte e = 128 * bit (is_some e.picture_id) + 64 * bit (is_some e.tl0picidx) + 32 * bit e.t + 16 * bit e.k + e.reserved

abbrev pub extension_bytes : Extension → List ℕ
extension_bytes e =
    flags_byte e ∷ (optional picture_id_bytes e.picture_id
    ++ optional (λ index. index ∷ []) e.tl0picidx
    ++ (if e.t || e.k then layer_byte e.layer ∷ [] else []))

-- the two bits R of the first byte are reserved, and any value of them is read
pub record Descriptor : Type 0 where
  pub extension : Option Extension
  pub reserved : Bool
  pub non_reference : Bool
  pub start : Bool
  pub reserved_too : Bool
  pub partition : ℕ

pub record IsDescriptor (d : Descriptor) : Type 0 where
  pub extension : IfThere IsExtension d.extension
  pub partition : d.partition < 8

abbrev pub first_byte : Descriptor → ℕ
first_byte d =
    128 * bit (is_some d.extension) + 64 * bit d.reserved + 32 * bit d.non_reference + 16 * bit d.start + 8 * bit d.reserved_too
    + d.partition

abbrev pub descriptor_bytes : Descriptor → List ℕ
descriptor_bytes d = first_byte d ∷ optional extension_bytes d.extension

-- the payload is a descriptor and what is behind it: the first partition begins here (S is 1 and PID 0), and the VP8 payload header
-- of RFC 7741, section 4.3, has its lowest bit P, the inverse key frame flag, 0
pub record Vp8StartsKey (payload : List ℕ) : Type 0 where
  pub descriptor : Descriptor
  pub header : ℕ
  pub rest : List ℕ
  pub is_descriptor : IsDescriptor descriptor
  pub bytes : payload ≡ descriptor_bytes descriptor ++ header ∷ rest
  pub start : descriptor.start ≡ true
  pub first_partition : descriptor.partition ≡ 0
  pub key_frame : header % 2 ≡ 0
