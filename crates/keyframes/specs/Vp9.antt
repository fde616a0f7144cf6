-- The beginning of the VP9 payload descriptor of RFC 9628, section 4.2, by its fields:
--
--       0 1 2 3 4 5 6 7
--      |I|P|L|F|B|E|V|Z|
--   I: |M| PICTURE ID  |, and with M one byte more
--   L: | TID |U| SID |D|
--
-- and when a payload starts a key frame, by the rule of this project: P is 0, B is 1 and, with layer indices, SID is 0. Nothing
-- behind the first byte is needed without L, and nothing behind the layer indices with it.
use Rattle.std.specs.Prelude.{ℕ, ◌+◌, ◌*◌, ◌<◌, Bool, true, false, Option, is_some, List, ◌∷◌, ◌++◌, ◌≡◌, ◌⊎◌}
use Rattle.keyframes.specs.Fields.{bit, PictureId, IsPictureId, picture_id_bytes, optional, IfThere}

pub record Head : Type 0 where
  pub i : Bool
  pub p : Bool
  pub l : Bool
  pub f : Bool
  pub b : Bool
  pub e : Bool
  pub v : Bool
  pub z : Bool

abbrev pub head_byte : Head → ℕ
head_byte h = 128 * bit h.i + 64 * bit h.p + 32 * bit h.l + 16 * bit h.f + 8 * bit h.b + 4 * bit h.e + 2 * bit h.v + bit h.z

-- the layer indices
pub record Layers : Type 0 where
  pub tid : ℕ
  pub u : Bool
  pub sid : ℕ
  pub d : Bool

pub record IsLayers (l : Layers) : Type 0 where
  pub tid : l.tid < 8
  pub sid : l.sid < 8

abbrev pub layers_byte : Layers → ℕ
layers_byte l = 32 * l.tid + 16 * bit l.u + 2 * l.sid + bit l.d

-- a frame begins that isn't predicted from other pictures, and there are no layer indices
pub record StartsWithoutLayers (payload : List ℕ) : Type 0 where
  pub head : Head
  pub rest : List ℕ
  pub bytes : payload ≡ head_byte head ∷ rest
  pub not_predicted : head.p ≡ false
  pub beginning : head.b ≡ true
  pub without_layers : head.l ≡ false

-- the same of a frame of the lowest spatial layer
pub record StartsLowestLayer (payload : List ℕ) : Type 0 where
  pub head : Head
  pub picture_id : Option PictureId
  pub layers : Layers
  pub rest : List ℕ
  pub is_picture_id : IfThere IsPictureId picture_id
  pub is_layers : IsLayers layers
  pub bytes : payload ≡ head_byte head ∷ (optional picture_id_bytes picture_id ++ layers_byte layers ∷ rest)
  pub with_picture_id : head.i ≡ is_some picture_id
  pub not_predicted : head.p ≡ false
  pub beginning : head.b ≡ true
  pub with_layers : head.l ≡ true
  pub lowest : layers.sid ≡ 0

abbrev pub Vp9StartsKey : List ℕ → Type 0
Vp9StartsKey payload = StartsWithoutLayers payload ⊎ StartsLowestLayer payload
