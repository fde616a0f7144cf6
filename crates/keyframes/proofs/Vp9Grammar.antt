-- The reading of a VP9 payload against its grammar.
use Rattle.std.proofs.Common.{◌≡◌, ℕ, ◌/◌, ◌%◌, ◌<◌, Bool, true, false, not, ◌&&◌, ◌||◌, Option, Some, None, List, [], ◌∷◌, ◌++◌, arith, refl, sym, ap, ◌∙◌, inl, inr}
use Rattle.std.specs.Prelude.{◌==◌}
use Rattle.std.proofs.lemmas.Bool.{eqb-true}
use Rattle.keyframes.specs.Fields.{picture_id_bytes, optional}
use Rattle.keyframes.specs.Reading.{is_set, behind_picture_id, begins_without, is_lowest, is_vp9_key_start}
use Rattle.keyframes.specs.Vp9.{Head, head_byte, Layers, layers_byte, StartsWithoutLayers, StartsLowestLayer, Vp9StartsKey}
use Rattle.keyframes.proofs.Bits.{bit-is_set, bit_same, bit-lt, is_set-layer, and_both, and_of}
use Rattle.keyframes.proofs.Pieces.{AreBytes, picture_id-spelled, picture_of}

-- ---- the first byte

abbrev pub read_head : ℕ → Head
read_head first =
    record {
      i = is_set first 0x80;
      p = is_set first 0x40;
      l = is_set first 0x20;
      f = is_set first 0x10;
      b = is_set first 0x08;
      e = is_set first 0x04;
      v = is_set first 0x02;
      z = is_set first 0x01;
    }

read_head_is : (first : ℕ) → first < 256 → first ≡ head_byte (read_head first)
read_head_is first below =
    let i = bit-is_set first 7 in
    let p = bit-is_set first 6 in
    let l = bit-is_set first 5 in
    let f = bit-is_set first 4 in
    let b = bit-is_set first 3 in
    let e = bit-is_set first 2 in
    let v = bit-is_set first 1 in
    let z = bit-is_set first 0 in
    omega arith

-- the fields of the first byte that are read
record HeadBits (h : Head) : Type 0 where
  i : is_set (head_byte h) 0x80 ≡ h.i
  p : is_set (head_byte h) 0x40 ≡ h.p
  l : is_set (head_byte h) 0x20 ≡ h.l
  b : is_set (head_byte h) 0x08 ≡ h.b

head_bits : (h : Head) → HeadBits h
head_bits h =
    let i = bit-lt h.i in
    let p = bit-lt h.p in
    let l = bit-lt h.l in
    let f = bit-lt h.f in
    let b = bit-lt h.b in
    let e = bit-lt h.e in
    let v = bit-lt h.v in
    let z = bit-lt h.z in
    record {
      i = bit_same _ _ (bit-is_set (head_byte h) 7 ∙ omega arith);
      p = bit_same _ _ (bit-is_set (head_byte h) 6 ∙ omega arith);
      l = bit_same _ _ (bit-is_set (head_byte h) 5 ∙ omega arith);
      b = bit_same _ _ (bit-is_set (head_byte h) 3 ∙ omega arith);
    }

-- ---- the layer indices

abbrev pub read_layers : ℕ → Layers
read_layers byte = record { tid = byte / 32; u = is_set byte 0x10; sid = byte / 2 % 8; d = is_set byte 0x01 }

read_layers_is : (byte : ℕ) → byte ≡ layers_byte (read_layers byte)
read_layers_is byte =
    let u = bit-is_set byte 4 in
    let d = bit-is_set byte 0 in
    omega arith

layers-sid : (l : Layers) → l.sid < 8 → layers_byte l / 2 % 8 ≡ l.sid
layers-sid l below =
    let u = bit-lt l.u in
    let d = bit-lt l.d in
    omega arith

-- the layer indices of the lowest spatial layer
record LowestLayer (o : Option (List ℕ)) : Type 0 where
  byte : ℕ
  rest : List ℕ
  there : o ≡ Some (byte ∷ rest)
  lowest : byte / 2 % 8 ≡ 0

lowest_of : (o : Option (List ℕ)) → begins_without 0x0e o ≡ true → LowestLayer o
lowest_of None e = absurd (cc)
lowest_of (Some []) e = absurd (cc)
lowest_of (Some (byte ∷ rest)) e =
    record { byte = byte; rest = rest; there = refl; lowest = eqb-true (byte / 2 % 8) 0 (sym (is_set-layer byte) ∙ e) }

-- ---- the payload

not_true : (b : Bool) → not b ≡ true → b ≡ false
not_true false e = refl
not_true true e = absurd (cc)

read_lowest : (first : ℕ) (bytes : List ℕ) (l : Bool) → first < 256 → AreBytes bytes → is_set first 0x20 ≡ l →
    (not l || begins_without 0x0e (behind_picture_id (is_set first 0x80) bytes)) ≡ true →
    is_set first 0x40 ≡ false → is_set first 0x08 ≡ true → Vp9StartsKey (first ∷ bytes)
read_lowest first bytes false below are l e p b =
    inl
    (record {
      head = read_head first;
      rest = bytes;
      bytes = ap (λ x. x ∷ bytes) (read_head_is first below);
      not_predicted = p;
      beginning = b;
      without_layers = l;
    })
read_lowest first bytes true below are l e p b =
    let low = lowest_of (behind_picture_id (is_set first 0x80) bytes) e in
    let id = picture_of (is_set first 0x80) bytes (low.byte ∷ low.rest) are low.there in
    let here : low.byte < 256 = id.left.0 in
    inr
    (record {
      head = read_head first;
      picture_id = id.picture_id;
      layers = read_layers low.byte;
      rest = low.rest;
      is_picture_id = id.fits;
      is_layers = record { tid = omega arith; sid = omega arith };
      bytes = ap (λ x. x ∷ bytes) (read_head_is first below)
          ∙ ap (λ xs. head_byte (read_head first) ∷ xs)
          (id.spelled ∙ ap (λ x. optional picture_id_bytes id.picture_id ++ x ∷ low.rest) (read_layers_is low.byte));
      with_picture_id = sym id.flag;
      not_predicted = p;
      beginning = b;
      with_layers = l;
      lowest = low.lowest;
    })

pub vp9-read : (payload : List ℕ) → AreBytes payload → is_vp9_key_start payload ≡ true → Vp9StartsKey payload
vp9-read [] are e = absurd (cc)
vp9-read (first ∷ bytes) are e =
    let both = and_both (not (is_set first 0x40) && is_set first 0x08) (is_lowest first bytes) e in
    let begins = and_both (not (is_set first 0x40)) (is_set first 0x08) both.0 in
    read_lowest first bytes (is_set first 0x20) are.0 are.1 refl both.1 (not_true (is_set first 0x40) begins.0) begins.1

without_layers-spelled : (payload : List ℕ) → StartsWithoutLayers payload → is_vp9_key_start payload ≡ true
without_layers-spelled payload h =
    let bits = head_bits h.head in
    ap is_vp9_key_start h.bytes
    ∙ and_of _ _
    (and_of _ _ (ap not (bits.p ∙ h.not_predicted)) (bits.b ∙ h.beginning))
    (ap (λ l. not l || begins_without 0x0e (behind_picture_id (is_set (head_byte h.head) 0x80) h.rest)) (bits.l ∙ h.without_layers))

lowest_layer-spelled : (payload : List ℕ) → StartsLowestLayer payload → is_vp9_key_start payload ≡ true
lowest_layer-spelled payload h =
    let bits = head_bits h.head in
    let rest : List ℕ = optional picture_id_bytes h.picture_id ++ layers_byte h.layers ∷ h.rest in
    let behind : behind_picture_id (is_set (head_byte h.head) 0x80) rest ≡ Some (layers_byte h.layers ∷ h.rest) =
    ap (λ i. behind_picture_id i rest) (bits.i ∙ h.with_picture_id)
    ∙ picture_id-spelled h.picture_id (layers_byte h.layers ∷ h.rest) h.is_picture_id in
    let low : layers_byte h.layers / 2 % 8 ≡ 0 = layers-sid h.layers h.is_layers.sid ∙ h.lowest in
    ap is_vp9_key_start h.bytes
    ∙ and_of _ _
    (and_of _ _ (ap not (bits.p ∙ h.not_predicted)) (bits.b ∙ h.beginning))
    (ap (λ l. not l || begins_without 0x0e (behind_picture_id (is_set (head_byte h.head) 0x80) rest)) (bits.l ∙ h.with_layers)
    ∙ ap (begins_without 0x0e) behind
    ∙ is_set-layer (layers_byte h.layers)
    ∙ ap (λ n. n == 0) low)

pub vp9-spelled : (payload : List ℕ) → Vp9StartsKey payload → is_vp9_key_start payload ≡ true
vp9-spelled payload (inl h) = without_layers-spelled payload h
vp9-spelled payload (inr h) = lowest_layer-spelled payload h
