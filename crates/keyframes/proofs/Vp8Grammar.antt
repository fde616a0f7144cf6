-- The reading of a VP8 payload against its grammar.
use Rattle.std.proofs.Common.{◌≡◌, ℕ, ◌+◌, ◌*◌, ◌/◌, ◌%◌, ◌<◌, Bool, true, false, not, cond, ◌&&◌, ◌||◌, Option, Some, None, is_some, List, [], ◌∷◌, ◌++◌, arith, refl, sym, ap, ◌∙◌}
use Rattle.std.specs.Prelude.{◌==◌}
use Rattle.std.specs.Option.{option_and_then}
use Rattle.std.proofs.lemmas.List.{append_assoc}
use Rattle.std.proofs.lemmas.Option.{option_and_then_some}
use Rattle.std.proofs.lemmas.Bool.{eqb-true}
use Rattle.keyframes.specs.Fields.{bit, PictureId, picture_id_bytes, optional, IfThere}
use Rattle.keyframes.specs.Reading.{is_set, behind_byte, behind_picture_id, behind_parts, behind_extension, begins_without, is_vp8_key_start}
use Rattle.keyframes.specs.Vp8.{Layer, layer_byte, Extension, IsExtension, flags_byte, extension_bytes, Descriptor, first_byte, Vp8StartsKey}
use Rattle.keyframes.proofs.Bits.{bit-is_set, bit_same, bit-lt, is_set-low, and_both, and_of}
use Rattle.keyframes.proofs.Pieces.{AreBytes, one_byte, byte-spelled, Byte, byte_of, picture_id-spelled, Picture, picture_of, some_is}

-- ---- the byte that T and K share

abbrev pub layer_bytes : Bool → Layer → List ℕ
layer_bytes there layer = cond there (layer_byte layer ∷ []) []

layer-spelled : (there : Bool) (layer : Layer) (rest : List ℕ) → behind_byte there (layer_bytes there layer ++ rest) ≡ Some rest
layer-spelled false layer rest = refl
layer-spelled true layer rest = refl

pub record LayerRead (there : Bool) (bytes rest : List ℕ) : Type 0 where
  pub layer : Layer
  pub tid : layer.tid < 4
  pub keyidx : layer.keyidx < 32
  pub spelled : bytes ≡ layer_bytes there layer ++ rest
  pub left : AreBytes rest

layer_of : (there : Bool) (bytes rest : List ℕ) → AreBytes bytes → behind_byte there bytes ≡ Some rest → LayerRead there bytes rest
layer_of false bytes rest are e =
    let same : bytes ≡ rest = some_is bytes rest e in
    record {
      layer = record { tid = 0; y = false; keyidx = 0 };
      tid = omega arith;
      keyidx = omega arith;
      spelled = same;
      left = rw same at are;
    }
layer_of true [] rest are e = absurd (cc)
layer_of true (b ∷ bs) rest are e =
    let same : bs ≡ rest = some_is bs rest e in
    let below : b < 256 = are.0 in
    let y = bit-is_set b 5 in
    let byte : b ≡ 64 * (b / 64) + 32 * bit (is_set b 0x20) + b % 32 = omega arith in
    record {
      layer = record { tid = b / 64; y = is_set b 0x20; keyidx = b % 32 };
      tid = omega arith;
      keyidx = omega arith;
      spelled = ap (λ x. x ∷ bs) byte ∙ ap (λ xs. (64 * (b / 64) + 32 * bit (is_set b 0x20) + b % 32) ∷ xs) same;
      left = rw same at are.1;
    }

-- ---- the extension

-- each flag of the extension's first byte
record Flags (e : Extension) : Type 0 where
  picture_id : is_set (flags_byte e) 0x80 ≡ is_some e.picture_id
  tl0picidx : is_set (flags_byte e) 0x40 ≡ is_some e.tl0picidx
  t : is_set (flags_byte e) 0x20 ≡ e.t
  k : is_set (flags_byte e) 0x10 ≡ e.k

flags_of : (e : Extension) → e.reserved < 16 → Flags e
flags_of e below =
    let i = bit-lt (is_some e.picture_id) in
    let l = bit-lt (is_some e.tl0picidx) in
    let t = bit-lt e.t in
    let k = bit-lt e.k in
    record {
      picture_id = bit_same _ _ (bit-is_set (flags_byte e) 7 ∙ omega arith);
      tl0picidx = bit_same _ _ (bit-is_set (flags_byte e) 6 ∙ omega arith);
      t = bit_same _ _ (bit-is_set (flags_byte e) 5 ∙ omega arith);
      k = bit_same _ _ (bit-is_set (flags_byte e) 4 ∙ omega arith);
    }

abbrev pub parts_bytes : Extension → List ℕ
parts_bytes e = optional picture_id_bytes e.picture_id ++ optional one_byte e.tl0picidx ++ layer_bytes (e.t || e.k) e.layer

-- the parts by their flags
abbrev pub behind_by : Bool → Bool → Bool → List ℕ → Option (List ℕ)
behind_by i l layer bytes =
    option_and_then (λ rest. option_and_then (behind_byte layer) (behind_byte l rest)) (behind_picture_id i bytes)

joined : (xs ys zs rest : List ℕ) → (xs ++ ys ++ zs) ++ rest ≡ xs ++ (ys ++ (zs ++ rest))
joined xs ys zs rest = simp append_assoc

parts-spelled : (e : Extension) (rest : List ℕ) → IsExtension e → behind_parts (flags_byte e) (parts_bytes e ++ rest) ≡ Some rest
parts-spelled e rest ok =
    let flags = flags_of e ok.reserved in
    let pic : List ℕ = optional picture_id_bytes e.picture_id in
    let index : List ℕ = optional one_byte e.tl0picidx in
    let last : List ℕ = layer_bytes (e.t || e.k) e.layer in
    ap (λ i. behind_by i (is_set (flags_byte e) 0x40) (is_set (flags_byte e) 0x20 || is_set (flags_byte e) 0x10) (parts_bytes e ++ rest))
    flags.picture_id
    ∙ ap (λ l. behind_by (is_some e.picture_id) l (is_set (flags_byte e) 0x20 || is_set (flags_byte e) 0x10) (parts_bytes e ++ rest))
    flags.tl0picidx
    ∙ ap (λ t. behind_by (is_some e.picture_id) (is_some e.tl0picidx) (t || is_set (flags_byte e) 0x10) (parts_bytes e ++ rest))
    flags.t
    ∙ ap (λ k. behind_by (is_some e.picture_id) (is_some e.tl0picidx) (e.t || k) (parts_bytes e ++ rest)) flags.k
    ∙ ap (behind_by (is_some e.picture_id) (is_some e.tl0picidx) (e.t || e.k)) (joined pic index last rest)
    ∙ ap (option_and_then (λ bytes. option_and_then (behind_byte (e.t || e.k)) (behind_byte (is_some e.tl0picidx) bytes)))
    (picture_id-spelled e.picture_id (index ++ (last ++ rest)) ok.picture_id)
    ∙ ap (option_and_then (behind_byte (e.t || e.k))) (byte-spelled e.tl0picidx (last ++ rest))
    ∙ layer-spelled (e.t || e.k) e.layer rest

extension-spelled : (e : Option Extension) (rest : List ℕ) → IfThere IsExtension e →
    behind_extension (is_some e) (optional extension_bytes e ++ rest) ≡ Some rest
extension-spelled None rest ok = refl
extension-spelled (Some e) rest ok = parts-spelled e rest ok

pub record ExtensionRead (there : Bool) (bytes rest : List ℕ) : Type 0 where
  pub extension : Option Extension
  pub fits : IfThere IsExtension extension
  pub flag : is_some extension ≡ there
  pub spelled : bytes ≡ optional extension_bytes extension ++ rest

abbrev pub read_extension : ℕ → Option PictureId → Option ℕ → Layer → Extension
read_extension flags picture_id index layer =
    record {
      picture_id = picture_id;
      tl0picidx = index;
      t = is_set flags 0x20;
      k = is_set flags 0x10;
      layer = layer;
      reserved = flags % 16;
    }

read_flags : (flags : ℕ) (picture_id : Option PictureId) (index : Option ℕ) (layer : Layer) → flags < 256 →
    is_some picture_id ≡ is_set flags 0x80 → is_some index ≡ is_set flags 0x40 →
    flags ≡ flags_byte (read_extension flags picture_id index layer)
read_flags flags picture_id index layer below has_id has_index =
    let i = ap bit has_id ∙ bit-is_set flags 7 in
    let l = ap bit has_index ∙ bit-is_set flags 6 in
    let t = bit-is_set flags 5 in
    let k = bit-is_set flags 4 in
    omega arith

extension_of_parts : (flags : ℕ) (bytes behind_id behind_index rest : List ℕ) → flags < 256 →
    Picture (is_set flags 0x80) bytes behind_id → Byte (is_set flags 0x40) behind_id behind_index →
    LayerRead (is_set flags 0x20 || is_set flags 0x10) behind_index rest →
    ExtensionRead true (flags ∷ bytes) rest
extension_of_parts flags bytes behind_id behind_index rest below p b l =
    let e : Extension = read_extension flags p.picture_id b.byte l.layer in
    let pic : List ℕ = optional picture_id_bytes p.picture_id in
    let index : List ℕ = optional one_byte b.byte in
    let last : List ℕ = layer_bytes (is_set flags 0x20 || is_set flags 0x10) l.layer in
    let parts : bytes ≡ (pic ++ index ++ last) ++ rest =
    p.spelled ∙ ap (λ xs. pic ++ xs) (b.spelled ∙ ap (λ xs. index ++ xs) l.spelled) ∙ sym (joined pic index last rest) in
    record {
      extension = Some e;
      fits = record { picture_id = p.fits; tl0picidx = b.fits; tid = l.tid; keyidx = l.keyidx; reserved = omega arith };
      flag = refl;
      spelled = ap (λ x. x ∷ bytes) (read_flags flags p.picture_id b.byte l.layer below p.flag b.flag)
          ∙ ap (λ xs. flags_byte e ∷ xs) parts;
    }

extension_of : (there : Bool) (bytes rest : List ℕ) → AreBytes bytes → behind_extension there bytes ≡ Some rest →
    ExtensionRead there bytes rest
extension_of false bytes rest are e =
    record { extension = None; fits = tt; flag = refl; spelled = some_is bytes rest e }
extension_of true [] rest are e = absurd (cc)
extension_of true (flags ∷ bytes) rest are e =
    option_and_then_some (λ xs. option_and_then (behind_byte (is_set flags 0x20 || is_set flags 0x10)) (behind_byte (is_set flags 0x40) xs))
    (behind_picture_id (is_set flags 0x80) bytes) rest e
    (λ behind_id at_id then.
    option_and_then_some (behind_byte (is_set flags 0x20 || is_set flags 0x10)) (behind_byte (is_set flags 0x40) behind_id) rest then
    (λ behind_index at_index at_layer.
    let p = picture_of (is_set flags 0x80) bytes behind_id are.1 at_id in
    let b = byte_of (is_set flags 0x40) behind_id behind_index p.left at_index in
    let l = layer_of (is_set flags 0x20 || is_set flags 0x10) behind_index rest b.left at_layer in
    extension_of_parts flags bytes behind_id behind_index rest are.0 p b l))

-- ---- the payload

-- the header of a key frame
pub record Header (o : Option (List ℕ)) : Type 0 where
  pub header : ℕ
  pub rest : List ℕ
  pub there : o ≡ Some (header ∷ rest)
  pub key_frame : header % 2 ≡ 0

header_of : (o : Option (List ℕ)) → begins_without 0x01 o ≡ true → Header o
header_of None e = absurd (cc)
header_of (Some []) e = absurd (cc)
header_of (Some (header ∷ rest)) e =
    record { header = header; rest = rest; there = refl; key_frame = eqb-true (header % 2) 0 (sym (is_set-low header 1) ∙ e) }

header-clear : (header : ℕ) → header % 2 ≡ 0 → not (is_set header 0x01) ≡ true
header-clear header e = is_set-low header 1 ∙ ap (λ n. n == 0) e

abbrev pub read_descriptor : ℕ → Option Extension → Descriptor
read_descriptor first extension =
    record {
      extension = extension;
      reserved = is_set first 0x40;
      non_reference = is_set first 0x20;
      start = is_set first 0x10;
      reserved_too = is_set first 0x08;
      partition = first % 8;
    }

read_first : (first : ℕ) (extension : Option Extension) → first < 256 → is_some extension ≡ is_set first 0x80 →
    first ≡ first_byte (read_descriptor first extension)
read_first first extension below extended =
    let x = ap bit extended ∙ bit-is_set first 7 in
    let r = bit-is_set first 6 in
    let n = bit-is_set first 5 in
    let s = bit-is_set first 4 in
    let q = bit-is_set first 3 in
    omega arith

pub vp8-read : (payload : List ℕ) → AreBytes payload → is_vp8_key_start payload ≡ true → Vp8StartsKey payload
vp8-read [] are e = absurd (cc)
vp8-read (first ∷ bytes) are e =
    let both = and_both (is_set first 0x10 && not (is_set first 0x07)) (begins_without 0x01 (behind_extension (is_set first 0x80) bytes)) e in
    let begins = and_both (is_set first 0x10) (not (is_set first 0x07)) both.0 in
    let h = header_of (behind_extension (is_set first 0x80) bytes) both.1 in
    let x = extension_of (is_set first 0x80) bytes (h.header ∷ h.rest) are.1 h.there in
    let d : Descriptor = read_descriptor first x.extension in
    record {
      descriptor = d;
      header = h.header;
      rest = h.rest;
      is_descriptor = record { extension = x.fits; partition = omega arith };
      bytes = ap (λ b. b ∷ bytes) (read_first first x.extension are.0 x.flag) ∙ ap (λ xs. first_byte d ∷ xs) x.spelled;
      start = begins.0;
      first_partition = eqb-true (first % 8) 0 (sym (is_set-low first 3) ∙ begins.1);
      key_frame = h.key_frame;
    }

-- the fields of the first byte that are read
record FirstBits (d : Descriptor) : Type 0 where
  extension : is_set (first_byte d) 0x80 ≡ is_some d.extension
  start : is_set (first_byte d) 0x10 ≡ d.start
  partition : first_byte d % 8 ≡ d.partition

first_bits : (d : Descriptor) → d.partition < 8 → FirstBits d
first_bits d below =
    let x = bit-lt (is_some d.extension) in
    let r = bit-lt d.reserved in
    let n = bit-lt d.non_reference in
    let s = bit-lt d.start in
    let q = bit-lt d.reserved_too in
    record {
      extension = bit_same _ _ (bit-is_set (first_byte d) 7 ∙ omega arith);
      start = bit_same _ _ (bit-is_set (first_byte d) 4 ∙ omega arith);
      partition = omega arith;
    }

pub vp8-spelled : (payload : List ℕ) → Vp8StartsKey payload → is_vp8_key_start payload ≡ true
vp8-spelled payload h =
    let d : Descriptor = h.descriptor in
    let bits = first_bits d h.is_descriptor.partition in
    let low : first_byte d % 8 ≡ 0 = bits.partition ∙ h.first_partition in
    let behind : behind_extension (is_set (first_byte d) 0x80) (optional extension_bytes d.extension ++ h.header ∷ h.rest)
    ≡ Some (h.header ∷ h.rest) =
    ap (λ x. behind_extension x (optional extension_bytes d.extension ++ h.header ∷ h.rest)) bits.extension
    ∙ extension-spelled d.extension (h.header ∷ h.rest) h.is_descriptor.extension in
    ap is_vp8_key_start h.bytes
    ∙ and_of _ _
    (and_of _ _ (bits.start ∙ h.start) (is_set-low (first_byte d) 3 ∙ ap (λ n. n == 0) low))
    (ap (begins_without 0x01) behind ∙ header-clear h.header h.key_frame)
