-- The fixed header, and whole packets.
use Rattle.std.proofs.Common.{◌≡◌, ℕ, zero, suc, ◌+◌, ◌-◌, ◌*◌, ◌/◌, ◌%◌, ◌^◌, ◌<◌, ◌≤◌, Bool, true, false, cond, eqb, ltb, leb, List, [], ◌∷◌, ◌++◌, length, get_or, take, drop, Option, Some, None, Result, Ok, Err, refl, sym, ap, subst, ◌∙◌, arith, length-append}
use Rattle.std.specs.Prelude.{not, is_some, IfOk}
use Rattle.std.specs.Result.{result_err}
use Rattle.std.proofs.lemmas.Bool.{ltb-false, le-ltb}
use Rattle.std.proofs.lemmas.List.{append_assoc, length-drop, take_at, drop_at}
use Rattle.byteorder.specs.Endian.{big_bytes, big_number}
use Rattle.rtp_packet.specs.declared.fault.RtpFault.{RtpFault}
use Rattle.rtp_packet.specs.declared.fault.RtpFault.TheVariants.{Short, BadVersion, CutCsrc, CutExtension, BadPadding}
use Rattle.rtp_packet.specs.Packet.{AreBytes, Fields, flag, first_byte, second_byte, fixed_header, csrc_list, header_extension, padding_bytes, packet_of, Fits, IsPacket}
use Rattle.rtp_packet.specs.Fault.{version, has_padding, has_extension, csrc_count, extension_len, behind_header, behind_csrcs, behind_extension, is_bad_padding, fault_of, Parses}
use Rattle.rtp_packet.specs.Reading.{words_of, extension_at, without_padding, padding_at, fields_of}
use Rattle.rtp_packet.proofs.Numbers.{again_2, again_4, back_2, back_4, AreBytes-drop, length-csrc_list, length-words_of, words_again, words_back, words_fit}
use Rattle.rtp_packet.proofs.Extension.{is_some-extension_at, extension_fits, extension_back, extension_front, extension_len_again, extension_again}
use Rattle.rtp_packet.proofs.Padding.{is_some-padding_at, padding_back, padding_fits, padding_good, payload_again, padding_again}

-- nothing is wrong, test by test
pub record IsSound (bytes : List ℕ) : Type 0 where
  pub whole_header : 12 ≤ length bytes
  pub version_is : version bytes ≡ 2
  pub csrcs_fit : 4 * csrc_count bytes ≤ length (behind_header bytes)
  pub extension_fits : extension_len (has_extension bytes) (behind_csrcs bytes) ≤ length (behind_csrcs bytes)
  pub padding_fits : is_bad_padding (has_padding bytes) (behind_extension bytes) ≡ false

passes : (b : Bool) (fault : RtpFault) (o : Option RtpFault) → cond b (Some fault) o ≡ None → (b ≡ false) × (o ≡ None)
passes true fault o e = absurd cc
passes false fault o e = (refl, e)

two : (n : ℕ) → not (eqb n 2) ≡ false → n ≡ 2
two n e = grind arith

pub IsSound-from_parses : (bytes : List ℕ) → Parses bytes → IsSound bytes
unfolding fault_of
IsSound-from_parses bytes e =
    let a = passes (ltb (length bytes) 12) Short _ e in
    let b = passes (not (eqb (version bytes) 2)) BadVersion _ a.1 in
    let c = passes (ltb (length (behind_header bytes)) (4 * csrc_count bytes)) CutCsrc _ b.1 in
    let d = passes (ltb (length (behind_csrcs bytes)) (extension_len (has_extension bytes) (behind_csrcs bytes))) CutExtension _ c.1 in
    let f = passes (is_bad_padding (has_padding bytes) (behind_extension bytes)) BadPadding None d.1 in
    record {
      whole_header = ltb-false _ _ a.0;
      version_is = two (version bytes) b.0;
      csrcs_fit = ltb-false _ _ c.0;
      extension_fits = ltb-false _ _ d.0;
      padding_fits = f.0;
    }

pub parses_from_sound : (bytes : List ℕ) → IsSound bytes → Parses bytes
unfolding fault_of
parses_from_sound bytes s =
    let a = le-ltb (length bytes) 12 s.whole_header in
    let b : not (eqb (version bytes) 2) ≡ false = ap (λ (n : ℕ). not (eqb n 2)) s.version_is in
    let c = le-ltb _ _ s.csrcs_fit in
    let d = le-ltb _ _ s.extension_fits in
    rw (a, b, c, d, s.padding_fits) refl

-- ---- what is read is written so
pub twelve : (bytes : List ℕ) → 12 ≤ length bytes → bytes ≡ get_or bytes 0 0 ∷ get_or bytes 1 0 ∷ get_or bytes 2 0 ∷ get_or bytes 3 0 ∷ get_or bytes 4 0 ∷ get_or bytes 5 0 ∷ get_or bytes 6 0 ∷ get_or bytes 7 0 ∷ get_or bytes 8 0 ∷ get_or bytes 9 0 ∷ get_or bytes 10 0 ∷ get_or bytes 11 0 ∷ drop 12 bytes
twelve ([]) long = absurd (omega arith)
twelve (b0 ∷ []) long = absurd (omega arith)
twelve (b0 ∷ b1 ∷ []) long = absurd (omega arith)
twelve (b0 ∷ b1 ∷ b2 ∷ []) long = absurd (omega arith)
twelve (b0 ∷ b1 ∷ b2 ∷ b3 ∷ []) long = absurd (omega arith)
twelve (b0 ∷ b1 ∷ b2 ∷ b3 ∷ b4 ∷ []) long = absurd (omega arith)
twelve (b0 ∷ b1 ∷ b2 ∷ b3 ∷ b4 ∷ b5 ∷ []) long = absurd (omega arith)
twelve (b0 ∷ b1 ∷ b2 ∷ b3 ∷ b4 ∷ b5 ∷ b6 ∷ []) long = absurd (omega arith)
twelve (b0 ∷ b1 ∷ b2 ∷ b3 ∷ b4 ∷ b5 ∷ b6 ∷ b7 ∷ []) long = absurd (omega arith)
twelve (b0 ∷ b1 ∷ b2 ∷ b3 ∷ b4 ∷ b5 ∷ b6 ∷ b7 ∷ b8 ∷ []) long = absurd (omega arith)
twelve (b0 ∷ b1 ∷ b2 ∷ b3 ∷ b4 ∷ b5 ∷ b6 ∷ b7 ∷ b8 ∷ b9 ∷ []) long = absurd (omega arith)
twelve (b0 ∷ b1 ∷ b2 ∷ b3 ∷ b4 ∷ b5 ∷ b6 ∷ b7 ∷ b8 ∷ b9 ∷ b10 ∷ []) long = absurd (omega arith)
twelve (b0 ∷ b1 ∷ b2 ∷ b3 ∷ b4 ∷ b5 ∷ b6 ∷ b7 ∷ b8 ∷ b9 ∷ b10 ∷ b11 ∷ rest) long = refl

flag_is : (n : ℕ) → n < 2 → flag (eqb n 1) ≡ n
flag_is zero lt = refl
flag_is (suc zero) lt = refl
flag_is (suc (suc n)) lt = absurd (omega arith)

high_bit : (n : ℕ) → n < 256 → 128 * flag (leb 128 n) + n % 128 ≡ n
high_bit n lt = grind arith

first_back : (bytes : List ℕ) → AreBytes bytes → version bytes ≡ 2 → first_byte (fields_of bytes) ≡ get_or bytes 0 0
unfolding fields_of
first_back bytes fits v =
    let n : ℕ = get_or bytes 0 0 in
    let padding : flag (is_some (padding_at (has_padding bytes) (behind_extension bytes))) ≡ n / 32 % 2 =
    ap flag (is_some-padding_at (has_padding bytes) (behind_extension bytes)) ∙ flag_is (n / 32 % 2) (omega arith) in
    let extension : flag (is_some (extension_at (has_extension bytes) (behind_csrcs bytes))) ≡ n / 16 % 2 =
    ap flag (is_some-extension_at (has_extension bytes) (behind_csrcs bytes)) ∙ flag_is (n / 16 % 2) (omega arith) in
    let csrcs : length (words_of (csrc_count bytes) (behind_header bytes)) ≡ n % 16 = length-words_of (csrc_count bytes) (behind_header bytes) in
    omega (arith, padding, extension, csrcs, v)

second_back : (bytes : List ℕ) → AreBytes bytes → second_byte (fields_of bytes) ≡ get_or bytes 1 0
unfolding fields_of
second_back bytes fits = high_bit (get_or bytes 1 0) (fits 1)

-- what holds of every list with twelve bytes at its front holds of these
pub by_cells : (P : List ℕ → Type 0) → ((b0 b1 b2 b3 b4 b5 b6 b7 b8 b9 b10 b11 : ℕ) (rest : List ℕ) → P (b0 ∷ b1 ∷ b2 ∷ b3 ∷ b4 ∷ b5 ∷ b6 ∷ b7 ∷ b8 ∷ b9 ∷ b10 ∷ b11 ∷ rest)) → (bytes : List ℕ) → 12 ≤ length bytes → P bytes
by_cells P each bytes long = subst P (sym (twelve bytes long)) (each (get_or bytes 0 0) (get_or bytes 1 0) (get_or bytes 2 0) (get_or bytes 3 0) (get_or bytes 4 0) (get_or bytes 5 0) (get_or bytes 6 0) (get_or bytes 7 0) (get_or bytes 8 0) (get_or bytes 9 0) (get_or bytes 10 0) (get_or bytes 11 0) (drop 12 bytes))

header_cells : (bytes : List ℕ) → 12 ≤ length bytes
    → (((get_or bytes 0 0 ∷ get_or bytes 1 0 ∷ take 2 (drop 2 bytes)) ++ take 4 (drop 4 bytes)) ++ take 4 (drop 8 bytes)) ++ drop 12 bytes ≡ bytes
header_cells bytes long =
    by_cells (λ (xs : List ℕ). (((get_or xs 0 0 ∷ get_or xs 1 0 ∷ take 2 (drop 2 xs)) ++ take 4 (drop 4 xs)) ++ take 4 (drop 8 xs)) ++ drop 12 xs ≡ xs)
    (λ b0 b1 b2 b3 b4 b5 b6 b7 b8 b9 b10 b11 rest. refl) bytes long

assembled : (a a' b b' : ℕ) (s s' t t' u u' rest : List ℕ) → a ≡ a' → b ≡ b' → s ≡ s' → t ≡ t' → u ≡ u'
    → (((a ∷ b ∷ s) ++ t) ++ u) ++ rest ≡ (((a' ∷ b' ∷ s') ++ t') ++ u') ++ rest
assembled a a' b b' s s' t t' u u' rest ea eb es et eu = cc

header_back : (bytes : List ℕ) → AreBytes bytes → IsSound bytes → fixed_header (fields_of bytes) ++ behind_header bytes ≡ bytes
unfolding fields_of
header_back bytes fits s =
    let long = s.whole_header in
    let seq = back_2 (drop 2 bytes) (omega (arith, length-drop 2 bytes)) (AreBytes-drop 2 bytes fits) in
    let timestamp = back_4 (drop 4 bytes) (omega (arith, length-drop 4 bytes)) (AreBytes-drop 4 bytes fits) in
    let ssrc = back_4 (drop 8 bytes) (omega (arith, length-drop 8 bytes)) (AreBytes-drop 8 bytes fits) in
    assembled _ _ _ _ _ _ _ _ _ _ (behind_header bytes) (first_back bytes fits s.version_is) (second_back bytes fits) seq timestamp ssrc
    ∙ header_cells bytes long

below_16 : (bytes : List ℕ) → AreBytes bytes → big_number 2 bytes < 2 ^ 16
below_16 bytes fits = omega (arith, fits 0, fits 1)

below_32 : (bytes : List ℕ) → AreBytes bytes → big_number 4 bytes < 2 ^ 32
below_32 bytes fits = omega (arith, fits 0, fits 1, fits 2, fits 3)

fits_of : (bytes : List ℕ) → AreBytes bytes → IsSound bytes → Fits (fields_of bytes)
unfolding fields_of
fits_of bytes fits s =
    let header = AreBytes-drop 12 bytes fits in
    let csrcs = AreBytes-drop (4 * csrc_count bytes) (behind_header bytes) header in
    let extension = AreBytes-drop (extension_len (has_extension bytes) (behind_csrcs bytes)) (behind_csrcs bytes) csrcs in
    record {
      payload_type = omega arith;
      seq = below_16 (drop 2 bytes) (AreBytes-drop 2 bytes fits);
      timestamp = below_32 (drop 4 bytes) (AreBytes-drop 4 bytes fits);
      ssrc = below_32 (drop 8 bytes) (AreBytes-drop 8 bytes fits);
      csrc_count = omega (arith, length-words_of (csrc_count bytes) (behind_header bytes));
      csrcs = words_fit (csrc_count bytes) (behind_header bytes) header;
      extension = extension_fits (has_extension bytes) (behind_csrcs bytes) s.extension_fits csrcs;
      padding = padding_fits (has_padding bytes) (behind_extension bytes) s.padding_fits extension;
    }

pub takes : (bytes : List ℕ) → AreBytes bytes → IsSound bytes → IsPacket (fields_of bytes) bytes
unfolding fields_of
takes bytes fits s =
    let header = AreBytes-drop 12 bytes fits in
    let csrcs = AreBytes-drop (4 * csrc_count bytes) (behind_header bytes) header in
    let f = fields_of bytes in
    let padding = padding_back (has_padding bytes) (behind_extension bytes) s.padding_fits in
    let extension = extension_back (has_extension bytes) (behind_csrcs bytes) s.extension_fits csrcs in
    let words = words_back (csrc_count bytes) (behind_header bytes) s.csrcs_fit header in
    let written : packet_of f ≡ bytes =
    ap (λ (t : List ℕ). fixed_header f ++ (csrc_list f.csrcs ++ (header_extension f.extension ++ t))) padding
    ∙ ap (λ (t : List ℕ). fixed_header f ++ (csrc_list f.csrcs ++ t)) extension
    ∙ ap (λ (t : List ℕ). fixed_header f ++ t) words
    ∙ header_back bytes fits s in
    record { fits = fits_of bytes fits s; written = sym written }

-- the fixed header and the CSRCs are the front of the bytes
pub header_is : (bytes : List ℕ) → AreBytes bytes → IsSound bytes
    → take (12 + 4 * csrc_count bytes) bytes ≡ fixed_header (fields_of bytes) ++ csrc_list (fields_of bytes).csrcs
unfolding fields_of
header_is bytes fits s =
    let f = fields_of bytes in
    let words = words_back (csrc_count bytes) (behind_header bytes) s.csrcs_fit (AreBytes-drop 12 bytes fits) in
    let parts : (fixed_header f ++ csrc_list f.csrcs) ++ behind_csrcs bytes ≡ bytes =
    append_assoc (fixed_header f) (csrc_list f.csrcs) (behind_csrcs bytes)
    ∙ ap (λ (t : List ℕ). fixed_header f ++ t) words ∙ header_back bytes fits s in
    let len : length (fixed_header f ++ csrc_list f.csrcs) ≡ 12 + 4 * csrc_count bytes =
    omega (arith, length-csrc_list f.csrcs, length-words_of (csrc_count bytes) (behind_header bytes)) in
    ap (take (12 + 4 * csrc_count bytes)) (sym parts) ∙ take_at (fixed_header f ++ csrc_list f.csrcs) (behind_csrcs bytes) _ len

-- the payload and the padding are its end
pub body_is : (bytes : List ℕ) → IsSound bytes → behind_extension bytes ≡ (fields_of bytes).payload ++ padding_bytes (fields_of bytes).padding
unfolding fields_of
body_is bytes s = sym (padding_back (has_padding bytes) (behind_extension bytes) s.padding_fits)

-- the extension stands in between
pub extension_is : (bytes body : List ℕ) → AreBytes bytes → IsSound bytes → body ≡ behind_extension bytes
    → take (length (behind_csrcs bytes) - length body) (behind_csrcs bytes) ≡ header_extension (fields_of bytes).extension
unfolding fields_of
extension_is bytes body fits s e =
    let csrcs = AreBytes-drop (4 * csrc_count bytes) (behind_header bytes) (AreBytes-drop 12 bytes fits) in
    let len : length (behind_csrcs bytes) - length body ≡ extension_len (has_extension bytes) (behind_csrcs bytes) =
    omega (arith, ap length e, s.extension_fits, length-drop (extension_len (has_extension bytes) (behind_csrcs bytes)) (behind_csrcs bytes)) in
    ap (λ (n : ℕ). take n (behind_csrcs bytes)) len
    ∙ extension_front (has_extension bytes) (behind_csrcs bytes) s.extension_fits csrcs

pub body_fits : (bytes body : List ℕ) → body ≡ behind_extension bytes → length body ≤ length (behind_csrcs bytes)
body_fits bytes body e = omega (arith, ap length e, length-drop (extension_len (has_extension bytes) (behind_csrcs bytes)) (behind_csrcs bytes))

-- ---- what is written is read again

pub flag_below : (b : Bool) → flag b < 2
flag_below true = omega arith
flag_below false = omega arith

unflag : (b : Bool) (n : ℕ) → n ≡ flag b → eqb n 1 ≡ b
unflag true n e = ap (λ (m : ℕ). eqb m 1) e
unflag false n e = ap (λ (m : ℕ). eqb m 1) e

marked : (b : Bool) (t : ℕ) → t < 128 → leb 128 (128 * flag b + t) ≡ b
marked true t lt = grind arith
marked false t lt = grind arith

-- the parts of a packet that was written, one by one
record Parts (f : Fields) : Type 0 where
  version_is : version (packet_of f) ≡ 2
  padding_there : has_padding (packet_of f) ≡ is_some f.padding
  extension_there : has_extension (packet_of f) ≡ is_some f.extension
  count_is : csrc_count (packet_of f) ≡ length f.csrcs
  behind_csrcs_is : behind_csrcs (packet_of f) ≡ header_extension f.extension ++ (f.payload ++ padding_bytes f.padding)
  extension_len_is : extension_len (has_extension (packet_of f)) (behind_csrcs (packet_of f)) ≡ length (header_extension f.extension)
  behind_extension_is : behind_extension (packet_of f) ≡ f.payload ++ padding_bytes f.padding

parts_of : (f : Fields) → Fits f → Parts f
parts_of f fits =
    let p = flag_below (is_some f.padding) in
    let e = flag_below (is_some f.extension) in
    let n = fits.csrc_count in
    let bytes : List ℕ = packet_of f in
    let r3 : List ℕ = f.payload ++ padding_bytes f.padding in
    let r2 : List ℕ = header_extension f.extension ++ r3 in
    let there : has_extension bytes ≡ is_some f.extension = unflag (is_some f.extension) (first_byte f / 16 % 2) (omega arith) in
    let count : csrc_count bytes ≡ length f.csrcs = omega arith in
    let rest : behind_csrcs bytes ≡ r2 =
    ap (λ (k : ℕ). drop (4 * k) (csrc_list f.csrcs ++ r2)) count ∙ drop_at (csrc_list f.csrcs) r2 (4 * length f.csrcs) (length-csrc_list f.csrcs) in
    let len : extension_len (has_extension bytes) (behind_csrcs bytes) ≡ length (header_extension f.extension) =
    ap (λ (b : Bool). extension_len b (behind_csrcs bytes)) there ∙ ap (extension_len (is_some f.extension)) rest
    ∙ extension_len_again f.extension r3 fits.extension in
    record {
      version_is = omega arith;
      padding_there = unflag (is_some f.padding) (first_byte f / 32 % 2) (omega arith);
      extension_there = there;
      count_is = count;
      behind_csrcs_is = rest;
      extension_len_is = len;
      behind_extension_is = ap (λ (k : ℕ). drop k (behind_csrcs bytes)) len ∙ ap (drop (length (header_extension f.extension))) rest
          ∙ drop_at (header_extension f.extension) r3 (length (header_extension f.extension)) refl;
    }

pub sound_again : (f : Fields) → Fits f → IsSound (packet_of f)
sound_again f fits =
    let parts = parts_of f fits in
    let r3 : List ℕ = f.payload ++ padding_bytes f.padding in
    let r2 : List ℕ = header_extension f.extension ++ r3 in
    record {
      whole_header = omega arith;
      version_is = parts.version_is;
      csrcs_fit = omega (arith, parts.count_is, length-append (csrc_list f.csrcs) r2, length-csrc_list f.csrcs);
      extension_fits = omega (arith, parts.extension_len_is, ap length parts.behind_csrcs_is, length-append (header_extension f.extension) r3);
      padding_fits = ap (λ (b : Bool). is_bad_padding b (behind_extension (packet_of f))) parts.padding_there
          ∙ ap (is_bad_padding (is_some f.padding)) parts.behind_extension_is ∙ padding_good f.payload f.padding;
    }

made : Bool → ℕ → ℕ → ℕ → ℕ → List ℕ → Option (ℕ × List ℕ) → List ℕ → Option (List ℕ) → Fields
made m p s t r c e l d = record { marker = m; payload_type = p; seq = s; timestamp = t; ssrc = r; csrcs = c; extension = e; payload = l; padding = d }

same_made : (m m' : Bool) (p p' s s' t t' r r' : ℕ) (c c' : List ℕ) (e e' : Option (ℕ × List ℕ)) (l l' : List ℕ) (d d' : Option (List ℕ))
    → m ≡ m' → p ≡ p' → s ≡ s' → t ≡ t' → r ≡ r' → c ≡ c' → e ≡ e' → l ≡ l' → d ≡ d' → made m p s t r c e l d ≡ made m' p' s' t' r' c' e' l' d'
same_made m m' p p' s s' t t' r r' c c' e e' l l' d d' e0 e1 e2 e3 e4 e5 e6 e7 e8 = cc

same_fields : (a b : Fields) → a.marker ≡ b.marker → a.payload_type ≡ b.payload_type → a.seq ≡ b.seq → a.timestamp ≡ b.timestamp → a.ssrc ≡ b.ssrc
    → a.csrcs ≡ b.csrcs → a.extension ≡ b.extension → a.payload ≡ b.payload → a.padding ≡ b.padding → a ≡ b
unfolding made
same_fields a b e0 e1 e2 e3 e4 e5 e6 e7 e8 = same_made _ _ _ _ _ _ _ _ _ _ _ _ _ _ _ _ _ _ e0 e1 e2 e3 e4 e5 e6 e7 e8

pub again : (f : Fields) → Fits f → fields_of (packet_of f) ≡ f
unfolding fields_of
again f fits =
    let parts = parts_of f fits in
    let bytes : List ℕ = packet_of f in
    let r3 : List ℕ = f.payload ++ padding_bytes f.padding in
    let r2 : List ℕ = header_extension f.extension ++ r3 in
    let r1 : List ℕ = csrc_list f.csrcs ++ r2 in
    same_fields (fields_of bytes) f
    (marked f.marker f.payload_type fits.payload_type)
    (omega (arith, fits.payload_type, flag_below f.marker))
    (again_2 f.seq (big_bytes 4 f.timestamp ++ (big_bytes 4 f.ssrc ++ r1)) fits.seq)
    (again_4 f.timestamp (big_bytes 4 f.ssrc ++ r1) fits.timestamp)
    (again_4 f.ssrc r1 fits.ssrc)
    (ap (λ (k : ℕ). words_of k r1) parts.count_is ∙ words_again f.csrcs r2 fits.csrcs)
    (ap (λ (b : Bool). extension_at b (behind_csrcs bytes)) parts.extension_there ∙ ap (extension_at (is_some f.extension)) parts.behind_csrcs_is ∙ extension_again f.extension r3 fits.extension)
    (ap (λ (b : Bool). without_padding b (behind_extension bytes)) parts.padding_there ∙ ap (without_padding (is_some f.padding)) parts.behind_extension_is ∙ payload_again f.payload f.padding)
    (ap (λ (b : Bool). padding_at b (behind_extension bytes)) parts.padding_there ∙ ap (padding_at (is_some f.padding)) parts.behind_extension_is ∙ padding_again f.payload f.padding)

-- ---- both together

pub parses_from_packet : (f : Fields) (bytes : List ℕ) → IsPacket f bytes → Parses bytes
parses_from_packet f bytes p = subst (λ (b : List ℕ). Parses b) (sym p.written) (parses_from_sound (packet_of f) (sound_again f p.fits))

pub fields_from_packet : (f : Fields) (bytes : List ℕ) → IsPacket f bytes → fields_of bytes ≡ f
fields_from_packet f bytes p = ap fields_of p.written ∙ again f p.fits

-- ---- what a reader gives that answers the fields, or the fault

pub found_of : (bytes : List ℕ) (r : Result Fields RtpFault) → AreBytes bytes → IfOk r (λ f. f ≡ fields_of bytes) → result_err r ≡ fault_of bytes → IfOk r (λ f. IsPacket f bytes)
found_of bytes (Ok f) fits same fault = subst (λ (g : Fields). IsPacket g bytes) (sym same) (takes bytes fits (IsSound-from_parses bytes (sym fault)))
found_of bytes (Err e) fits same fault = tt

pub only_of : (bytes : List ℕ) (r : Result Fields RtpFault) → IfOk r (λ f. f ≡ fields_of bytes) → result_err r ≡ fault_of bytes → (f : Fields) → IsPacket f bytes → r ≡ Ok f
only_of bytes (Ok g) same fault f p = ap Ok (same ∙ fields_from_packet f bytes p)
only_of bytes (Err e) same fault f p = absurd (let none = parses_from_packet f bytes p in cc)
