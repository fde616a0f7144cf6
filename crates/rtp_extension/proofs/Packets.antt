-- The rewritten packet.
use Rattle.std.proofs.Common.{◌≡◌, ℕ, zero, suc, ◌+◌, ◌/◌, ◌≤◌, List, [], ◌∷◌, ◌++◌, length, take, Option, Some, None, refl, ap, subst, arith, length-append}
use Rattle.std.specs.Prelude.{IfSome}
use Rattle.byteorder.specs.Endian.{big_bytes}
use Rattle.rtp_packet.specs.Packet.{Fields, AreBytes, IsPacket, IsExtension, packet_of, fixed_header, csrc_list, header_extension, padding_bytes}
use Rattle.rtp_extension.specs.Elements.{form_of}
use Rattle.rtp_extension.specs.Rewriting.{extension_with, with_ids, kept_of}
use Rattle.rtp_extension.specs.Reading.{elements_of}
use Rattle.rtp_extension.specs.Laws.{AreIds}
use Rattle.rtp_extension.proofs.Grammar.{AreBytes-behind}
use Rattle.rtp_extension.proofs.Kept.{words_len, extension_elements, extension_is}

AreBytes-front : (xs ys : List ℕ) → AreBytes (xs ++ ys) → AreBytes xs
AreBytes-front [] ys fits i = omega arith
AreBytes-front (x ∷ xs) ys fits zero = fits 0
AreBytes-front (x ∷ xs) ys fits (suc i) = AreBytes-front xs ys (λ j. fits (suc j)) i

words_are_bytes : (extension : Option (ℕ × List ℕ)) → AreBytes (header_extension extension) → IfSome extension (λ e. AreBytes e.1)
words_are_bytes None fits = tt
words_are_bytes (Some e) fits = AreBytes-behind (big_bytes 2 e.0 ++ big_bytes 2 (length e.1 / 4)) e.1 fits

-- the words of a packet's extension are bytes of the packet
pub packet_words : (f : Fields) (bytes : List ℕ) → AreBytes bytes → IsPacket f bytes → IfSome f.extension (λ e. AreBytes e.1)
packet_words f bytes fits is =
    let behind : List ℕ = f.payload ++ padding_bytes f.padding in
    let whole : AreBytes (fixed_header f ++ (csrc_list f.csrcs ++ (header_extension f.extension ++ behind))) = subst AreBytes is.written fits in
    words_are_bytes f.extension
    (AreBytes-front (header_extension f.extension) behind
    (AreBytes-behind (csrc_list f.csrcs) (header_extension f.extension ++ behind)
    (AreBytes-behind (fixed_header f) (csrc_list f.csrcs ++ (header_extension f.extension ++ behind)) whole)))

pub is_rewritten : (ids : ℕ → Option ℕ) (f : Fields) (bytes : List ℕ) → AreBytes bytes → IsPacket f bytes → IsPacket (with_ids ids f) (packet_of (with_ids ids f))
is_rewritten ids f bytes fits is = record {
  fits = record {
    payload_type = is.fits.payload_type;
    seq = is.fits.seq;
    timestamp = is.fits.timestamp;
    ssrc = is.fits.ssrc;
    csrc_count = is.fits.csrc_count;
    csrcs = is.fits.csrcs;
    extension = extension_is ids f.extension (packet_words f bytes fits is) is.fits.extension;
    padding = is.fits.padding;
  };
  written = refl;
}

pub rewritten_elements_are : (ids : ℕ → Option ℕ) (f : Fields) (bytes : List ℕ) → AreBytes bytes → AreIds ids → IsPacket f bytes
    → elements_of (with_ids ids f).extension ≡ kept_of ids f.extension
rewritten_elements_are ids f bytes fits are is = extension_elements ids f.extension are (packet_words f bytes fits is)

pub extension_len : (ids : ℕ → Option ℕ) (extension : Option (ℕ × List ℕ)) → IfSome extension (λ e. AreBytes e.1)
    → IfSome extension (λ e. IsExtension e.0 e.1) → length (header_extension (extension_with ids extension)) ≤ length (header_extension extension)
extension_len ids None fits is = omega arith
extension_len ids (Some e) fits is = omega (arith, (words_len ids (form_of e.0) e.1 fits is.whole).0)

parts_len : (a b c d : List ℕ) → length (a ++ (b ++ (c ++ d))) ≡ length a + (length b + (length c + length d))
parts_len a b c d = omega (arith, length-append a (b ++ (c ++ d)), length-append b (c ++ d), length-append c d)

pub rewritten_len : (ids : ℕ → Option ℕ) (f : Fields) (bytes : List ℕ) → AreBytes bytes → IsPacket f bytes → length (packet_of (with_ids ids f)) ≤ length bytes
rewritten_len ids f bytes fits is =
    let behind : List ℕ = f.payload ++ padding_bytes f.padding in
    let e : length bytes ≡ length (fixed_header f ++ (csrc_list f.csrcs ++ (header_extension f.extension ++ behind))) = ap length is.written in
    let new : List ℕ = header_extension (extension_with ids f.extension) in
    let less : length new ≤ length (header_extension f.extension) = extension_len ids f.extension (packet_words f bytes fits is) is.fits.extension in
    omega (arith, e, less, parts_len (fixed_header f) (csrc_list f.csrcs) (header_extension f.extension) behind, parts_len (fixed_header (with_ids ids f)) (csrc_list f.csrcs) new behind)

pub AreBytes-take : (n : ℕ) (xs : List ℕ) → AreBytes xs → AreBytes (take n xs)
AreBytes-take zero xs fits i = omega arith
AreBytes-take (suc n) [] fits i = omega arith
AreBytes-take (suc n) (x ∷ xs) fits zero = fits 0
AreBytes-take (suc n) (x ∷ xs) fits (suc i) = AreBytes-take n xs (λ j. fits (suc j)) i
