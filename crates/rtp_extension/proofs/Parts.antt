-- The parts of a packet that is written: its header, its extension and what follows.
use Rattle.std.proofs.Common.{◌≡◌, ℕ, ◌+◌, ◌-◌, ◌*◌, ◌/◌, ◌≤◌, Bool, List, ◌∷◌, ◌++◌, length, Option, Some, None, refl, sym, ap, subst, ◌∙◌, arith, length-append, append_assoc}
use Rattle.std.specs.Prelude.{is_some, IfSome}
use Rattle.byteorder.specs.Endian.{big_bytes}
use Rattle.rtp_packet.specs.Packet.{Fields, flag, packet_of, fixed_header, second_byte, csrc_list, header_extension, padding_bytes, IsExtension}
use Rattle.rtp_extension.specs.declared.form.Form.{Form}
use Rattle.rtp_extension.specs.Elements.{form_of}
use Rattle.rtp_extension.specs.Rewriting.{words_with, extension_with, with_ids}
use Rattle.rtp_extension.specs.Viewing.{Wrote}
use Rattle.rtp_extension.proofs.Writes.{wrote_then, wrote_before}

-- ---- the extension

pub extension_there : (extension : Option (ℕ × List ℕ)) (profile : ℕ) (words : List ℕ) → extension ≡ Some (profile, words)
    → IfSome extension (λ e. IsExtension e.0 e.1) → IsExtension profile words
extension_there extension profile words e whole = subst (λ (o : Option (ℕ × List ℕ)). IfSome o (λ e. IsExtension e.0 e.1)) e whole

pub header_extension-len : (extension : Option (ℕ × List ℕ)) (profile : ℕ) (words : List ℕ) → extension ≡ Some (profile, words)
    → length (header_extension extension) ≡ 4 + length words
header_extension-len extension profile words e =
    omega (arith, ap (λ (o : Option (ℕ × List ℕ)). length (header_extension o)) e)

-- its front is written when its words are
pub extension_written : (ids : ℕ → Option ℕ) (extension : Option (ℕ × List ℕ)) (profile : ℕ) (words : List ℕ) (form : Form) (count : ℕ) (old mid new : List ℕ) (at back end : ℕ)
    → extension ≡ Some (profile, words) → Some form ≡ form_of profile → at + length (header_extension extension) ≤ length old
    → Wrote (words_with ids (Some form) words) old mid (at + 4) end → count ≡ (end - at - 4) / 4 → Wrote (big_bytes 2 profile ++ big_bytes 2 count) mid new at back
    → Wrote (header_extension (extension_with ids extension)) old new at end
extension_written ids extension profile words form count old mid new at back end e f room v counted w =
    let kept_words : List ℕ = words_with ids (Some form) words in
    let head : List ℕ = big_bytes 2 profile ++ big_bytes 2 count in
    let head_len : length head ≡ 4 = refl in
    let whole : Wrote (head ++ kept_words) old new at end =
    wrote_before head kept_words old mid new at (at + 4) back end (omega (arith, room, header_extension-len extension profile words e))
    (omega (arith, w.end_is, head_len)) (omega (arith, head_len)) v w in
    let counts : count ≡ length kept_words / 4 = omega (arith, counted, v.end_is) in
    let bytes : head ++ kept_words ≡ header_extension (extension_with ids extension) =
    ap (λ (n : ℕ). (big_bytes 2 profile ++ big_bytes 2 n) ++ kept_words) counts
    ∙ ap (λ (o : Option Form). header_extension (Some (profile, words_with ids o words))) f
    ∙ ap (λ (o : Option (ℕ × List ℕ)). header_extension (extension_with ids o)) (sym e) in
    subst (λ (xs : List ℕ). Wrote xs old new at end) bytes whole

-- ---- the packet

is_some-extension_with : (ids : ℕ → Option ℕ) (extension : Option (ℕ × List ℕ)) → is_some (extension_with ids extension) ≡ is_some extension
is_some-extension_with ids None = refl
is_some-extension_with ids (Some e) = refl

-- the fixed header stays: the extension is there or not, as before
fixed_header-with_ids : (ids : ℕ → Option ℕ) (f : Fields) → fixed_header (with_ids ids f) ≡ fixed_header f
fixed_header-with_ids ids f =
    ap (λ (there : Bool). (128 + 32 * flag (is_some f.padding) + 16 * flag there + length f.csrcs) ∷ second_byte f ∷ big_bytes 2 f.seq ++ big_bytes 4 f.timestamp ++ big_bytes 4 f.ssrc)
    (is_some-extension_with ids f.extension)

packet_len : (f : Fields) → length (packet_of f) ≡ length (fixed_header f ++ csrc_list f.csrcs) + length (header_extension f.extension) + length (f.payload ++ padding_bytes f.padding)
packet_len f =
    let behind : List ℕ = f.payload ++ padding_bytes f.padding in
    omega (
      arith,
      ap length (append_assoc (fixed_header f) (csrc_list f.csrcs) (header_extension f.extension ++ behind)),
      length-append (fixed_header f ++ csrc_list f.csrcs) (header_extension f.extension ++ behind),
      length-append (header_extension f.extension) behind,
    )

pub body_fits : (f : Fields) (header body old m1 m2 : List ℕ) (a1 a2 : ℕ) → header ≡ fixed_header f ++ csrc_list f.csrcs → body ≡ f.payload ++ padding_bytes f.padding
    → length (packet_of f) ≤ length old → Wrote header old m1 0 a1 → a2 ≤ a1 + length (header_extension f.extension) → a2 + length body ≤ length old
body_fits f header body old m1 m2 a1 a2 h b room v short =
    omega (arith, ap length h, ap length b, packet_len f, room, v.end_is, short)

-- what is written ends no later than the packet did
pub packet_no_longer : (f : Fields) (header body old m1 m2 new : List ℕ) (a1 a2 end : ℕ) → header ≡ fixed_header f ++ csrc_list f.csrcs → body ≡ f.payload ++ padding_bytes f.padding
    → Wrote header old m1 0 a1 → a2 ≤ a1 + length (header_extension f.extension) → Wrote body m2 new a2 end → end ≤ length (packet_of f)
packet_no_longer f header body old m1 m2 new a1 a2 end h b v short w =
    omega (arith, ap length h, ap length b, packet_len f, v.end_is, short, w.end_is)

pub packet_written : (ids : ℕ → Option ℕ) (f : Fields) (header body old m1 m2 new : List ℕ) (a1 a2 end : ℕ)
    → header ≡ fixed_header f ++ csrc_list f.csrcs → body ≡ f.payload ++ padding_bytes f.padding → length (packet_of f) ≤ length old
    → Wrote header old m1 0 a1 → Wrote (header_extension (extension_with ids f.extension)) m1 m2 a1 a2 → a2 ≤ a1 + length (header_extension f.extension) → Wrote body m2 new a2 end
    → Wrote (packet_of (with_ids ids f)) old new 0 end
packet_written ids f header body old m1 m2 new a1 a2 end h b room v x short w =
    let extension : List ℕ = header_extension (extension_with ids f.extension) in
    let header_len : length header + length (header_extension f.extension) ≤ length old = omega (arith, ap length h, packet_len f, room) in
    let front : Wrote (header ++ extension) old m2 0 a2 = wrote_then header extension old m1 m2 0 a1 a2 (omega arith) v x in
    let whole : Wrote ((header ++ extension) ++ body) old new 0 end =
    wrote_then (header ++ extension) body old m2 new 0 a2 end (omega (arith, front.end_is, short, v.end_is, header_len)) front w in
    let bytes : (header ++ extension) ++ body ≡ packet_of (with_ids ids f) =
    ap (λ (xs : List ℕ). (xs ++ extension) ++ body) h
    ∙ ap (λ (xs : List ℕ). ((fixed_header f ++ csrc_list f.csrcs) ++ extension) ++ xs) b
    ∙ append_assoc (fixed_header f ++ csrc_list f.csrcs) extension (f.payload ++ padding_bytes f.padding)
    ∙ append_assoc (fixed_header f) (csrc_list f.csrcs) (extension ++ (f.payload ++ padding_bytes f.padding))
    ∙ ap (λ (xs : List ℕ). xs ++ (csrc_list f.csrcs ++ (extension ++ (f.payload ++ padding_bytes f.padding)))) (sym (fixed_header-with_ids ids f)) in
    subst (λ (xs : List ℕ). Wrote xs old new 0 end) bytes whole
