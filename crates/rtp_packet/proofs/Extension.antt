-- The header extension: what is read is written so, and what is written is read again.
use Rattle.std.proofs.Common.{◌≡◌, ℕ, ◌+◌, ◌-◌, ◌*◌, ◌/◌, ◌≤◌, Bool, true, false, List, [], ◌∷◌, ◌++◌, length, take, drop, Option, Some, None, refl, sym, ap, ◌∙◌, arith, length-append}
use Rattle.std.specs.Prelude.{is_some, IfSome}
use Rattle.std.proofs.lemmas.List.{length-take, length-drop, take_at, take_rest, drop-drop, take-append-drop}
use Rattle.byteorder.specs.Endian.{big_bytes, big_number}
use Rattle.rtp_packet.specs.Packet.{AreBytes, IsExtension, header_extension}
use Rattle.rtp_packet.specs.Fault.{extension_len}
use Rattle.rtp_packet.specs.Reading.{extension_at}
use Rattle.rtp_packet.proofs.Numbers.{again_2, back_2, AreBytes-drop}

pub is_some-extension_at : (there : Bool) (bytes : List ℕ) → is_some (extension_at there bytes) ≡ there
is_some-extension_at true bytes = refl
is_some-extension_at false bytes = refl

words_len : (bytes : List ℕ) (count : ℕ) → 4 * count ≤ length bytes → length (take (4 * count) bytes) / 4 ≡ count
words_len bytes count long = omega (arith, length-take (4 * count) bytes)

pub extension_fits : (there : Bool) (bytes : List ℕ) → extension_len there bytes ≤ length bytes → AreBytes bytes → IfSome (extension_at there bytes) (λ e. IsExtension e.0 e.1)
extension_fits false bytes long fits = tt
extension_fits true [] long fits = absurd (omega arith)
extension_fits true (a ∷ []) long fits = absurd (omega arith)
extension_fits true (a ∷ b ∷ []) long fits = absurd (omega arith)
extension_fits true (a ∷ b ∷ c ∷ []) long fits = absurd (omega arith)
extension_fits true (a ∷ b ∷ c ∷ d ∷ rest) long fits = record {
  profile_fits = omega (arith, fits 0, fits 1);
  whole = omega (arith, length-take (4 * big_number 2 (c ∷ d ∷ rest)) rest);
  count_fits = omega (arith, length-take (4 * big_number 2 (c ∷ d ∷ rest)) rest, fits 2, fits 3);
}

pub extension_back : (there : Bool) (bytes : List ℕ) → extension_len there bytes ≤ length bytes → AreBytes bytes
    → header_extension (extension_at there bytes) ++ drop (extension_len there bytes) bytes ≡ bytes
extension_back false bytes long fits = refl
extension_back true [] long fits = absurd (omega arith)
extension_back true (a ∷ []) long fits = absurd (omega arith)
extension_back true (a ∷ b ∷ []) long fits = absurd (omega arith)
extension_back true (a ∷ b ∷ c ∷ []) long fits = absurd (omega arith)
extension_back true (a ∷ b ∷ c ∷ d ∷ rest) long fits =
    let whole : List ℕ = a ∷ b ∷ c ∷ d ∷ rest in
    let count : ℕ = big_number 2 (c ∷ d ∷ rest) in
    let words : List ℕ = take (4 * count) rest in
    let behind : List ℕ = drop (4 + 4 * count) whole in
    let profile_is : big_bytes 2 (big_number 2 whole) ≡ a ∷ b ∷ [] = back_2 whole (omega arith) fits in
    let count_is : big_bytes 2 (length words / 4) ≡ c ∷ d ∷ [] =
    ap (big_bytes 2) (words_len rest count (omega arith)) ∙ back_2 (c ∷ d ∷ rest) (omega arith) (AreBytes-drop 2 whole fits) in
    ap (λ (x : List ℕ). ((x ++ big_bytes 2 (length words / 4)) ++ words) ++ behind) profile_is
    ∙ ap (λ (x : List ℕ). (((a ∷ b ∷ []) ++ x) ++ words) ++ behind) count_is
    ∙ ap (λ (t : List ℕ). a ∷ b ∷ c ∷ d ∷ (words ++ t)) (sym (drop-drop (4 * count) 4 whole))
    ∙ ap (λ (t : List ℕ). a ∷ b ∷ c ∷ d ∷ t) (take-append-drop (4 * count) rest)

-- the extension is the front of these bytes
pub extension_front : (there : Bool) (bytes : List ℕ) → extension_len there bytes ≤ length bytes → AreBytes bytes
    → take (extension_len there bytes) bytes ≡ header_extension (extension_at there bytes)
extension_front there bytes long fits =
    let extension : List ℕ = header_extension (extension_at there bytes) in
    let behind : List ℕ = drop (extension_len there bytes) bytes in
    let parts : extension ++ behind ≡ bytes = extension_back there bytes long fits in
    let len : length extension ≡ extension_len there bytes =
    omega (arith, ap length parts, length-append extension behind, length-drop (extension_len there bytes) bytes) in
    ap (take (extension_len there bytes)) (sym parts) ∙ take_at extension behind _ len

pub extension_len_again : (e : Option (ℕ × List ℕ)) (rest : List ℕ) → IfSome e (λ e. IsExtension e.0 e.1)
    → extension_len (is_some e) (header_extension e ++ rest) ≡ length (header_extension e)
extension_len_again None rest fits = refl
extension_len_again (Some e) rest fits =
    omega (arith, again_2 (length e.1 / 4) (e.1 ++ rest) fits.count_fits, fits.whole)

pub extension_again : (e : Option (ℕ × List ℕ)) (rest : List ℕ) → IfSome e (λ e. IsExtension e.0 e.1)
    → extension_at (is_some e) (header_extension e ++ rest) ≡ e
extension_again None rest fits = refl
extension_again (Some e) rest fits =
    let profile_is : big_number 2 (header_extension (Some e) ++ rest) ≡ e.0 = again_2 e.0 (big_bytes 2 (length e.1 / 4) ++ (e.1 ++ rest)) fits.profile_fits in
    let count_is : big_number 2 (drop 2 (header_extension (Some e) ++ rest)) ≡ length e.1 / 4 = again_2 (length e.1 / 4) (e.1 ++ rest) fits.count_fits in
    let len_is : length e.1 ≡ 4 * big_number 2 (drop 2 (header_extension (Some e) ++ rest)) = omega (arith, count_is, fits.whole) in
    let words_are : take (4 * big_number 2 (drop 2 (header_extension (Some e) ++ rest))) (e.1 ++ rest) ≡ e.1 = take_at e.1 rest _ len_is in
    ap (λ (x : ℕ). Some (x, take (4 * big_number 2 (drop 2 (header_extension (Some e) ++ rest))) (e.1 ++ rest))) profile_is
    ∙ ap (λ (x : List ℕ). Some (e.0, x)) words_are

-- what the code has left behind the extension
pub behind_words : (there : Bool) (bytes : List ℕ) (number count : ℕ) (behind : List ℕ) → there ≡ true
    → number ≡ big_number 2 (take (length bytes - 2) (drop 2 bytes)) → count ≡ number → behind ≡ drop (4 * count) (take (length bytes - 4) (drop 4 bytes))
    → behind ≡ drop (extension_len there bytes) bytes
behind_words false bytes number count behind t en ec eb = absurd cc
behind_words true bytes number count behind t en ec eb =
    let number_is = en ∙ ap (big_number 2) (take_rest bytes 2) in
    let len : 4 + 4 * count ≡ extension_len true bytes = omega (arith, number_is, ec) in
    eb ∙ ap (drop (4 * count)) (take_rest bytes 4) ∙ drop-drop (4 * count) 4 bytes ∙ ap (λ (n : ℕ). drop n bytes) len
