-- The payload and the padding: what is read is written so, and what is written is read again.
use Rattle.std.proofs.Common.{◌≡◌, ℕ, ◌+◌, ◌-◌, ◌^◌, ◌<◌, ◌≤◌, Bool, true, false, eqb, ltb, List, [], ◌∷◌, ◌++◌, length, get_or, take, drop, Option, Some, None, refl, sym, ap, ◌∙◌, arith, length-append}
use Rattle.std.specs.Prelude.{is_some, IfSome, ◌||◌}
use Rattle.std.proofs.lemmas.List.{append_assoc, append-nil, length-take, length-drop, take_at, drop_at, take_all, take_more, get_or-drop, get_or_push, take-append-drop}
use Rattle.rtp_packet.specs.Packet.{AreBytes, padding_bytes}
use Rattle.rtp_packet.specs.Fault.{padding_len, is_bad_padding}
use Rattle.rtp_packet.specs.Reading.{without_padding, padding_at}

pub is_some-padding_at : (there : Bool) (bytes : List ℕ) → is_some (padding_at there bytes) ≡ there
is_some-padding_at true bytes = refl
is_some-padding_at false bytes = refl

neither : (n m : ℕ) → (eqb n 0 || ltb m n) ≡ false → (0 < n) × (n ≤ m)
neither n m e = grind arith

good : (n m : ℕ) → 0 < n → n ≤ m → (eqb n 0 || ltb m n) ≡ false
good n m some fits = grind arith

pub padding_within : (bytes : List ℕ) → is_bad_padding true bytes ≡ false → (0 < padding_len true bytes) × (padding_len true bytes ≤ length bytes)
padding_within bytes e = neither (padding_len true bytes) (length bytes) e

-- the last bytes, with the very last one apart
ending : (bytes : List ℕ) (n : ℕ) → 0 < n → n ≤ length bytes → get_or bytes (length bytes - 1) 0 ≡ n
    → take (n - 1) (drop (length bytes - n) bytes) ++ (length (take (n - 1) (drop (length bytes - n) bytes)) + 1) ∷ [] ≡ drop (length bytes - n) bytes
ending bytes n some fits last =
    let tail : List ℕ = drop (length bytes - n) bytes in
    let len : length tail ≡ n = omega (arith, length-drop (length bytes - n) bytes) in
    let filler_len : length (take (n - 1) tail) + 1 ≡ n = omega (arith, length-take (n - 1) tail) in
    let place : length bytes - n + (n - 1) ≡ length bytes - 1 = omega arith in
    let last_is : get_or tail (n - 1) 0 ≡ n = rw (get_or-drop, place) last in
    let one : n - 1 + 1 ≡ n = omega arith in
    let whole : take (n - 1 + 1) tail ≡ tail = rw one (take_all n tail (omega arith)) in
    ap (λ (x : ℕ). take (n - 1) tail ++ x ∷ []) (filler_len ∙ sym last_is)
    ∙ sym (take_more tail (n - 1) 0 (omega arith)) ∙ whole

pub padding_back : (there : Bool) (bytes : List ℕ) → is_bad_padding there bytes ≡ false
    → without_padding there bytes ++ padding_bytes (padding_at there bytes) ≡ bytes
padding_back false bytes e = append-nil (take (length bytes - 0) bytes) ∙ take_all (length bytes - 0) bytes (omega arith)
padding_back true bytes e =
    let n : ℕ = padding_len true bytes in
    let within = padding_within bytes e in
    ap (λ (t : List ℕ). take (length bytes - n) bytes ++ t) (ending bytes n within.0 within.1 refl)
    ∙ take-append-drop (length bytes - n) bytes

pub padding_fits : (there : Bool) (bytes : List ℕ) → is_bad_padding there bytes ≡ false → AreBytes bytes
    → IfSome (padding_at there bytes) (λ filler. length filler + 1 < 2 ^ 8)
padding_fits false bytes e fits = tt
padding_fits true bytes e fits =
    let within = padding_within bytes e in
    omega (arith, length-take (padding_len true bytes - 1) (drop (length bytes - padding_len true bytes) bytes), fits (length bytes - 1))

pub padding_len_again : (payload : List ℕ) (padding : Option (List ℕ)) → padding_len (is_some padding) (payload ++ padding_bytes padding) ≡ length (padding_bytes padding)
padding_len_again payload None = refl
padding_len_again payload (Some filler) =
    let last : List ℕ = (length filler + 1) ∷ [] in
    let parts : payload ++ (filler ++ last) ≡ (payload ++ filler) ++ last = sym (append_assoc payload filler last) in
    let place : length (payload ++ filler) ≡ length ((payload ++ filler) ++ last) - 1 = omega (arith, length-append (payload ++ filler) last) in
    rw parts (get_or_push (payload ++ filler) (length filler + 1) 0 (length ((payload ++ filler) ++ last) - 1) place ∙ sym (length-append filler last))

pub padding_good : (payload : List ℕ) (padding : Option (List ℕ)) → is_bad_padding (is_some padding) (payload ++ padding_bytes padding) ≡ false
padding_good payload None = refl
padding_good payload (Some filler) =
    let len = padding_len_again payload (Some filler) in
    let parts = length-append filler ((length filler + 1) ∷ []) in
    let all = length-append payload (padding_bytes (Some filler)) in
    good (padding_len true (payload ++ padding_bytes (Some filler))) (length (payload ++ padding_bytes (Some filler))) (omega (arith, len, parts)) (omega (arith, len, all))

front_len : (payload tail : List ℕ) (n : ℕ) → n ≡ length tail → length payload ≡ length (payload ++ tail) - n
front_len payload tail n e = omega (arith, length-append payload tail)

pub payload_again : (payload : List ℕ) (padding : Option (List ℕ)) → without_padding (is_some padding) (payload ++ padding_bytes padding) ≡ payload
payload_again payload padding =
    take_at payload (padding_bytes padding) _ (front_len payload (padding_bytes padding) _ (padding_len_again payload padding))

pub padding_again : (payload : List ℕ) (padding : Option (List ℕ)) → padding_at (is_some padding) (payload ++ padding_bytes padding) ≡ padding
padding_again payload None = refl
padding_again payload (Some filler) =
    let whole : List ℕ = payload ++ padding_bytes (Some filler) in
    let len = padding_len_again payload (Some filler) in
    let tail : drop (length whole - padding_len true whole) whole ≡ filler ++ (length filler + 1) ∷ [] =
    drop_at payload (padding_bytes (Some filler)) _ (front_len payload (padding_bytes (Some filler)) _ len) in
    let count : length filler ≡ padding_len true whole - 1 = omega (arith, len, length-append filler ((length filler + 1) ∷ [])) in
    ap Some (ap (take (padding_len true whole - 1)) tail ∙ take_at filler ((length filler + 1) ∷ []) _ count)
