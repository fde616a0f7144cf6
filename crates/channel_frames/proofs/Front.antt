-- What the readers find at the front of some bytes, over plain lists.
use Rattle.std.proofs.Common.{◌≡◌, ◌≤◌, ◌<◌, ℕ, ◌+◌, ◌-◌, List, ◌++◌, length, take, drop, true, false, nat_le, nat_lt, ◌&&◌, sym, ap, ◌∙◌, subst, inl, inr, arith, suc, [], ◌∷◌, refl}
use Rattle.std.proofs.Math.Seq.{drop-append-add}
use Rattle.std.proofs.lemmas.Bool.{cases_lt}
use Rattle.std.proofs.lemmas.Bool.Decides.{nat_tests}
use Rattle.std.proofs.lemmas.List.{length-append, length-drop, take_all}
use Rattle.channel_frames.specs.Frames.{max_payload, told_length, begins_with_frame, begins_too_long, frames, rest_of, is_broken, new_frames}
use Rattle.channel_frames.proofs.FramesLemmas.{behind, true_or_false, whole_frame, begins_frame, short-begins, length-behind, frames-more, frames-none, rest_of-more, rest_of-none, no_frame-rest_of, new_frames-rest, told-append}
use Rattle.channel_frames.proofs.BreakLemmas.{size_of, size-cons, length-parts}

-- a slice from a place on
pub from_place : (place : ℕ) (s : List ℕ) → take (length s - place) (drop place s) ≡ drop place s
from_place place s = take_all (length s - place) (drop place s) (omega (arith, length-drop place s))

-- ---- whether a stream breaks

pub next-rest : (s : List ℕ) (n : ℕ) (stream : List ℕ) → begins_with_frame s ≡ true → n ≡ told_length s → rest_of s ≡ rest_of stream
    → rest_of (take (length s - (4 + n)) (drop (4 + n) s)) ≡ rest_of stream
next-rest s n stream t e h =
    ap (λ (r : List ℕ). rest_of r) (from_place (4 + n) s)
    ∙ ap (λ (m : ℕ). rest_of (drop (4 + m) s)) e
    ∙ sym (rest_of-more s t)
    ∙ h

pub last-rest : (s stream : List ℕ) → begins_with_frame s ≡ false → rest_of s ≡ rest_of stream → begins_too_long s ≡ is_broken stream
last-rest s stream f h = ap (λ (r : List ℕ). begins_too_long r) (sym (rest_of-none s f) ∙ h)

no_length : (a b c d : ℕ) → b < a → nat_le a b && nat_lt c d ≡ false
no_length a b c d h = grind (arith, nat_tests)

within_limit : (a b c d : ℕ) → d ≤ c → nat_le a b && nat_lt c d ≡ false
within_limit a b c d h = elim (true_or_false (nat_le a b)) [
  | inl t ↦ grind (arith, nat_tests)
  | inr f ↦ grind (arith, nat_tests)
]

over_limit : (a b c d : ℕ) → a ≤ b → c < d → nat_le a b && nat_lt c d ≡ true
over_limit a b c d h k = grind (arith, nat_tests)

whole-rest : (s : List ℕ) → begins_with_frame s ≡ false → is_broken s ≡ begins_too_long s
whole-rest s f = ap (λ (r : List ℕ). begins_too_long r) (rest_of-none s f)

-- fewer than four bytes tell no length
pub unbroken-short : (rest bytes : List ℕ) → length rest + length bytes < 4 → false ≡ is_broken (rest ++ bytes)
unbroken-short rest bytes h =
    let s : List ℕ = rest ++ bytes in
    let len : length (rest ++ bytes) < 4 = omega (arith, length-append rest bytes) in
    sym (whole-rest (rest ++ bytes) (short-begins (rest ++ bytes) len)
    ∙ no_length 4 (length (rest ++ bytes)) max_payload (told_length (rest ++ bytes)) len)

pub broken-over : (rest bytes : List ℕ) (n : ℕ) → 4 ≤ length rest + length bytes → n ≡ told_length (rest ++ bytes) → max_payload < n
    → true ≡ is_broken (rest ++ bytes)
broken-over rest bytes n h e over =
    let s : List ℕ = rest ++ bytes in
    let told : max_payload < told_length s = subst (λ (m : ℕ). max_payload < m) e over in
    let f : begins_with_frame s ≡ false = elim (true_or_false (begins_with_frame s)) [
      | inl t ↦ let w = whole_frame s t in absurd (omega (arith, w.1, told))
      | inr f ↦ f
    ] in
    sym (whole-rest s f ∙ over_limit 4 (length s) max_payload (told_length s) (omega (arith, length-append rest bytes)) told)

pub unbroken-partial : (rest bytes : List ℕ) (n : ℕ) → n ≡ told_length (rest ++ bytes) → n ≤ max_payload → length rest + length bytes < 4 + n
    → false ≡ is_broken (rest ++ bytes)
unbroken-partial rest bytes n e limit short =
    let s : List ℕ = rest ++ bytes in
    let f : begins_with_frame s ≡ false = elim (true_or_false (begins_with_frame s)) [
      | inl t ↦
          let w = whole_frame s t in
          let more : 4 + n ≤ length s = subst (λ (m : ℕ). 4 + m ≤ length s) (sym e) w.2 in
          absurd (omega (arith, more, length-append rest bytes))
      | inr f ↦ f
    ] in
    sym (whole-rest s f ∙ within_limit 4 (length s) max_payload (told_length s) (subst (λ (m : ℕ). m ≤ max_payload) e limit))

-- the frame that a rest begins ends behind the rest
pub ends_behind : (rest bytes : List ℕ) (n : ℕ) → begins_with_frame rest ≡ false → n ≡ told_length (rest ++ bytes) → n ≤ max_payload → length rest < 4 + n
ends_behind rest bytes n f e limit = elim (cases_lt (length rest) (4 + n)) [
  | inl less ↦ less
  | inr more ↦
      let same : n ≡ told_length rest = e ∙ told-append rest bytes (omega arith) in
      let t : begins_with_frame rest ≡ true =
      begins_frame rest (omega arith) (subst (λ (m : ℕ). m ≤ max_payload) same limit) (subst (λ (m : ℕ). 4 + m ≤ length rest) same more) in
      absurd (let clash : true ≡ false = sym t ∙ f in cc)
]

pub broken-behind : (rest bytes : List ℕ) (n k : ℕ) → begins_with_frame rest ≡ false → n ≡ told_length (rest ++ bytes) → n ≤ max_payload
    → 4 + n ≤ length rest + length bytes → k ≡ 4 + n - length rest
    → is_broken (take (length bytes - k) (drop k bytes)) ≡ is_broken (rest ++ bytes)
broken-behind rest bytes n k f e limit fits place =
    let s : List ℕ = rest ++ bytes in
    let t : begins_with_frame s ≡ true =
    begins_frame s (omega (arith, length-append rest bytes)) (subst (λ (m : ℕ). m ≤ max_payload) e limit)
    (subst (λ (m : ℕ). 4 + m ≤ length s) e (omega (arith, length-append rest bytes))) in
    let before = ends_behind rest bytes n f e limit in
    let sum : 4 + n ≡ length rest + k = omega arith in
    let left : behind s ≡ drop k bytes =
    ap (λ (m : ℕ). drop (4 + m) s) (sym e) ∙ ap (λ (m : ℕ). drop m s) sum ∙ drop-append-add rest bytes k in
    ap (λ (r : List ℕ). is_broken r) (from_place k bytes ∙ sym left)
    ∙ ap (λ (r : List ℕ). begins_too_long r) (sym (rest_of-more s t))

-- ---- how many frames there may be

count-size : (payloads : List (List ℕ)) → length payloads ≤ size_of payloads
count-size [] = omega arith
count-size (payload ∷ payloads) = omega (arith, size-cons payload payloads, count-size payloads)

count-frames : (s : List ℕ) → length (frames s) ≤ length s
count-frames s = omega (arith, count-size (frames s), length-parts s)

counts : (frames behind n rest bytes count : ℕ) → count ≡ suc frames → frames ≤ behind → behind + (4 + n) ≡ rest + bytes → rest < 4 + n → count ≤ bytes
counts frames behind n rest bytes count e h k before = omega arith

-- where no whole frame stands at the front, the first takes one of the bytes that come behind, and each other takes four
count-later : (rest bytes : List ℕ) → begins_with_frame rest ≡ false → length (frames (rest ++ bytes)) ≤ length bytes
count-later rest bytes f = elim (true_or_false (begins_with_frame (rest ++ bytes))) [
  | inl t ↦
      let w = whole_frame (rest ++ bytes) t in
      counts (length (frames (behind (rest ++ bytes)))) (length (behind (rest ++ bytes))) (told_length (rest ++ bytes)) (length rest) (length bytes)
      (length (frames (rest ++ bytes)))
      (ap (λ (l : List (List ℕ)). length l) (frames-more (rest ++ bytes) t))
      (count-frames (behind (rest ++ bytes)))
      (length-behind (rest ++ bytes) t ∙ length-append rest bytes)
      (ends_behind rest bytes (told_length (rest ++ bytes)) f refl w.1)
  | inr none ↦
      let e : length (frames (rest ++ bytes)) ≡ 0 = ap (λ (l : List (List ℕ)). length l) (frames-none (rest ++ bytes) none) in
      omega (arith, e)
]

pub new_frames-at_most : (stream bytes : List ℕ) → length (new_frames stream bytes) ≤ length bytes
new_frames-at_most stream bytes =
    subst (λ (l : List (List ℕ)). length l ≤ length bytes) (sym (new_frames-rest stream bytes))
    (count-later (rest_of stream) bytes (no_frame-rest_of stream))
