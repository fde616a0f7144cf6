-- Where the break of a stream stands, and how it stays as the stream grows.
use Rattle.std.proofs.Common.{◌≡◌, ◌≤◌, ℕ, suc, ◌+◌, List, [], ◌∷◌, ◌++◌, length, true, false, nat_le, nat_lt, ◌&&◌, sym, ap, ◌∙◌, subst, inl, inr, arith, flat_map}
use Rattle.std.proofs.lemmas.Bool.Decides.{nat_tests}
use Rattle.std.proofs.lemmas.List.{append-nil, length-append}
use Rattle.std.proofs.lemmas.List.Concat.{flat_map-cons, flat_map-append}
use Rattle.channel_frames.specs.Frames.{max_payload, frame, told_length, begins_with_frame, begins_too_long, frames, rest_of, is_broken, break_place}
use Rattle.channel_frames.specs.Laws.{StaysBroken}
use Rattle.channel_frames.proofs.FramesLemmas.{first_of, behind, true_or_false, whole_frame, short-begins, length-behind, frames-more, frames-none, rest_of-more, rest_of-none, no_frame-rest_of, along_frames, told-append, frames-append, rest_of-append}
use Rattle.channel_frames.proofs.SplitLemmas.{length-first_of, length-frame}

-- how many bytes some frames take
abbrev pub size_of : List (List ℕ) → ℕ
size_of payloads = length (flat_map frame payloads)

pub size-cons : (payload : List ℕ) (payloads : List (List ℕ)) → size_of (payload ∷ payloads) ≡ 4 + length payload + size_of payloads
size-cons payload payloads =
    ap (λ (r : List ℕ). length r) (flat_map-cons frame payload payloads)
    ∙ length-append (frame payload) (flat_map frame payloads)
    ∙ ap (λ (n : ℕ). n + size_of payloads) (length-frame payload)

pub size-append : (payloads others : List (List ℕ)) → size_of (payloads ++ others) ≡ size_of payloads + size_of others
size-append payloads others =
    ap (λ (r : List ℕ). length r) (flat_map-append frame payloads others)
    ∙ length-append (flat_map frame payloads) (flat_map frame others)

-- ---- the rest

pub frames-rest_of : (stream : List ℕ) → frames (rest_of stream) ≡ []
frames-rest_of stream = frames-none (rest_of stream) (no_frame-rest_of stream)

pub rest_of-rest_of : (stream : List ℕ) → rest_of (rest_of stream) ≡ rest_of stream
rest_of-rest_of stream = rest_of-none (rest_of stream) (no_frame-rest_of stream)

sizes : (first told left frames rest stream : ℕ) → first ≡ told → left + (4 + told) ≡ stream → frames + rest ≡ left → 4 + first + frames + rest ≡ stream
sizes first told left frames rest stream e h k = omega arith

pub length-parts : (stream : List ℕ) → size_of (frames stream) + length (rest_of stream) ≡ length stream
length-parts stream =
    let P : List ℕ → Type 0 = λ s. size_of (frames s) + length (rest_of s) ≡ length s in
    along_frames P
    (λ s f.
    let none : size_of (frames s) ≡ 0 = ap (λ (r : List (List ℕ)). size_of r) (frames-none s f) in
    let all : length (rest_of s) ≡ length s = ap (λ (r : List ℕ). length r) (rest_of-none s f) in
    omega (arith, none, all))
    (λ s t h.
    ap (λ (r : List (List ℕ)). size_of r + length (rest_of s)) (frames-more s t)
    ∙ ap (λ (n : ℕ). n + length (rest_of s)) (size-cons (first_of s) (frames (behind s)))
    ∙ ap (λ (r : List ℕ). 4 + length (first_of s) + size_of (frames (behind s)) + length r) (rest_of-more s t)
    ∙ sizes (length (first_of s)) (told_length s) (length (behind s)) (size_of (frames (behind s))) (length (rest_of (behind s))) (length s)
    (length-first_of s t) (length-behind s t) h)
    stream

no_cons : (p : List ℕ) (ps : List (List ℕ)) → p ∷ ps ≡ [] → ⊥
no_cons p ps h = cc

pub begins-no_frames : (s : List ℕ) → frames s ≡ [] → begins_with_frame s ≡ false
begins-no_frames s h = elim (true_or_false (begins_with_frame s)) [
  | inl t ↦ absurd (no_cons (first_of s) (frames (behind s)) (sym (frames-more s t) ∙ h))
  | inr f ↦ f
]

pub rest_of-no_frames : (s : List ℕ) → frames s ≡ [] → rest_of s ≡ s
rest_of-no_frames s h = rest_of-none s (begins-no_frames s h)

pub empty-begins : begins_with_frame [] ≡ false
empty-begins = short-begins [] (omega arith)

-- ---- the break

pub break_place-append : (first later : List ℕ) → break_place (first ++ later) ≡ break_place first + break_place (rest_of first ++ later)
break_place-append first later =
    ap (λ (r : List (List ℕ)). size_of r) (frames-append first later) ∙ size-append (frames first) (frames (rest_of first ++ later))

two_tests : (a b c d : ℕ) → nat_le a b && nat_lt c d ≡ true → (a ≤ b) × (suc c ≤ d)
two_tests a b c d h = grind (arith, nat_tests)

tests_two : (a b c d : ℕ) → a ≤ b → suc c ≤ d → nat_le a b && nat_lt c d ≡ true
tests_two a b c d h k = grind (arith, nat_tests)

-- a length over the limit at the front stays there, and is no frame
pub too_long-append : (s later : List ℕ) → begins_too_long s ≡ true → (begins_too_long (s ++ later) ≡ true) × (told_length (s ++ later) ≡ told_length s)
too_long-append s later h =
    let w = two_tests 4 (length s) max_payload (told_length s) h in
    let told = told-append s later w.0 in (
      tests_two 4 (length (s ++ later)) max_payload (told_length (s ++ later))
          (omega (arith, w.0, length-append s later))
          (subst (λ (n : ℕ). suc max_payload ≤ n) (sym told) w.1),
      told,
    )

pub too_long-no_frame : (s : List ℕ) → begins_too_long s ≡ true → begins_with_frame s ≡ false
too_long-no_frame s h = elim (true_or_false (begins_with_frame s)) [
  | inl t ↦
      let w = whole_frame s t in
      let over = two_tests 4 (length s) max_payload (told_length s) h in
      absurd (omega (arith, w.1, over.1))
  | inr f ↦ f
]

pub stays_broken : (stream later : List ℕ) → is_broken stream ≡ true → StaysBroken stream later
stays_broken stream later h =
    let s : List ℕ = rest_of stream ++ later in
    let over = too_long-append (rest_of stream) later h in
    let f : begins_with_frame (rest_of stream ++ later) ≡ false = too_long-no_frame (rest_of stream ++ later) over.0 in
    let same : frames (stream ++ later) ≡ frames stream =
    frames-append stream later
    ∙ ap (λ (r : List (List ℕ)). frames stream ++ r) (frames-none (rest_of stream ++ later) f)
    ∙ append-nil (frames stream) in
    let left : rest_of (stream ++ later) ≡ rest_of stream ++ later = rest_of-append stream later ∙ rest_of-none (rest_of stream ++ later) f in
    record {
      payloads = same;
      broken = ap (λ (r : List ℕ). begins_too_long r) left ∙ over.0;
      place = ap (λ (r : List (List ℕ)). size_of r) same;
      told = ap (λ (r : List ℕ). told_length r) left ∙ over.1;
    }
