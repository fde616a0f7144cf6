-- How the frames of a stream, their rest and its break behave as the stream grows.
use Rattle.std.proofs.Common.{◌≡◌, ◌≤◌, ◌<◌, ℕ, zero, suc, ◌+◌, List, [], ◌∷◌, ◌++◌, length, take, drop, Bool, true, false, cond, nat_le, ◌&&◌, refl, sym, ap, ◌∙◌, subst, inl, inr, arith, ◌⊎◌}
use Rattle.std.proofs.Math.Seq.{drop-append_seam}
use Rattle.std.proofs.lemmas.Bool.Decides.{nat_tests}
use Rattle.std.proofs.lemmas.List.{length-append, length-drop, take-append-le, drop-append-le}
use Rattle.byteorder.specs.Numbers.{little_from-append}
use Rattle.channel_frames.specs.Frames.{max_payload, told_length, begins_with_frame, begins_too_long, frames_within, rest_within, frames, rest_of, is_broken, new_frames}

-- the payload at the front, and what stands behind its frame
abbrev pub first_of : List ℕ → List ℕ
first_of s = take (told_length s) (drop 4 s)

abbrev pub behind : List ℕ → List ℕ
behind s = drop (4 + told_length s) s

pub true_or_false : (b : Bool) → (b ≡ true) ⊎ (b ≡ false)
true_or_false true = inl refl
true_or_false false = inr refl

chosen : {A : Type 0} (b : Bool) (x y : A) → b ≡ true → cond b x y ≡ x
chosen b x y h = rw h refl

other : {A : Type 0} (b : Bool) (x y : A) → b ≡ false → cond b x y ≡ y
other b x y h = rw h refl

-- ---- what the test for a whole frame says

three_tests : (a b c d e f : ℕ) → nat_le a b && nat_le c d && nat_le e f ≡ true → (a ≤ b) × (c ≤ d) × (e ≤ f)
three_tests a b c d e f h = grind (arith, nat_tests)

tests_three : (a b c d e f : ℕ) → a ≤ b → c ≤ d → e ≤ f → nat_le a b && nat_le c d && nat_le e f ≡ true
tests_three a b c d e f h i j = grind (arith, nat_tests)

pub whole_frame : (s : List ℕ) → begins_with_frame s ≡ true → (4 ≤ length s) × (told_length s ≤ max_payload) × (4 + told_length s ≤ length s)
whole_frame s h = three_tests 4 (length s) (told_length s) max_payload (4 + told_length s) (length s) h

pub begins_frame : (s : List ℕ) → 4 ≤ length s → told_length s ≤ max_payload → 4 + told_length s ≤ length s → begins_with_frame s ≡ true
begins_frame s h i j = tests_three 4 (length s) (told_length s) max_payload (4 + told_length s) (length s) h i j

-- no whole frame stands in fewer than four bytes
pub short-begins : (s : List ℕ) → length s < 4 → begins_with_frame s ≡ false
short-begins s h = elim (true_or_false (begins_with_frame s)) [
  | inl t ↦ let w = whole_frame s t in absurd (omega (arith, w.0))
  | inr f ↦ f
]

-- the rest behind a frame is shorter
pub length-behind : (s : List ℕ) → begins_with_frame s ≡ true → length (behind s) + (4 + told_length s) ≡ length s
length-behind s h = let w = whole_frame s h in omega (arith, w.2, length-drop (4 + told_length s) s)

behind-within : (n : ℕ) (s : List ℕ) → begins_with_frame s ≡ true → length s ≤ suc n → length (behind s) ≤ n
behind-within n s t h = omega (arith, length-behind s t)

nonempty : (s : List ℕ) → length s ≤ 0 → begins_with_frame s ≡ false
nonempty s h = short-begins s (omega arith)

-- ---- more places than the stream has bytes change nothing

frames-enough : (n m : ℕ) (s : List ℕ) → length s ≤ n → length s ≤ m → frames_within n s ≡ frames_within m s
unfolding frames_within
frames-enough zero zero s h k = refl
frames-enough zero (suc m) s h k = sym (other (begins_with_frame s) (first_of s ∷ frames_within m (behind s)) [] (nonempty s h))
frames-enough (suc n) zero s h k = other (begins_with_frame s) (first_of s ∷ frames_within n (behind s)) [] (nonempty s k)
frames-enough (suc n) (suc m) s h k = elim (true_or_false (begins_with_frame s)) [
  | inl t ↦
      chosen (begins_with_frame s) (first_of s ∷ frames_within n (behind s)) [] t
      ∙ ap (λ (r : List (List ℕ)). first_of s ∷ r) (frames-enough n m (behind s) (behind-within n s t h) (behind-within m s t k))
      ∙ sym (chosen (begins_with_frame s) (first_of s ∷ frames_within m (behind s)) [] t)
  | inr f ↦
      other (begins_with_frame s) (first_of s ∷ frames_within n (behind s)) [] f
      ∙ sym (other (begins_with_frame s) (first_of s ∷ frames_within m (behind s)) [] f)
]

rest-enough : (n m : ℕ) (s : List ℕ) → length s ≤ n → length s ≤ m → rest_within n s ≡ rest_within m s
unfolding rest_within
rest-enough zero zero s h k = refl
rest-enough zero (suc m) s h k = sym (other (begins_with_frame s) (rest_within m (behind s)) s (nonempty s h))
rest-enough (suc n) zero s h k = other (begins_with_frame s) (rest_within n (behind s)) s (nonempty s k)
rest-enough (suc n) (suc m) s h k = elim (true_or_false (begins_with_frame s)) [
  | inl t ↦
      chosen (begins_with_frame s) (rest_within n (behind s)) s t
      ∙ rest-enough n m (behind s) (behind-within n s t h) (behind-within m s t k)
      ∙ sym (chosen (begins_with_frame s) (rest_within m (behind s)) s t)
  | inr f ↦
      other (begins_with_frame s) (rest_within n (behind s)) s f
      ∙ sym (other (begins_with_frame s) (rest_within m (behind s)) s f)
]

-- ---- the frames and the rest, by whether a whole frame stands at the front

pub frames-more : (s : List ℕ) → begins_with_frame s ≡ true → frames s ≡ first_of s ∷ frames (behind s)
unfolding frames_within
frames-more s t =
    let len : length (behind s) ≤ length s = omega (arith, length-behind s t) in
    frames-enough (length s) (suc (length s)) s (omega arith) (omega arith)
    ∙ chosen (begins_with_frame s) (first_of s ∷ frames_within (length s) (behind s)) [] t
    ∙ ap (λ (r : List (List ℕ)). first_of s ∷ r) (frames-enough (length s) (length (behind s)) (behind s) len (omega arith))

pub frames-none : (s : List ℕ) → begins_with_frame s ≡ false → frames s ≡ []
unfolding frames_within
frames-none s f =
    frames-enough (length s) (suc (length s)) s (omega arith) (omega arith)
    ∙ other (begins_with_frame s) (first_of s ∷ frames_within (length s) (behind s)) [] f

pub rest_of-more : (s : List ℕ) → begins_with_frame s ≡ true → rest_of s ≡ rest_of (behind s)
unfolding rest_within
rest_of-more s t =
    let len : length (behind s) ≤ length s = omega (arith, length-behind s t) in
    rest-enough (length s) (suc (length s)) s (omega arith) (omega arith)
    ∙ chosen (begins_with_frame s) (rest_within (length s) (behind s)) s t
    ∙ rest-enough (length s) (length (behind s)) (behind s) len (omega arith)

pub rest_of-none : (s : List ℕ) → begins_with_frame s ≡ false → rest_of s ≡ s
unfolding rest_within
rest_of-none s f =
    rest-enough (length s) (suc (length s)) s (omega arith) (omega arith)
    ∙ other (begins_with_frame s) (rest_within (length s) (behind s)) s f

-- ---- what holds where no whole frame stands at the front, and in front of what it holds for, holds everywhere

along_within : (P : List ℕ → Type 0) → ((s : List ℕ) → begins_with_frame s ≡ false → P s)
    → ((s : List ℕ) → begins_with_frame s ≡ true → P (behind s) → P s) → (n : ℕ) (s : List ℕ) → length s ≤ n → P s
along_within P none more zero s h = none s (nonempty s h)
along_within P none more (suc n) s h = elim (true_or_false (begins_with_frame s)) [
  | inl t ↦ more s t (along_within P none more n (behind s) (behind-within n s t h))
  | inr f ↦ none s f
]

pub along_frames : (P : List ℕ → Type 0) → ((s : List ℕ) → begins_with_frame s ≡ false → P s)
    → ((s : List ℕ) → begins_with_frame s ≡ true → P (behind s) → P s) → (s : List ℕ) → P s
along_frames P none more s = along_within P none more (length s) s (omega arith)

pub no_frame-rest_of : (stream : List ℕ) → begins_with_frame (rest_of stream) ≡ false
no_frame-rest_of stream =
    let P : List ℕ → Type 0 = λ s. begins_with_frame (rest_of s) ≡ false in
    along_frames P
    (λ s f. ap (λ (r : List ℕ). begins_with_frame r) (rest_of-none s f) ∙ f)
    (λ s t h. ap (λ (r : List ℕ). begins_with_frame r) (rest_of-more s t) ∙ h)
    stream

-- ---- a frame at the front stays there as the stream grows

pub told-append : (s bytes : List ℕ) → 4 ≤ length s → told_length (s ++ bytes) ≡ told_length s
told-append s bytes h = little_from-append 4 s bytes h

pub begins-append : (s bytes : List ℕ) → begins_with_frame s ≡ true → begins_with_frame (s ++ bytes) ≡ true
begins-append s bytes t =
    let w = whole_frame s t in
    let told = told-append s bytes w.0 in
    begins_frame (s ++ bytes)
    (omega (arith, w.0, length-append s bytes))
    (subst (λ (n : ℕ). n ≤ max_payload) (sym told) w.1)
    (subst (λ (n : ℕ). 4 + n ≤ length (s ++ bytes)) (sym told) (omega (arith, w.2, length-append s bytes)))

pub first_of-append : (s bytes : List ℕ) → begins_with_frame s ≡ true → first_of (s ++ bytes) ≡ first_of s
first_of-append s bytes t =
    let w = whole_frame s t in
    ap (λ (n : ℕ). take n (drop 4 (s ++ bytes))) (told-append s bytes w.0)
    ∙ ap (λ (r : List ℕ). take (told_length s) r) (drop-append-le 4 s bytes w.0)
    ∙ take-append-le (told_length s) (drop 4 s) bytes (omega (arith, w.2, length-drop 4 s))

pub behind-append : (s bytes : List ℕ) → begins_with_frame s ≡ true → behind (s ++ bytes) ≡ behind s ++ bytes
behind-append s bytes t =
    let w = whole_frame s t in
    ap (λ (n : ℕ). drop (4 + n) (s ++ bytes)) (told-append s bytes w.0)
    ∙ drop-append-le (4 + told_length s) s bytes w.2

-- ---- a cut doesn't matter

pub frames-append : (stream bytes : List ℕ) → frames (stream ++ bytes) ≡ frames stream ++ frames (rest_of stream ++ bytes)
frames-append stream bytes =
    let P : List ℕ → Type 0 = λ s. frames (s ++ bytes) ≡ frames s ++ frames (rest_of s ++ bytes) in
    along_frames P
    (λ s f.
    ap (λ (r : List ℕ). frames (r ++ bytes)) (sym (rest_of-none s f))
    ∙ ap (λ (r : List (List ℕ)). r ++ frames (rest_of s ++ bytes)) (sym (frames-none s f)))
    (λ s t h.
    frames-more (s ++ bytes) (begins-append s bytes t)
    ∙ ap (λ (p : List ℕ). p ∷ frames (behind (s ++ bytes))) (first_of-append s bytes t)
    ∙ ap (λ (r : List ℕ). first_of s ∷ frames r) (behind-append s bytes t)
    ∙ ap (λ (r : List (List ℕ)). first_of s ∷ r) h
    ∙ ap (λ (r : List ℕ). (first_of s ∷ frames (behind s)) ++ frames (r ++ bytes)) (sym (rest_of-more s t))
    ∙ ap (λ (r : List (List ℕ)). r ++ frames (rest_of s ++ bytes)) (sym (frames-more s t)))
    stream

pub rest_of-append : (stream bytes : List ℕ) → rest_of (stream ++ bytes) ≡ rest_of (rest_of stream ++ bytes)
rest_of-append stream bytes =
    let P : List ℕ → Type 0 = λ s. rest_of (s ++ bytes) ≡ rest_of (rest_of s ++ bytes) in
    along_frames P
    (λ s f. ap (λ (r : List ℕ). rest_of (r ++ bytes)) (sym (rest_of-none s f)))
    (λ s t h.
    rest_of-more (s ++ bytes) (begins-append s bytes t)
    ∙ ap (λ (r : List ℕ). rest_of r) (behind-append s bytes t)
    ∙ h
    ∙ ap (λ (r : List ℕ). rest_of (r ++ bytes)) (sym (rest_of-more s t)))
    stream

pub is_broken-append : (stream bytes : List ℕ) → is_broken (stream ++ bytes) ≡ is_broken (rest_of stream ++ bytes)
is_broken-append stream bytes = ap (λ (r : List ℕ). begins_too_long r) (rest_of-append stream bytes)

pub new_frames-rest : (stream bytes : List ℕ) → new_frames stream bytes ≡ frames (rest_of stream ++ bytes)
new_frames-rest stream bytes =
    ap (λ (r : List (List ℕ)). drop (length (frames stream)) r) (frames-append stream bytes)
    ∙ drop-append_seam (frames stream) (frames (rest_of stream ++ bytes))
