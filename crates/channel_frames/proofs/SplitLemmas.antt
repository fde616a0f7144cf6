-- The frames of a stream and the rest behind them are the only way to split it, and what was written reads back.
use Rattle.std.proofs.Common.{◌≡◌, ◌≤◌, ◌<◌, ℕ, suc, ◌+◌, ◌*◌, ◌^◌, ◌/◌, ◌%◌, List, [], ◌∷◌, ◌++◌, length, take, drop, slice_index, true, refl, sym, ap, ◌∙◌, subst, arith}
use Rattle.std.proofs.Math.Seq.{drop-append_seam, take-append_seam}
use Rattle.std.proofs.lemmas.List.{append_assoc, append-nil, length-append, length-drop, length-take-le, take-append-drop, drop-drop, get_or-drop}
use Rattle.std.proofs.lemmas.List.Concat.{flat_map-cons}
use Rattle.std.proofs.lemmas.List.Elements.{All-cons}
use Rattle.std.specs.List.{All, flat_map}
use Rattle.byteorder.specs.Endian.{little_bytes}
use Rattle.byteorder.specs.Numbers.{little_number-reads_back, length-bytes_low_first}
use Rattle.channel_frames.specs.Frames.{max_payload, frame, told_length, begins_with_frame, frames, rest_of, BeginsWith, Splits}
use Rattle.channel_frames.specs.Laws.{ReadsBack}
use Rattle.channel_frames.proofs.FramesLemmas.{first_of, behind, whole_frame, begins_frame, frames-more, frames-none, rest_of-more, rest_of-none, along_frames}

abbrev pub AreBytes : List ℕ → Type 0
AreBytes s = (place : ℕ) → slice_index s place < 256

-- ---- four bytes, from the number that they tell

lowest : (a b c d : ℕ) → a < 256 → b < 256 → c < 256 → d < 256 → (a + 256 * (b + 256 * (c + 256 * d))) % 256 ≡ a
lowest a b c d ha hb hc hd = omega arith

second : (a b c d : ℕ) → a < 256 → b < 256 → c < 256 → d < 256 → (a + 256 * (b + 256 * (c + 256 * d))) / 256 % 256 ≡ b
second a b c d ha hb hc hd = omega arith

third : (a b c d : ℕ) → a < 256 → b < 256 → c < 256 → d < 256 → (a + 256 * (b + 256 * (c + 256 * d))) / 65536 % 256 ≡ c
third a b c d ha hb hc hd = omega arith

highest : (a b c d : ℕ) → a < 256 → b < 256 → c < 256 → d < 256 → (a + 256 * (b + 256 * (c + 256 * d))) / 16777216 % 256 ≡ d
highest a b c d ha hb hc hd = omega arith

four_bytes : (s : List ℕ) → AreBytes s → 4 ≤ length s → little_bytes 4 (told_length s) ≡ take 4 s
four_bytes [] are h = absurd (omega arith)
four_bytes (a ∷ []) are h = absurd (omega arith)
four_bytes (a ∷ b ∷ []) are h = absurd (omega arith)
four_bytes (a ∷ b ∷ c ∷ []) are h = absurd (omega arith)
four_bytes (a ∷ b ∷ c ∷ d ∷ s) are h =
    let ha : a < 256 = are 0 in
    let hb : b < 256 = are 1 in
    let hc : c < 256 = are 2 in
    let hd : d < 256 = are 3 in
    let n : ℕ = a + 256 * (b + 256 * (c + 256 * d)) in
    let told : told_length (a ∷ b ∷ c ∷ d ∷ s) ≡ n = omega arith in
    ap (λ (m : ℕ). little_bytes 4 m) told
    ∙ ap (λ (x : ℕ). x ∷ (n / 256 % 256 ∷ n / 65536 % 256 ∷ n / 16777216 % 256 ∷ [])) (lowest a b c d ha hb hc hd)
    ∙ ap (λ (x : ℕ). a ∷ (x ∷ n / 65536 % 256 ∷ n / 16777216 % 256 ∷ [])) (second a b c d ha hb hc hd)
    ∙ ap (λ (x : ℕ). a ∷ (b ∷ x ∷ n / 16777216 % 256 ∷ [])) (third a b c d ha hb hc hd)
    ∙ ap (λ (x : ℕ). a ∷ (b ∷ c ∷ x ∷ [])) (highest a b c d ha hb hc hd)

-- ---- the frames split the stream

pub length-first_of : (s : List ℕ) → begins_with_frame s ≡ true → length (first_of s) ≡ told_length s
length-first_of s t =
    let w = whole_frame s t in
    length-take-le (told_length s) (drop 4 s) (omega (arith, w.2, length-drop 4 s))

first_frame : (s : List ℕ) → AreBytes s → begins_with_frame s ≡ true → s ≡ frame (first_of s) ++ behind s
first_frame s are t =
    let w = whole_frame s t in
    let header : take 4 s ≡ little_bytes 4 (length (first_of s)) =
    sym (four_bytes s are w.0) ∙ ap (λ (n : ℕ). little_bytes 4 n) (sym (length-first_of s t)) in
    let body : drop 4 s ≡ first_of s ++ behind s =
    sym (take-append-drop (told_length s) (drop 4 s)) ∙ ap (λ (r : List ℕ). first_of s ++ r) (drop-drop (told_length s) 4 s) in
    sym (take-append-drop 4 s)
    ∙ ap (λ (r : List ℕ). r ++ drop 4 s) header
    ∙ ap (λ (r : List ℕ). little_bytes 4 (length (first_of s)) ++ r) body
    ∙ sym (append_assoc (little_bytes 4 (length (first_of s))) (first_of s) (behind s))

bytes_behind : (n : ℕ) (s : List ℕ) → AreBytes s → AreBytes (drop n s)
bytes_behind n s are place = subst (λ (x : ℕ). x < 256) (sym (get_or-drop n s place 0)) (are (n + place))

pub splits-frames : (stream : List ℕ) → AreBytes stream → Splits stream (frames stream) (rest_of stream)
splits-frames stream are =
    let P : List ℕ → Type 0 = λ s. AreBytes s → Splits s (frames s) (rest_of s) in
    along_frames P
    (λ s f are.
    subst (λ (ps : List (List ℕ)). Splits s ps (rest_of s)) (sym (frames-none s f))
    (subst (λ (r : List ℕ). Splits s [] r) (sym (rest_of-none s f))
    record { whole = refl; each = λ k d h. absurd (omega arith); most = f }))
    (λ s t ih are.
    let later = ih (bytes_behind (4 + told_length s) s are) in
    let w = whole_frame s t in
    let fit : length (first_of s) ≤ max_payload = omega (arith, w.1, length-first_of s t) in
    subst (λ (ps : List (List ℕ)). Splits s ps (rest_of s)) (sym (frames-more s t))
    (subst (λ (r : List ℕ). Splits s (first_of s ∷ frames (behind s)) r) (sym (rest_of-more s t))
    record {
      whole =
          first_frame s are t
          ∙ ap (λ (r : List ℕ). frame (first_of s) ++ r) later.whole
          ∙ sym (append_assoc (frame (first_of s)) (flat_map frame (frames (behind s))) (rest_of (behind s)))
          ∙ ap (λ (r : List ℕ). r ++ rest_of (behind s)) (sym (flat_map-cons frame (first_of s) (frames (behind s))));
      each = All-cons (λ payload. length payload ≤ max_payload) (first_of s) (frames (behind s)) fit later.each;
      most = later.most;
    }))
    stream are

-- ---- and no other payloads and rest do

limit-fits : max_payload < 256 ^ 4
limit-fits = omega arith

told-frame : (payload later : List ℕ) → length payload ≤ max_payload → told_length (frame payload ++ later) ≡ length payload
told-frame payload later h =
    ap (λ (r : List ℕ). told_length r) (append_assoc (little_bytes 4 (length payload)) payload later)
    ∙ little_number-reads_back 4 (length payload) (payload ++ later) (omega (arith, limit-fits))

pub length-frame : (payload : List ℕ) → length (frame payload) ≡ 4 + length payload
length-frame payload =
    length-append (little_bytes 4 (length payload)) payload
    ∙ ap (λ (n : ℕ). n + length payload) (length-bytes_low_first 0 4 (length payload))

begins-frame : (payload later : List ℕ) → length payload ≤ max_payload → begins_with_frame (frame payload ++ later) ≡ true
begins-frame payload later h =
    let told = told-frame payload later h in
    let size : length (frame payload ++ later) ≡ 4 + length payload + length later =
    length-append (frame payload) later ∙ ap (λ (n : ℕ). n + length later) (length-frame payload) in
    begins_frame (frame payload ++ later)
    (omega (arith, size))
    (subst (λ (n : ℕ). n ≤ max_payload) (sym told) h)
    (subst (λ (n : ℕ). 4 + n ≤ length (frame payload ++ later)) (sym told) (omega (arith, size)))

behind-frame : (payload later : List ℕ) → length payload ≤ max_payload → behind (frame payload ++ later) ≡ later
behind-frame payload later h =
    ap (λ (n : ℕ). drop (4 + n) (frame payload ++ later)) (told-frame payload later h)
    ∙ ap (λ (n : ℕ). drop n (frame payload ++ later)) (sym (length-frame payload))
    ∙ drop-append_seam (frame payload) later

first_of-frame : (payload later : List ℕ) → length payload ≤ max_payload → first_of (frame payload ++ later) ≡ payload
first_of-frame payload later h =
    let header : List ℕ = little_bytes 4 (length payload) in
    let body : drop 4 (frame payload ++ later) ≡ payload ++ later =
    ap (λ (r : List ℕ). drop 4 r) (append_assoc header payload later)
    ∙ ap (λ (n : ℕ). drop n (header ++ (payload ++ later))) (sym (length-bytes_low_first 0 4 (length payload)))
    ∙ drop-append_seam header (payload ++ later) in
    ap (λ (n : ℕ). take n (drop 4 (frame payload ++ later))) (told-frame payload later h)
    ∙ ap (λ (r : List ℕ). take (length payload) r) body
    ∙ take-append_seam payload later

-- the first of the written frames, and the others behind it
first_written : (payload : List ℕ) (payloads : List (List ℕ)) (later : List ℕ)
    → flat_map frame (payload ∷ payloads) ++ later ≡ frame payload ++ (flat_map frame payloads ++ later)
first_written payload payloads later =
    ap (λ (r : List ℕ). r ++ later) (flat_map-cons frame payload payloads) ∙ append_assoc (frame payload) (flat_map frame payloads) later

-- ---- any frames at the start of a stream are its first

frames_back : (payloads : List (List ℕ)) (later : List ℕ) → All (λ payload. length payload ≤ max_payload) payloads
    → frames (flat_map frame payloads ++ later) ≡ payloads ++ frames later
frames_back [] later each = refl
frames_back (payload ∷ payloads) later each =
    let fit : length payload ≤ max_payload = each 0 payload (omega arith) in
    let fits_later : All (λ p. length p ≤ max_payload) payloads = λ k d h. each (suc k) d (omega arith) in
    let others : List ℕ = flat_map frame payloads ++ later in
    ap (λ (r : List ℕ). frames r) (first_written payload payloads later)
    ∙ frames-more (frame payload ++ others) (begins-frame payload others fit)
    ∙ ap (λ (p : List ℕ). p ∷ frames (behind (frame payload ++ others))) (first_of-frame payload others fit)
    ∙ ap (λ (r : List ℕ). payload ∷ frames r) (behind-frame payload others fit)
    ∙ ap (λ (r : List (List ℕ)). payload ∷ r) (frames_back payloads later fits_later)

rest_back : (payloads : List (List ℕ)) (later : List ℕ) → All (λ payload. length payload ≤ max_payload) payloads
    → rest_of (flat_map frame payloads ++ later) ≡ rest_of later
rest_back [] later each = refl
rest_back (payload ∷ payloads) later each =
    let fit : length payload ≤ max_payload = each 0 payload (omega arith) in
    let fits_later : All (λ p. length p ≤ max_payload) payloads = λ k d h. each (suc k) d (omega arith) in
    let others : List ℕ = flat_map frame payloads ++ later in
    ap (λ (r : List ℕ). rest_of r) (first_written payload payloads later)
    ∙ rest_of-more (frame payload ++ others) (begins-frame payload others fit)
    ∙ ap (λ (r : List ℕ). rest_of r) (behind-frame payload others fit)
    ∙ rest_back payloads later fits_later

pub reads_back : (payloads : List (List ℕ)) (later : List ℕ) → All (λ payload. length payload ≤ max_payload) payloads → ReadsBack payloads later
reads_back payloads later each = record { frames_back = frames_back payloads later each; rest_back = rest_back payloads later each }

pub at_most : (stream : List ℕ) (payloads : List (List ℕ)) (later : List ℕ) → BeginsWith stream payloads later
    → (length payloads ≤ length (frames stream)) × (payloads ≡ take (length payloads) (frames stream))
at_most stream payloads later w =
    let all : frames stream ≡ payloads ++ frames later = ap (λ (r : List ℕ). frames r) w.whole ∙ frames_back payloads later w.each in (
      let size : length (frames stream) ≡ length payloads + length (frames later) =
          ap (λ (r : List (List ℕ)). length r) all ∙ length-append payloads (frames later) in
          omega (arith, size),
      sym (ap (λ (r : List (List ℕ)). take (length payloads) r) all ∙ take-append_seam payloads (frames later)),
    )

pub splits-only : (stream : List ℕ) (payloads : List (List ℕ)) (rest : List ℕ) → Splits stream payloads rest
    → (payloads ≡ frames stream) × (rest ≡ rest_of stream)
splits-only stream payloads rest w = (
  sym (
      ap (λ (r : List ℕ). frames r) w.whole
      ∙ frames_back payloads rest w.each
      ∙ ap (λ (r : List (List ℕ)). payloads ++ r) (frames-none rest w.most)
      ∙ append-nil payloads),
  sym (ap (λ (r : List ℕ). rest_of r) w.whole ∙ rest_back payloads rest w.each ∙ rest_of-none rest w.most),
)
