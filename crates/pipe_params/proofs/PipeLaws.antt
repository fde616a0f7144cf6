-- The laws of what goes through a pipe.
use Rattle.std.proofs.Common.{◌≡◌, ℕ, ◌+◌, ◌<◌, zero, suc, List, [], ◌∷◌, ◌++◌, length, map, filter, Bool, true, false, not, refl, ap, sym, ◌∙◌, arith, subst}
use Rattle.std.specs.List.{range_with_len, filter_map, All}
use Rattle.std.specs.List.Sorted.{IsStrictlyIncreasing}
use Rattle.std.proofs.lemmas.List.Elements.{All-map, All-weaker, filter_passes}
use Rattle.std.proofs.lemmas.List.{append-nil}
use Rattle.std.proofs.lemmas.List.FromFn.{length-range_with_len, get_or-range_with_len}
use Rattle.rtp_params.specs.declared.params.Params.{Params}
use Rattle.rtp_params.specs.Names.{is_rtx}
use Rattle.pipe_params.specs.Pipe.{codec_stays, pipe_codec, pipe_encoding, pipe_encodings, pipe_params, ssrcs_drawn, ssrcs_of}

own-ssrcs : (with_rtx : Bool) (count : ℕ) (ssrcs : List ℕ) → map (λ e. e.ssrc) (map (pipe_encoding with_rtx count) ssrcs) ≡ ssrcs
own-ssrcs with_rtx count [] = refl
own-ssrcs with_rtx count (x ∷ xs) = ap (λ rest. x ∷ rest) (own-ssrcs with_rtx count xs)

no-rtx : (count : ℕ) (ssrcs : List ℕ) → filter_map (λ e. e.rtx) (map (pipe_encoding false count) ssrcs) ≡ []
no-rtx count [] = refl
no-rtx count (x ∷ xs) = no-rtx count xs

rtx-ssrcs : (count first n : ℕ) → filter_map (λ e. e.rtx) (map (pipe_encoding true count) (range_with_len first n)) ≡ range_with_len (first + count) n
rtx-ssrcs count first zero = refl
rtx-ssrcs count first (suc n) =
    let same : first + 1 + count ≡ first + count + 1 = omega arith in
    ap (λ rest. (first + count) ∷ rest) (rtx-ssrcs count (first + 1) n ∙ ap (λ a. range_with_len a n) same)

range-append : (first n m : ℕ) → range_with_len first n ++ range_with_len (first + n) m ≡ range_with_len first (n + m)
range-append first zero m = let front : first + 0 ≡ first = omega arith in let sum : 0 + m ≡ m = omega arith in ap (λ a. range_with_len a m) front ∙ ap (range_with_len first) (sym sum)
range-append first (suc n) m =
    let behind : first + suc n ≡ first + 1 + n = omega arith in
    let sum : suc n + m ≡ suc (n + m) = omega arith in
    ap (λ rest. first ∷ rest) (ap (λ a. range_with_len (first + 1) n ++ range_with_len a m) behind ∙ range-append (first + 1) n m) ∙ ap (range_with_len first) (sym sum)

joined : {ws xs ys zs : List ℕ} → ws ≡ xs → ys ≡ zs → ws ++ ys ≡ xs ++ zs
joined front rest = cc

row_of : (with_rtx : Bool) (first count : ℕ) → ssrcs_of (pipe_encodings with_rtx first count) ≡ range_with_len first (ssrcs_drawn with_rtx count)
row_of false first count =
    let row = range_with_len first count in
    joined (own-ssrcs false count row) (no-rtx count row) ∙ append-nil row
row_of true first count =
    let row = range_with_len first count in
    joined (own-ssrcs true count row) (rtx-ssrcs count first count) ∙ range-append first count count

pub pipe_row : (consumable : Params) (with_rtx : Bool) (first : ℕ) → ssrcs_of (pipe_params consumable with_rtx first).encodings ≡ range_with_len first (ssrcs_drawn with_rtx (length consumable.encodings))
unfolding pipe_params
pipe_row consumable with_rtx first = row_of with_rtx first (length consumable.encodings)

IsStrictlyIncreasing-range : (first n : ℕ) → IsStrictlyIncreasing (range_with_len first n)
IsStrictlyIncreasing-range first n k within =
    let long : k + 1 < n = omega (arith, length-range_with_len first n) in
    let short : k < n = omega arith in
    omega (arith, get_or-range_with_len first n k 0 short, get_or-range_with_len first n (k + 1) 0 long)

pub pipe_rises : (consumable : Params) (with_rtx : Bool) (first : ℕ) → IsStrictlyIncreasing (ssrcs_of (pipe_params consumable with_rtx first).encodings)
pipe_rises consumable with_rtx first =
    subst IsStrictlyIncreasing (sym (pipe_row consumable with_rtx first)) (IsStrictlyIncreasing-range first (ssrcs_drawn with_rtx (length consumable.encodings)))

is_no_rtx : (is : Bool) → not is ≡ true → is ≡ false
is_no_rtx true e = sym e
is_no_rtx false e = refl

pub pipe_has_no_rtx : (consumable : Params) (first : ℕ) → All (λ codec. is_rtx codec ≡ false) (pipe_params consumable false first).codecs
unfolding pipe_params
pipe_has_no_rtx consumable first =
    let kept = filter (codec_stays false) consumable.codecs in
    All-map (λ codec. is_rtx codec ≡ false) (pipe_codec false) kept
    (All-weaker (λ codec. codec_stays false codec ≡ true) (λ codec. is_rtx codec ≡ false) (λ codec stays. is_no_rtx (is_rtx codec) stays) kept (filter_passes (codec_stays false) consumable.codecs))
