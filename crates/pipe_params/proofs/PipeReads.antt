-- What goes through a pipe is such as reading can give.
use Rattle.std.proofs.Common.{◌≡◌, ℕ, suc, ◌+◌, ◌*◌, ◌^◌, ◌<◌, ◌≤◌, List, [], ◌∷◌, length, map, filter, Bool, true, false, not, cond, zero, refl, inl, inr, sym, subst, arith}
use Rattle.std.specs.List.{range_with_len}
use Rattle.std.proofs.lemmas.Bool.{cases_Bool, ne_eqb, or_from}
use Rattle.rtp_params.specs.declared.codec.Codec.{Codec}
use Rattle.rtp_params.specs.declared.params.Params.{Params}
use Rattle.rtp_params.specs.Encodings.{is_own}
use Rattle.rtp_params.specs.Readable.{AreApart, Each, IsCodec, IsEncoding, IsParams}
use Rattle.pipe_params.specs.Pipe.{codec_stays, is_of_one_transport, pipe_codec, pipe_encoding, pipe_params}

Each-filter : {A : Type 0} (P : A → Type 0) (test : A → Bool) (xs : List A) → Each P xs → Each P (filter test xs)
Each-filter P test [] each = tt
Each-filter P test (x ∷ xs) each =
    let rest = Each-filter P test xs each.1 in
    elim (cases_Bool (test x)) [
      | inl e ↦ subst (λ b. Each P (cond b (x ∷ filter test xs) (filter test xs))) (sym e) (each.0, rest)
      | inr e ↦ subst (λ b. Each P (cond b (x ∷ filter test xs) (filter test xs))) (sym e) rest
    ]

-- other feedback changes nothing of what reading asks for
codecs_read : (place : _) (with_rtx : Bool) (codecs : List Codec) → Each (IsCodec place) codecs → Each (IsCodec place) (map (pipe_codec with_rtx) codecs)
codecs_read place with_rtx [] each = tt
codecs_read place with_rtx (codec ∷ codecs) each = (
  record {
    named = each.0.named;
    clock_rate = each.0.clock_rate;
    channels = each.0.channels;
    payload_type = each.0.payload_type;
    parameters = each.0.parameters;
    ascending = each.0.ascending;
  },
  codecs_read place with_rtx codecs each.1,
)

encoding_reads : (with_rtx : Bool) (count ssrc : ℕ) → ssrc + count < 2 ^ 32 → IsEncoding (pipe_encoding with_rtx count ssrc)
encoding_reads true count ssrc fits = (omega arith, omega arith)
encoding_reads false count ssrc fits = (omega arith, tt)

encodings_read : (with_rtx : Bool) (count first n : ℕ) → first + n + count ≤ 2 ^ 32 → Each IsEncoding (map (pipe_encoding with_rtx count) (range_with_len first n))
encodings_read with_rtx count first zero fits = tt
encodings_read with_rtx count first (suc n) fits =
    let here : first + count < 2 ^ 32 = omega arith in
    let rest : first + 1 + n + count ≤ 2 ^ 32 = omega arith in
    (encoding_reads with_rtx count first here, encodings_read with_rtx count (first + 1) n rest)

not_own : (with_rtx : Bool) (count ssrc next n : ℕ) → ssrc < next → is_own (map (pipe_encoding with_rtx count) (range_with_len next n)) ssrc ≡ false
not_own with_rtx count ssrc next zero before = refl
not_own with_rtx count ssrc next (suc n) before =
    let other : next ≡ ssrc → ⊥ = λ same. omega arith in
    let rest : ssrc < next + 1 = omega arith in
    or_from _ _ (ne_eqb next ssrc other) (not_own with_rtx count ssrc (next + 1) n rest)

are_apart : (with_rtx : Bool) (count first n : ℕ) → AreApart (map (pipe_encoding with_rtx count) (range_with_len first n))
are_apart with_rtx count first zero = tt
are_apart with_rtx count first (suc n) =
    let behind : first < first + 1 = omega arith in
    (not_own with_rtx count first (first + 1) n behind, are_apart with_rtx count (first + 1) n)

pub pipe_reads : (consumable : Params) (with_rtx : Bool) (first : ℕ) → IsParams consumable → first + 2 * length consumable.encodings ≤ 2 ^ 32 → IsParams (pipe_params consumable with_rtx first)
unfolding pipe_params
pipe_reads consumable with_rtx first h fits =
    let count = length consumable.encodings in
    let all : first + count + count ≤ 2 ^ 32 = omega arith in
    record {
      codecs = codecs_read _ with_rtx (filter (codec_stays with_rtx) consumable.codecs) (Each-filter _ (codec_stays with_rtx) consumable.codecs h.codecs);
      exts = Each-filter _ (λ ext. not (is_of_one_transport ext)) consumable.exts h.exts;
      encodings = encodings_read with_rtx count first count all;
      apart = are_apart with_rtx count first count;
    }
