-- Encodings that are apart have different SSRCs.
use Rattle.std.proofs.Common.{◌≡◌, ℕ, ◌==◌, ◌||◌, List, [], ◌∷◌, Bool, true, false, map, refl, sym, ap, ◌∙◌, true≢false}
use Rattle.std.proofs.lemmas.Bool.{eqb-true}
use Rattle.std.specs.List.{AllByRecursion, IsDistinct}
use Rattle.pipe_consumer.specs.Laws.{AreDifferent}
use Rattle.rtp_params.specs.declared.encoding.Encoding.{Encoding}
use Rattle.rtp_params.specs.Encodings.{is_own}
use Rattle.rtp_params.specs.Readable.{AreApart}

both-true : (a b : Bool) → (a ≡ true → b ≡ true) → (b ≡ true → a ≡ true) → a ≡ b
both-true true b f g = sym (f refl)
both-true false true f g = g refl
both-true false false f g = refl

turned : (a b : ℕ) → (a == b) ≡ true → (b == a) ≡ true
turned a b t =
    let same : a ≡ b = eqb-true a b t in
    ap (λ (x : ℕ). x == a) (sym same) ∙ (ap (λ (x : ℕ). a == x) same ∙ t)

or-left : (a b : Bool) → (a || b) ≡ false → a ≡ false
or-left true b h = h
or-left false b h = refl

or-right : (a b : Bool) → (a || b) ≡ false → b ≡ false
or-right true b h = absurd (true≢false h)
or-right false b h = h

none-later : (x : ℕ) (es : List Encoding) → is_own es x ≡ false → AllByRecursion (λ y. (x == y) ≡ false) (map (λ e. e.ssrc) es)
none-later x [] h = tt
none-later x (e ∷ es) h =
    (both-true (x == e.ssrc) (e.ssrc == x) (turned x e.ssrc) (turned e.ssrc x) ∙ or-left (e.ssrc == x) (is_own es x) h, none-later x es (or-right (e.ssrc == x) (is_own es x) h))

pub different : (es : List Encoding) → AreApart es → AreDifferent (map (λ e. e.ssrc) es)
unfolding IsDistinct
different [] h = tt
different (e ∷ es) h = (none-later e.ssrc es h.0, different es h.1)
