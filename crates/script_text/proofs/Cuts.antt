-- Words cut apart, by how many there are.
use Rattle.std.proofs.Common.{◌≡◌, ℕ, ◌<◌, List, [], ◌∷◌, true, false, eqb, length, Ok, Err, refl, ap, arith, ◌∙◌}
use Rattle.std.proofs.lemmas.List.Splits.{join_with_byte-slice_split, length-slice_split}
use Rattle.ms_base.specs.declared.code.Code.TheVariants as code
use Rattle.script_text.specs.Words.{words, rest_of_line, seed_of_words}
use Rattle.script_text.specs.Forms.{cut}
use Rattle.script_text.specs.Calls.{await_of}

pub some_words : (text : List ℕ) → 0 < length (words text)
some_words text = omega (arith, length-slice_split (λ b. eqb b 32) text)

rest_piece_of : (ws : List (List ℕ)) → 0 < length ws → cut true 0 ws ≡ Ok (rest_of_line ws ∷ [])
rest_piece_of [] h = absurd (omega arith)
rest_piece_of (w ∷ ws) h = refl

-- the words of a text, joined again, are the text
pub rest_piece : (text : List ℕ) → cut true 0 (words text) ≡ Ok (text ∷ [])
rest_piece text = rest_piece_of (words text) (some_words text) ∙ ap (λ (t : List ℕ). Ok (t ∷ [])) (join_with_byte-slice_split 32 text)

pub one_too_many : (w : List ℕ) (ws : List (List ℕ)) → 0 < length ws → cut false 0 (w ∷ ws) ≡ Err code.Words
one_too_many w [] h = absurd (omega arith)
one_too_many w (v ∷ ws) h = refl

pub head_other : (word : List ℕ) (ws : List (List ℕ)) → (length ws ≡ 3 → ⊥) → seed_of_words word ws ≡ Err code.Head
unfolding seed_of_words
head_other word [] unfit = refl
head_other word (a ∷ []) unfit = refl
head_other word (a ∷ b ∷ []) unfit = refl
head_other word (a ∷ b ∷ d ∷ []) unfit = absurd (unfit refl)
head_other word (a ∷ b ∷ d ∷ e ∷ ws) unfit = refl

pub await_other : (ws : List (List ℕ)) → (length ws ≡ 3 → ⊥) → await_of ws ≡ Err code.Words
unfolding await_of
await_other [] unfit = refl
await_other (a ∷ []) unfit = refl
await_other (a ∷ b ∷ []) unfit = refl
await_other (a ∷ b ∷ d ∷ []) unfit = absurd (unfit refl)
await_other (a ∷ b ∷ d ∷ e ∷ ws) unfit = refl
