-- The first line of a text: what is written is a line and is read as the seed, and what is read is written so.
use Rattle.std.proofs.Common.{◌≡◌, ℕ, ◌^◌, ◌<◌, List, [], ◌∷◌, ◌++◌, ◌&&◌, codes, Result, Ok, Err, refl, sym, ◌∙◌, ap, arith}
use Rattle.std.proofs.lemmas.Bool.{and_parts, and_from, cond-true, le-leb}
use Rattle.std.proofs.lemmas.Slice.Eq.{bytes_eq-Decides}
use Rattle.std.proofs.lemmas.Str.{is_utf8-from_IsUtf8}
use Rattle.std.specs.Fmt.{decimal}
use Rattle.std.specs.Str.{is_utf8}
use Rattle.ms_base.specs.declared.code.Code.{Code}
use Rattle.ms_base.specs.declared.code.Code.TheVariants as code
use Rattle.script_text.specs.Words.{words, rest_of_line, is_word, number_of, max_seed, head_words, or_head, head_of, seed_of_words, seed_of_line}
use Rattle.script_text.specs.Parted.{picked}
use Rattle.script_text.proofs.WordLaws.{IsLine, word_is, within, number_plain, number_reads, number_back, IsPlain, joined_line, plain_line, next_word, last_word}

-- a first line that has these words, and is read as the seed
pub record IsHead (word : List ℕ) (seed : ℕ) (text : List ℕ) : Type 0 where
  pub line : IsLine text
  pub found : words text ≡ head_words word seed
  pub read : seed_of_line word text ≡ Ok seed

seed_read : (word : List ℕ) (seed : ℕ) → seed < 2 ^ 60 → seed_of_words word (head_words word seed) ≡ Ok seed
unfolding seed_of_words
seed_read word seed h =
    cond-true (is_word word word && is_word (codes "1") (codes "1")) (or_head (number_of 0 max_seed (decimal seed))) (Err code.Head) (and_from _ _ ((bytes_eq-Decides word word).1 refl) refl)
    ∙ ap or_head (number_reads 0 max_seed seed (omega arith) (and_from _ _ (le-leb 0 seed (omega arith)) (le-leb seed max_seed (omega arith))))

pub head_reads : (word : List ℕ) (seed : ℕ) → IsPlain word → seed < 2 ^ 60 → IsHead word seed (rest_of_line (head_words word seed))
unfolding seed_of_line
head_reads word seed plain h =
    let d : List ℕ = decimal seed in
    let number = number_plain seed (omega arith) in
    let line : IsLine (word ++ 32 ∷ (codes "1" ++ 32 ∷ d)) = joined_line word (codes "1" ++ 32 ∷ d) plain (joined_line (codes "1") d refl (plain_line d number)) in
    let found : words (word ++ 32 ∷ (codes "1" ++ 32 ∷ d)) ≡ head_words word seed =
    next_word word (codes "1" ++ 32 ∷ d) plain ∙ ap (λ ws. word ∷ ws) (next_word (codes "1") d refl ∙ ap (λ ws. codes "1" ∷ ws) (last_word d number)) in
    record {
      line = line;
      found = found;
      read = cond-true _ (seed_of_words word (words (word ++ 32 ∷ (codes "1" ++ 32 ∷ d)))) (Err code.Utf8) (is_utf8-from_IsUtf8 _ line.text)
          ∙ ap (seed_of_words word) found ∙ seed_read word seed h;
    }

or_head_ok : (r : Result ℕ Code) (x : ℕ) → or_head r ≡ Ok x → r ≡ Ok x
or_head_ok (Ok y) x h = h
or_head_ok (Err c) x h = absurd cc

seed_by : (word a b d : List ℕ) (seed : ℕ) → head_of word a b d ≡ Ok seed → (a ∷ b ∷ d ∷ [] ≡ head_words word seed) × (seed < 2 ^ 60)
seed_by word a b d seed h =
    let found = picked (is_word word a && is_word (codes "1") b) (or_head (number_of 0 max_seed d)) code.Head seed h in
    let tests = and_parts (is_word word a) (is_word (codes "1") b) found.0 in
    let number = number_back 0 max_seed d seed (omega arith) (or_head_ok _ seed found.1) in
    let bounds = within 0 max_seed seed number.1 in (
      ap (λ w. w ∷ b ∷ d ∷ []) (word_is word a tests.0) ∙ ap (λ w. word ∷ w ∷ d ∷ []) (word_is (codes "1") b tests.1) ∙ ap (λ w. word ∷ codes "1" ∷ w ∷ []) (sym number.0),
      omega arith,
    )

words_back : (word : List ℕ) (ws : List (List ℕ)) (seed : ℕ) → seed_of_words word ws ≡ Ok seed → (ws ≡ head_words word seed) × (seed < 2 ^ 60)
unfolding seed_of_words
words_back word [] seed h = absurd cc
words_back word (a ∷ []) seed h = absurd cc
words_back word (a ∷ b ∷ []) seed h = absurd cc
words_back word (a ∷ b ∷ d ∷ []) seed h = seed_by word a b d seed h
words_back word (a ∷ b ∷ d ∷ e ∷ ws) seed h = absurd cc

-- the words of a first line that was read, and the bound of its seed
pub head_back : (word line : List ℕ) (seed : ℕ) → seed_of_line word line ≡ Ok seed → (words line ≡ head_words word seed) × (seed < 2 ^ 60)
unfolding seed_of_line
head_back word line seed h = words_back word (words line) seed (picked (is_utf8 line) (seed_of_words word (words line)) code.Utf8 seed h).1
